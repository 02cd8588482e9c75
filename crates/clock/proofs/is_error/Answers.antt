-- `clock::is_error` meets its contract: two tests, joined.
-- Each way is read from its branch.
use Rattle.clock.proofs.is_error.Goals as goal

pub returns-then-marker : goal.returns-then-marker
returns-then-marker c = rw c.if-marker.true
