-- `settings::Gap::is_inside` meets its contract: each way rewrites with the test that led there.
-- Where the first test holds, the second's value is the answer.
use borrow.Author.Tests.{le-leb, lt-leb}
use Rattle.settings.proofs.names.Gap.is_inside.Goals as goal

pub returns-then-self : goal.returns-then-self
returns-then-self c = rw (le-leb _ _ c.if-self.true)

pub returns-else-self : goal.returns-else-self
returns-else-self c = rw (lt-leb _ _ c.if-self.false)
