-- `settings::Schedule::cycle_in_order` meets its contract: each way rewrites with the test that led there.
-- Where the first test holds, the second's value is the answer.
use borrow.Author.Tests.{lt-ltb, le-ltb}
use Rattle.settings.proofs.names.Schedule.cycle_in_order.Goals as goal

pub returns-then-self : goal.returns-then-self
returns-then-self c = rw (lt-ltb _ _ c.if-self.true)

pub returns-else-self : goal.returns-else-self
returns-else-self c = rw (le-ltb _ _ c.if-self.false)
