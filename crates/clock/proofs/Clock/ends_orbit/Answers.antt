-- `clock::Clock::ends_orbit` meets its contract: the number is 0, and this is not the very first crossing.
-- What the call ensures, and which way the test of the number went.
use borrow.Author.Tests.{ne_eqb}
use Rattle.clock.proofs.Clock.ends_orbit.Goals as goal

pub returns-then-number-eq0 : goal.returns-then-number-eq0
returns-then-number-eq0 c = rw (← c.number.ensures, c.if-number-eq0.true)

pub returns-else-number-eq0 : goal.returns-else-number-eq0
returns-else-number-eq0 c = rw (← c.number.ensures, ne_eqb _ _ c.if-number-eq0.false)
