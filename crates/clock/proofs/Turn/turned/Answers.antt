-- `clock::Turn::turned` meets its contract: the turn falls where an orbit ends and there is a holder.
-- Each way rewrites with its tests and with what the call ensures.
use borrow.Author.Tests.{ne_eqb}
use Rattle.clock.specs.Turn.{turned_of}
use Rattle.clock.proofs.Turn.turned.Goals as goal

pub returns-then-not-ends : goal.returns-then-not-ends
unfolding turned_of
returns-then-not-ends c = rw c.if-not-ends.true

pub returns-then-self-eq8 : goal.returns-then-self-eq8
unfolding turned_of
returns-then-self-eq8 c = rw (c.if-not-ends.false, c.if-self-eq8.true)

pub returns : goal.returns
unfolding turned_of
returns c = rw (c.fallen.ensures, c.if-not-ends.false, ne_eqb _ _ c.if-self-eq8.false)
