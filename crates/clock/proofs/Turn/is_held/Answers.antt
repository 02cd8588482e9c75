-- `clock::Turn::is_held` meets its contract: three tests, joined in the order of the definition.
-- Each way rewrites with what the call ensures and which way the tests went.
use native.Mathlib.Omega.{arith}
use borrow.Author.Tests.{lt-ltb, le-ltb, le-leb, lt-leb}
use Rattle.clock.proofs.Turn.is_held.Goals as goal

pub overflow_mul-result : goal.overflow_mul-result
overflow_mul-result c =
    omega (arith, c.slot_of-slot.ensures, c.requires.most c.args.self.holder)

pub returns-then-self-ge1 : goal.returns-then-self-ge1
returns-then-self-ge1 c = rw (← c.slot_of-slot.ensures, lt-ltb _ _ c.if-slot-gt0.true, le-leb _ _ c.if-self-ge1.true)

pub returns-else-self-ge1 : goal.returns-else-self-ge1
returns-else-self-ge1 c = rw (← c.slot_of-slot.ensures, lt-ltb _ _ c.if-slot-gt0.true, lt-leb _ _ c.if-self-ge1.false)

pub returns-else-slot-gt0 : goal.returns-else-slot-gt0
returns-else-slot-gt0 c = rw (← c.slot_of-slot.ensures, le-ltb _ _ c.if-slot-gt0.false)
