-- `clock::taken_over` meets its contract: the controller, with ten times its slot.
-- What the call ensures; ten times a slot is far from wrapping.
use native.Mathlib.Omega.{arith}
use Rattle.clock.specs.Turn.{takes_over}
use Rattle.clock.proofs.taken_over.Goals as goal

pub overflow_mul-result : goal.overflow_mul-result
overflow_mul-result c = omega (arith, c.slot_of.ensures, c.requires.most c.args.k)

pub returns : goal.returns
unfolding takes_over
returns c = rw c.slot_of.ensures
