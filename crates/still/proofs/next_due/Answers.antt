-- `still::next_due` meets its contract: the bits from k on, and the zeros before the first of them.
-- A shift is a division; what is counted is at most 64.
use Prim.Native.Nat.{◌/◌, ◌^◌}
use native.Mathlib.Omega.{arith}
use borrow.Author.Tests.{eq-eqb, ne_eqb}
use lib.Count.{trailing_le}
use Rattle.still.specs.Support.Still.{next_due}
use Rattle.still.proofs.next_due.Goals as goal

pub returns-then-rest-eq0 : goal.returns-then-rest-eq0
unfolding next_due
returns-then-rest-eq0 c = rw (eq-eqb _ _ c.if-rest-eq0.true)

pub overflow_cast-result : goal.overflow_cast-result
overflow_cast-result c = record { fits = omega (arith, trailing_le 64 (c.args.due / 2 ^ c.args.k)) }

pub overflow_add-result : goal.overflow_add-result
overflow_add-result c = record { fits = omega (arith, trailing_le 64 (c.args.due / 2 ^ c.args.k)) }

pub returns : goal.returns
unfolding next_due
returns c = rw (ne_eqb _ _ c.if-rest-eq0.false)
