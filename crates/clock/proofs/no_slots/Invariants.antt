-- `clock::no_slots` meets its contract: the slots that are left decide as all do.
-- A turn is the law of `all_b` at one place.
use mathlib.Core.Path.{◌≡◌}
use Prim.Native.Nat.{◌-◌, ◌≤◌}
use lib.Dec.{eqb}
use lib.ListN.{length, drop}
use Rattle.laws.specs.Base.{all_b}
use Rattle.clock.proofs.no_slots.Given as goal

abbrev pub invariant-loop-k : goal.invariant-loop-k
invariant-loop-k l = (l.k ≤ length l.slots) × (all_b (λ s. eqb s 0) l.slots ≡ all_b (λ s. eqb s 0) (drop l.k l.slots))

abbrev pub decreases-loop-k : goal.decreases-loop-k
decreases-loop-k l = length l.slots - l.k
