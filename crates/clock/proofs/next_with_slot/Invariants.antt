-- `clock::next_with_slot` meets its contract: the search over those that are left finds what the whole search does.
-- A turn, a find and the end are laws of the search.
use mathlib.Core.Path.{◌≡◌}
use Prim.Native.Nat.{◌+◌}
use Rattle.clock.specs.Turn.{next_from}
use Rattle.clock.proofs.next_with_slot.Given as goal

abbrev pub invariant-loop-left : goal.invariant-loop-left
invariant-loop-left l = (l.i + l.left ≡ l.first + l.count) × (next_from l.slots l.first l.count ≡ next_from l.slots l.i l.left)

abbrev pub decreases-loop-left : goal.decreases-loop-left
decreases-loop-left l = l.left
