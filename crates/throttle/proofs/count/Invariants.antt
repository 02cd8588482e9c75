-- `throttle::count` meets its contract: the marks counted and those of what is left make those of all.
-- A turn takes the crossings of one word; before crossing 0 there are none.
use mathlib.Core.Path.{◌≡◌}
use Prim.Native.Nat.{◌+◌, ◌≤◌}
use Rattle.throttle.specs.Marks.{among}
use Rattle.throttle.proofs.count.Given as goal

abbrev pub invariant-loop-left : goal.invariant-loop-left
invariant-loop-left l = (l.left ≤ l.end) × (l.end ≤ l.n) × (l.sum + l.left ≤ l.k) × (l.sum + among l.marks l.end l.left ≡ among l.marks l.n l.k)

abbrev pub decreases-loop-left : goal.decreases-loop-left
decreases-loop-left l = l.left
