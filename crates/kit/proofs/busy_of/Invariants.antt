-- `kit::busy_of` meets its contract: a loop marks the numbers of one controller after the other.
-- After k turns the table is that of the first k; a turn is the definition's clause.
use mathlib.Core.Path.{◌≡◌}
use Rattle.kit.specs.Support.Laid.{busy_for}
use Rattle.kit.proofs.busy_of.Given as goal

abbrev pub invariant-loop-k : goal.invariant-loop-k
invariant-loop-k l = l.busy ≡ busy_for l.s l.k
