-- `editions::numbers_of` meets its contract: a loop fills the numbers after the first, which is the edition's.
-- The first n + 1 stand there already, and after the last turn all do.
use mathlib.Core.Path.{◌≡◌}
use mathlib.Core.List.{◌∷◌}
use Prim.Native.Nat.{◌+◌}
use lib.ListN.{length, take}
use Rattle.keys.specs.Settings.{newest}
use Rattle.editions.proofs.numbers_of.Given as goal

abbrev pub invariant-loop-n : goal.invariant-loop-n
invariant-loop-n l = (length l.numbers ≡ 148) × (take (l.n + 1) l.numbers ≡ newest ∷ take l.n l.s.values)
