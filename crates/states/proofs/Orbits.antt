-- State 3 is the one that sends code 8, at at_oc0: a move's code tells of it.
-- In state 3 by its number; in every other state the code is none or another.
use mathlib.Core.Path.{◌≡◌}
use mathlib.Core.Bool.{◌&&◌}
use Prim.Native.Nat.{ℕ}
use native.Mathlib.Omega.{arith}
use lib.Dec.{eqb}
use Rattle.settings.specs.declared.names.Schedule.{Schedule}
use Rattle.settings.specs.declared.names.Waits.{Waits}
use Rattle.states.specs.Moves.{move_of, moved_of, clears_orbits}

move_eight : (at : Schedule) (k number class s : ℕ) → eqb (move_of at k number class s).code 8 ≡ eqb s 3 && eqb number at.oc0
unfolding move_of
move_eight at k number class s = grind arith

pub moved_eight : (at : Schedule) (w : Waits) (k number class s wait : ℕ) → eqb (moved_of at w k number class s wait).code 8 ≡ clears_orbits at number s wait
unfolding moved_of
moved_eight at w k number class s wait = grind (arith, move_eight at k number class s)
