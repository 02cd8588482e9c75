-- A code that a move alone sends tells of the move: the codes of every orbit (1, 11) and of the cycle (13, 2) are others.
-- Of the three that may be due at one number, the move's is sent first.
use mathlib.Core.Path.{◌≡◌}
use mathlib.Core.Bool.{Bool, false}
use Prim.Native.Nat.{ℕ}
use native.Mathlib.Omega.{arith}
use lib.Dec.{eqb}
use Rattle.settings.specs.declared.names.Schedule.{Schedule}
use Rattle.states.specs.Moves.{moved_of, orbit_code}
use Rattle.ptc.specs.declared.Ptc.{Ptc}
use Rattle.ptc.specs.declared.Plan.{Plan}
use Rattle.ptc.specs.declared.Scene.{Scene}
use Rattle.ptc.specs.Cycle.{cycle_code}
use Rattle.ptc.specs.Crossing.{code_of, crossed_of}

-- n is no code of every orbit, nor of the cycle
pub record MovesOnly (n : ℕ) : Type 0 where
  pub none : eqb 0 n ≡ false
  pub bc0 : eqb 1 n ≡ false
  pub gap : eqb 11 n ≡ false
  pub opens : eqb 13 n ≡ false
  pub te : eqb 2 n ≡ false

module _ (n : ℕ) (m : MovesOnly n) where
  orbit_other : (at : Schedule) (number : ℕ) → eqb (orbit_code at number) n ≡ false
  unfolding orbit_code
  orbit_other at number = grind arith

  cycle_other : (at : Schedule) (number before now : ℕ) → eqb (cycle_code at number before now) n ≡ false
  unfolding cycle_code
  cycle_other at number before now = grind arith

  tells_move : (move orbit cycle : ℕ) → eqb orbit n ≡ false → eqb cycle n ≡ false → eqb (code_of move orbit cycle) n ≡ eqb move n
  tells_move move orbit cycle o c = grind arith

  pub code_of_move : (plan : Plan) (scene : Scene) (k class : ℕ) (asked : Bool) (p : Ptc)
      → eqb (crossed_of plan scene k class asked p).code n ≡ eqb (moved_of plan.at plan.waits k scene.number class p.state p.wait).code n
  unfolding crossed_of
  code_of_move plan scene k class asked p = tells_move _ _ _ (orbit_other plan.at scene.number) (cycle_other plan.at scene.number _ _)
