-- What a crossing's triggers and code say: a request's trigger and a calibration's never stand together, and each names its conditions.
-- By the tests of the definitions of a request's fate and of the cycle.
use mathlib.Core.Path.{◌≡◌}
use mathlib.Core.Bool.{Bool, true, false, ◌&&◌}
use Prim.Native.Nat.{ℕ, ◌≤◌}
use native.Mathlib.Omega.{arith}
use lib.Dec.{eqb}
use Rattle.states.specs.Names.{running}
use Rattle.states.specs.Moves.{moved_of, orbit_code}
use Rattle.states.proofs.Keeps.{code_low}
use Rattle.counts.specs.Counts.{in_gap, fate_of}
use Rattle.ptc.specs.declared.Ptc.{Ptc}
use Rattle.ptc.specs.declared.Plan.{Plan}
use Rattle.ptc.specs.declared.Scene.{Scene}
use Rattle.ptc.specs.Cycle.{kept_of, opened_of, cycle_code, asks_of}
use Rattle.ptc.specs.Crossing.{free_in, crossed_of}

module _ (plan : Plan) (scene : Scene) (k class : ℕ) (asked : Bool) (p : Ptc) where
  -- what a request's trigger says of the crossing and of the state after the move
  pub record SentIs : Type 0 where
    pub requested : asked ≡ true
    pub own : eqb k scene.holder ≡ true
    pub runs : running (crossed_of plan scene k class asked p).ptc.state ≡ true
    pub outside : in_gap plan.gap scene.number ≡ false
    pub free : free_in scene (crossed_of plan scene k class asked p).ptc.state ≡ true

  -- and what a calibration trigger says
  pub record CalIs : Type 0 where
    pub own : eqb k scene.holder ≡ true
    pub runs : running (crossed_of plan scene k class asked p).ptc.state ≡ true
    pub due : eqb scene.number plan.at.cal ≡ true
    pub free : free_in scene (crossed_of plan scene k class asked p).ptc.state ≡ true

  pub sent_is : (crossed_of plan scene k class asked p).sent ≡ true → SentIs
  unfolding crossed_of fate_of
  sent_is e = grind arith

  pub cal_is : (crossed_of plan scene k class asked p).cal ≡ true → CalIs
  unfolding crossed_of kept_of opened_of asks_of
  cal_is e = grind arith

  pub never_both : ((crossed_of plan scene k class asked p).sent && (crossed_of plan scene k class asked p).cal) ≡ false
  unfolding crossed_of fate_of asks_of
  never_both = grind arith

  pub code_fits : (crossed_of plan scene k class asked p).code ≤ 13
  unfolding crossed_of moved_of orbit_code cycle_code
  code_fits = grind (arith, code_low plan.at k scene.number class p.state)
