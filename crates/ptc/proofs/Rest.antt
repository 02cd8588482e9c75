-- A crossing of a controller at rest is its orbit's code and the counting of a request; and which crossings do not look at the throttle.
-- At rest the state stays and no cycle is kept, opened or asks. Away from the slot, or without request and cycle, free decides nothing.
use mathlib.Core.Path.{◌≡◌}
use mathlib.Core.Logic.{◌⊎◌}
use mathlib.Core.Bool.{Bool, true, false}
use Prim.Native.Nat.{ℕ}
use native.Mathlib.Omega.{arith}
use lib.Dec.{eqb}
use Rattle.settings.specs.declared.names.Gap.{Gap}
use Rattle.settings.specs.declared.names.Schedule.{Schedule}
use Rattle.settings.specs.declared.names.Waits.{Waits}
use Rattle.states.specs.Moves.{moved_of, orbit_code}
use Rattle.states.specs.Support.Rest.{resting}
use Rattle.states.proofs.Rest.{rest_moved}
use Rattle.counts.specs.Counts.{fate_of, requested_of, calibrated_of}
use Rattle.ptc.specs.declared.Ptc.{Ptc}
use Rattle.ptc.specs.declared.Plan.{Plan}
use Rattle.ptc.specs.declared.Scene.{Scene}
use Rattle.ptc.specs.Cycle.{kept_of, opened_of, cycle_code, asks_of}
use Rattle.ptc.specs.Crossing.{rule_in, crossed_of}
use Rattle.ptc.specs.Support.Rest.{at_rest, rested_of}

-- the parts of the test
record Rests (class : ℕ) (p : Ptc) : Type 0 where
  wait : p.wait ≡ 0
  cycle : p.cycle ≡ 0
  stays : resting class p.state ≡ true

read : (class : ℕ) (p : Ptc) → at_rest class p ≡ true → Rests class p
unfolding at_rest
read class p e = grind arith

pub rest_crossed : (plan : Plan) (scene : Scene) (k class : ℕ) (asked : Bool) (p : Ptc) → at_rest class p ≡ true
    → crossed_of plan scene k class asked p ≡ rested_of plan.gap (orbit_code plan.at scene.number) scene k asked p
unfolding crossed_of rested_of kept_of opened_of cycle_code asks_of requested_of calibrated_of
rest_crossed plan scene k class asked p e =
    let r = read class p e in
    rw (r.wait, r.cycle, rest_moved plan.at plan.waits k scene.number class p.state r.stays) (grind arith)

pub rest_state : (at : Schedule) (w : Waits) (k number class : ℕ) (p : Ptc) → at_rest class p ≡ true
    → (moved_of at w k number class p.state p.wait).state ≡ p.state
unfolding at_rest
rest_state at w k number class p e = grind (arith, rest_moved at w k number class p.state)

pub rest_silent : (gap : Gap) (code : ℕ) (scene : Scene) (k : ℕ) (p : Ptc)
    → rested_of gap code scene k false p ≡ record { ptc = p; code = code; sent = false; cal = false }
unfolding rested_of requested_of
rest_silent gap code scene k p = grind arith

-- another than the holder, or one without request and cycle, does not look at the throttle
pub unasked_scene : (plan : Plan) (a b : Scene) (k class : ℕ) (asked : Bool) (p : Ptc) → a.number ≡ b.number → a.holder ≡ b.holder
    → (eqb k a.holder ≡ false) ⊎ ((asked ≡ false) × (p.cycle ≡ 0))
    → crossed_of plan a k class asked p ≡ crossed_of plan b k class asked p
unfolding crossed_of fate_of kept_of opened_of asks_of requested_of calibrated_of
unasked_scene plan a b k class asked p n h idle = grind arith

-- the throttle is looked at in the state after the move alone
pub moved_scene : (plan : Plan) (a b : Scene) (k class : ℕ) (asked : Bool) (p : Ptc) → a.number ≡ b.number → a.holder ≡ b.holder
    → (let s = (moved_of plan.at plan.waits k a.number class p.state p.wait).state in rule_in a s ≡ rule_in b s)
    → crossed_of plan a k class asked p ≡ crossed_of plan b k class asked p
unfolding crossed_of
moved_scene plan a b k class asked p n h e = rw (← n, ← h, e)
