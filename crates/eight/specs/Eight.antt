-- Document 01, "One crossing, in order", steps 3 and 4, and "Sound": what is said of each of the eight controllers.
use Rattle.std.specs.Prelude.{ℕ, Bool, List, eqb, get_or}
use Rattle.laws.specs.Base.{if, all_i}
use Rattle.clock.specs.declared.Clock.{Clock}
use Rattle.clock.specs.Clock.{ticked_of}
use Rattle.states.specs.Names.{status_of}
use Rattle.ptc.specs.declared.Ptc.{Ptc}
use Rattle.ptc.specs.declared.Plan.{Plan}
use Rattle.ptc.specs.declared.Scene.{Scene}
use Rattle.ptc.specs.declared.Crossed.{Crossed}
use Rattle.ptc.specs.Crossing.{crossed_of}
use Rattle.ptc.specs.Sound.{sound_ptc}
use Rattle.records.specs.Records.{asked_in}
use Rattle.records.specs.Rows.{row_byte, clears_orbit}

-- steps 3 and 4 of controller k, by its own value and by what all see
unfoldable pub act_of : (plan : Plan) (scene : Scene) (classes : List ℕ) (requests k : ℕ) (p : Ptc) → Crossed
act_of plan scene classes requests k p = crossed_of plan scene k (get_or classes k 0) (asked_in requests k) p

-- of each controller: its next value, its byte of the row, and its status after the move
abbrev pub ptc_of : (plan : Plan) (scene : Scene) (classes : List ℕ) (requests k : ℕ) (p : Ptc) → Ptc
ptc_of plan scene classes requests k p = (act_of plan scene classes requests k p).ptc

unfoldable pub byte_of : (plan : Plan) (scene : Scene) (classes : List ℕ) (requests k : ℕ) (p : Ptc) → ℕ
byte_of plan scene classes requests k p =
    let a = act_of plan scene classes requests k p in
    row_byte a.code a.sent a.cal

unfoldable pub shown_of : (plan : Plan) (scene : Scene) (classes : List ℕ) (requests k : ℕ) (p : Ptc) → ℕ
shown_of plan scene classes requests k p = status_of (act_of plan scene classes requests k p).ptc.state

-- step 1: the clock; controller 0's code 8 then sets the orbit count to 0
unfoldable pub clock_of : (orbit : ℕ) (c : Clock) (marker : Bool) (bytes : List ℕ) → Clock
clock_of orbit c marker bytes =
    let t = ticked_of orbit c marker in
    record { crossings = t.crossings; next = t.next; orbits = if (clears_orbit bytes) 0 t.orbits; errors = t.errors }

-- each controller among m crossings done: state, wait, cycle, counts and the three sums
abbrev pub sound_at : (holder m k : ℕ) (p : Ptc) → Bool
sound_at holder m k p = sound_ptc k (eqb k holder) m p

unfoldable pub sound_eight : (holder m : ℕ) (ps : List Ptc) → Bool
sound_eight holder m ps = all_i (sound_at holder m) 0 ps
