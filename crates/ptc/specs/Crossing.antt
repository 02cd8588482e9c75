-- Document 01, "One crossing, in order", steps 3 and 4 for one controller. It sees nothing of the other seven.
use Rattle.std.specs.Prelude.{ℕ, ◌+◌, Bool, ◌&&◌, ◌||◌, ltb, eqb}
use Rattle.laws.specs.Base.{if, one}
use Rattle.states.specs.Names.{WARN}
use Rattle.states.specs.Moves.{moved_of, orbit_code}
use Rattle.counts.specs.Counts.{SENT, fate_of, counted_of}
use Rattle.ptc.specs.declared.Ptc.{Ptc}
use Rattle.ptc.specs.declared.Plan.{Plan}
use Rattle.ptc.specs.declared.Scene.{Scene}
use Rattle.ptc.specs.declared.Crossed.{Crossed}
use Rattle.ptc.specs.Cycle.{NONE, OPEN, kept_of, opened_of, cycle_code, asks_of}

-- READY uses normal limits, WARN low ones: the first refusing rule, 0 where a trigger is free
abbrev pub rule_in : Scene → ℕ → ℕ
rule_in scene s = if (eqb s WARN) scene.low scene.norm

abbrev pub free_in : Scene → ℕ → Bool
free_in scene s = eqb (rule_in scene s) 0

-- at one number one code is sent: by the move, in every state, or by the cycle
abbrev pub code_of : (move orbit cycle : ℕ) → ℕ
code_of move orbit cycle = if (ltb 0 move) move (if (ltb 0 orbit) orbit cycle)

-- code 7 sets events to 0; then both kinds of trigger count
abbrev pub events_of : (move events : ℕ) (sent cal : Bool) → ℕ
events_of move events sent cal = if (eqb move 7) 0 events + one (sent || cal)

unfoldable pub crossed_of : (plan : Plan) (scene : Scene) (k class : ℕ) (asked : Bool) (p : Ptc) → Crossed
crossed_of plan scene k class asked p =
    let at = plan.at in
    let number = scene.number in
    let own = eqb k scene.holder in
    let move = moved_of at plan.waits k number class p.state p.wait in
    let kept = kept_of move.state own p.cycle in
    let cycle = opened_of at number own kept in
    let asks = asks_of at number cycle in
    let free = free_in scene move.state in
    let fate = fate_of plan.gap number move.state own (eqb cycle OPEN) (rule_in scene move.state) in
    let sent = asked && eqb fate SENT in
    let cal = asks && free in
    record {
      ptc = record {
        state = move.state;
        wait = move.wait;
        cycle = if asks NONE cycle;
        counts = counted_of asked fate asks free p.counts;
        events = events_of move.code p.events sent cal;
      };
      code = code_of move.code (orbit_code at number) (cycle_code at number kept cycle);
      sent = sent;
      cal = cal;
    }
