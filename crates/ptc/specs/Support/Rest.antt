-- A controller that a crossing leaves where it is: what the crossing is then to it. Document 01, "States", "Cycle and trigger".
use Rattle.std.specs.Prelude.{ℕ, ◌+◌, Bool, false, ◌&&◌, eqb}
use Rattle.laws.specs.Base.{one}
use Rattle.settings.specs.declared.names.Gap.{Gap}
use Rattle.states.specs.Support.Rest.{resting}
use Rattle.counts.specs.Counts.{SENT, fate_of, requested_of}
use Rattle.ptc.specs.declared.Ptc.{Ptc}
use Rattle.ptc.specs.declared.Scene.{Scene}
use Rattle.ptc.specs.declared.Crossed.{Crossed}
use Rattle.ptc.specs.Cycle.{NONE}
use Rattle.ptc.specs.Crossing.{rule_in}

-- no wait, no cycle, and a state that stays while the class is the same
unfoldable pub at_rest : ℕ → Ptc → Bool
at_rest class p = eqb p.wait 0 && (eqb p.cycle NONE && resting class p.state)

-- a request's fate at a controller without a cycle
abbrev pub fate_at : Gap → Scene → ℕ → Ptc → ℕ
fate_at gap scene k p = fate_of gap scene.number p.state (eqb k scene.holder) false (rule_in scene p.state)

-- only a request changes it: its counts and events; the code is the orbit's
unfoldable pub rested_of : (gap : Gap) (code : ℕ) (scene : Scene) (k : ℕ) (asked : Bool) (p : Ptc) → Crossed
rested_of gap code scene k asked p =
    let fate = fate_at gap scene k p in
    let sent = asked && eqb fate SENT in
    record {
      ptc = record {
        state = p.state;
        wait = p.wait;
        cycle = p.cycle;
        counts = requested_of asked fate p.counts;
        events = p.events + one sent;
      };
      code = code;
      sent = sent;
      cal = false;
    }
