-- Document 01, "States", the commands: what one that is taken changes. Elsewhere nothing changes.
use Rattle.std.specs.Prelude.{ℕ, Bool, true, false, not, eqb}
use Rattle.laws.specs.Base.{if}
use Rattle.settings.specs.declared.names.Waits.{Waits}
use Rattle.states.specs.Moves.{entry_wait}
use Rattle.states.specs.Commands.{START, CALIBRATE, takes, state_after}
use Rattle.counts.specs.Counts.{no_counts}
use Rattle.ptc.specs.declared.Ptc.{Ptc}
use Rattle.ptc.specs.Cycle.{NONE, ARMED}

-- CALIBRATE arms a cycle
abbrev pub armed_ptc : Ptc → Ptc
armed_ptc p = record { state = p.state; wait = p.wait; cycle = ARMED; counts = p.counts; events = p.events }

-- the others lead to a state, set its wait and drop the cycle; START clears the run counts
abbrev pub led_ptc : Waits → ℕ → Ptc → Ptc
led_ptc w command p =
    let s = state_after command p.state in
    record { state = s; wait = entry_wait w s; cycle = NONE; counts = if (eqb command START) no_counts p.counts; events = p.events }

-- a controller after a command, and whether it was taken
pub record Commanded : Type 0 where
  pub ptc : Ptc
  pub taken : Bool

unfoldable pub commanded_of : Waits → ℕ → Ptc → Commanded
commanded_of w command p =
    if (takes command p.state (not (eqb p.cycle NONE)))
    (record { ptc = if (eqb command CALIBRATE) (armed_ptc p) (led_ptc w command p); taken = true })
    (record { ptc = p; taken = false })
