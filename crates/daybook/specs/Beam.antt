-- Document 01, "One crossing, in order", step 1: the number and the holder of each crossing, by the settings and the markers alone.
use Rattle.std.specs.Prelude.{ℕ, zero, suc, List}
use Rattle.laws.specs.Base.{if}
use Rattle.settings.specs.declared.Settings.{Settings}
use Rattle.settings.specs.Names.{orbit_of}
use Rattle.clock.specs.declared.Clock.{Clock}
use Rattle.clock.specs.declared.Turn.{Turn}
use Rattle.clock.specs.Clock.{number_of, orbit_ends, ticked_of, fresh_clock}
use Rattle.clock.specs.Turn.{turned_of, fresh_turn}
use Rattle.records.specs.Records.{rec_at, is_crossing, marker_in}
use Rattle.kit.specs.Kit.{slots_of}

-- the clock, whose orbit count is not looked at, and whose slot it is
pub record Beam : Type 0 where
  pub clock : Clock
  pub turn : Turn

-- the slot in the crossing of this record, after the hand-over
abbrev pub handed_over : Settings → Beam → List ℕ → Turn
handed_over s b rec = turned_of (slots_of s) (orbit_ends b.clock (marker_in rec)) b.turn

unfoldable pub beam_past : Settings → Beam → List ℕ → Beam
beam_past s b rec =
    if (is_crossing rec) (record { clock = ticked_of (orbit_of s) b.clock (marker_in rec); turn = handed_over s b rec }) b

-- before record i
unfoldable pub beam_at : Settings → List ℕ → ℕ → Beam
beam_at s log zero = record { clock = fresh_clock; turn = fresh_turn (slots_of s) }
beam_at s log (suc i) = beam_past s (beam_at s log i) (rec_at log i)

-- the number of the crossing that record i is, and its holder
unfoldable pub number_in : Settings → List ℕ → ℕ → ℕ
number_in s log i = number_of (beam_at s log i).clock (marker_in (rec_at log i))

unfoldable pub holder_in : Settings → List ℕ → ℕ → ℕ
holder_in s log i = (handed_over s (beam_at s log i) (rec_at log i)).holder
