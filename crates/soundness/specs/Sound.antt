-- Document 01, "Sound": every condition of that paragraph, of a board's six parts; those of one part stand together.
use Rattle.std.specs.Prelude.{Bool, ◌&&◌, List, ℕ}
use Rattle.answer.specs.Told.{succeeded}
use Rattle.settings.specs.declared.Settings.{Settings}
use Rattle.settings.specs.Names.{orbit_of}
use Rattle.settings.specs.Check.{checked}
use Rattle.steady.specs.declared.Held.{Held}
use Rattle.steady.specs.Held.{sound_held}
use Rattle.throttle.specs.Sound.{sound_marks}
use Rattle.clock.specs.declared.Clock.{Clock}
use Rattle.clock.specs.declared.Turn.{Turn}
use Rattle.clock.specs.Clock.{sound_clock}
use Rattle.clock.specs.Turn.{sound_turn}
use Rattle.ptc.specs.declared.Ptc.{Ptc}
use Rattle.records.specs.Refusal.{LIFETIME}
use Rattle.kit.specs.Kit.{slots_of}
use Rattle.eight.specs.Eight.{sound_eight}

-- settings pass the checks; clock; holder; the eight; held codes (document 02, P1); marks
abbrev pub sound_parts : (s : Settings) (clock : Clock) (turn : Turn) (ptcs : List Ptc) (held : Held) (marks : List ℕ) → Bool
sound_parts s clock turn ptcs held marks =
    succeeded (checked s)
    && (sound_clock LIFETIME (orbit_of s) clock
    && (sound_turn (slots_of s) turn
    && (sound_eight turn.holder clock.crossings ptcs
    && (sound_held held
    && sound_marks clock.crossings marks))))
