-- Document 01, "Report": common lines, then a block for each controller with a slot above 0, rising. Refusals: BOARD, then ROOM.
use Rattle.std.specs.Prelude.{ℕ, suc, List, [], ◌∷◌, ◌++◌, leb, ltb, length, drop}
use Rattle.laws.specs.Base.{if}
use Rattle.answer.specs.Told.{Told, Answer, told, succeeded, DONE, BOARD, ROOM}
use Rattle.text.specs.Lines.{lines_text}
use Rattle.keys.specs.Report.{common_keys, block_keys}
use Rattle.settings.specs.declared.Settings.{Settings}
use Rattle.settings.specs.Names.{slot_of}
use Rattle.ptc.specs.declared.Ptc.{Ptc}
use Rattle.board.specs.declared.Board.{Board}
use Rattle.board.specs.Sound.{sound_board}

-- crossings, orbit, bc_errors, holder
abbrev pub common_values : Board → List ℕ
common_values b = b.clock.crossings ∷ b.clock.orbits ∷ b.clock.errors ∷ b.turn.holder ∷ []

-- ptc, state, the fourteen counts since START (document 02, P5: lost_throttle by its rules), events
abbrev pub block_values : ℕ → Ptc → List ℕ
block_values k p =
    k
    ∷ p.state
    ∷ p.counts.requested
    ∷ p.counts.accepted
    ∷ p.counts.lost.state
    ∷ p.counts.lost.slot
    ∷ p.counts.lost.gap
    ∷ p.counts.lost.cal
    ∷ p.counts.lost.throttle
    ∷ p.counts.lost.rules.first
    ∷ p.counts.lost.rules.second
    ∷ p.counts.lost.rules.third
    ∷ p.counts.lost.rules.fourth
    ∷ p.counts.cal.requested
    ∷ p.counts.cal.accepted
    ∷ p.counts.cal.lost
    ∷ p.events
    ∷ []

-- the block of controller k, where it has a slot above 0
unfoldable pub controller_text : Settings → ℕ → Ptc → List ℕ
controller_text s k p = if (ltb 0 (slot_of s k)) (lines_text block_keys (block_values k p)) []

-- the blocks of the controllers from k on
unfoldable pub blocks_from : Settings → ℕ → List Ptc → List ℕ
blocks_from s k [] = []
blocks_from s k (p ∷ ps) = controller_text s k p ++ blocks_from s (suc k) ps

unfoldable pub report_text : Board → List ℕ
report_text b = lines_text common_keys (common_values b) ++ blocks_from b.settings 0 b.ptcs

-- what writing leaves: the answer, and the lent buffer
pub record ReportOut : Type 0 where
  pub answer : Told
  pub buffer : List ℕ

abbrev pub report_out : Answer → List ℕ → ReportOut
report_out a buffer = record { answer = told a; buffer = buffer }

unfoldable pub report_answer : Board → ℕ → Told
report_answer b room =
    if (sound_board b) (if (leb (length (report_text b)) room) DONE (ROOM (length (report_text b)))) BOARD

-- a success writes exactly the text, and later bytes stay; a refused call writes nothing
unfoldable pub reported : Board → List ℕ → ReportOut
reported b d =
    let a = report_answer b (length d) in
    record { answer = a; buffer = if (succeeded a) (report_text b ++ drop (length (report_text b)) d) d }
