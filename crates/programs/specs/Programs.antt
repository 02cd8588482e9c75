-- Document 01, "What the contracts have to say": no empty program meets them. One that refuses everything is shut out by where an
-- operation succeeds, one with a single fixed answer by answers that differ, one that hands the board back unmoved by what a success
-- gives, one that feigns later blocks by the cut, and one that invents counts by the balance.
use Rattle.std.specs.Prelude.{ℕ, ◌+◌, ◌*◌, ◌≤◌, ◌<◌, ◌≡◌, true, List, [], ◌∷◌, ◌++◌, length, drop, get_or, set, replicate}
use Rattle.answer.specs.Told.{DONE, TEXT, RANGE, BOARD, LENGTH, ROOM, RECORD}
use Rattle.text.specs.Bytes.{bytes}
use Rattle.text.specs.Lines.{line_head, line_text}
use Rattle.keys.specs.Settings.{newest}
use Rattle.settings.specs.declared.Settings.{Settings}
use Rattle.settings.specs.Check.{checked}
use Rattle.settings.specs.Standard.{standard}
use Rattle.editions.specs.Read.{edition_of, settled, read_text}
use Rattle.editions.specs.Texts.{text_in, InOrder}
use Rattle.editions.specs.Write.{text_of, written}
use Rattle.records.specs.Records.{crossings_in}
use Rattle.records.specs.Refusal.{records_in, Ready}
use Rattle.board.specs.declared.Board.{Board}
use Rattle.ptc.specs.Fresh.{fresh_ptc}
use Rattle.board.specs.Run.{ran, rows_of}
use Rattle.board.specs.Sound.{sound_board}
use Rattle.board.specs.Fresh.{fresh_board, fresh_of}
use Rattle.board.specs.Block.{block_of}
use Rattle.report.specs.Report.{report_text, reported}
use Rattle.cut.specs.Blocks.{Cut}
use Rattle.balance.specs.Balanced.{Balances}

-- ---- the examples

-- a first line with an orbit of 5, and the standard settings with an orbit of 0: both below its range
abbrev pub orbit_five : List ℕ
orbit_five = line_text (line_head (bytes "orbit")) 5

-- a first line that states an edition
abbrev pub edition_line : ℕ → List ℕ
edition_line = line_text (line_head (bytes "edition"))

abbrev pub orbit_zero : Settings
orbit_zero = record { values = set standard.values 0 0 }

abbrev pub fresh : Board
fresh = fresh_board standard

-- a board of settings that are refused
abbrev pub unsound : Board
unsound = fresh_board orbit_zero

-- one crossing, every code 8, with these requests; with a byte missing; and with a GTFE code of 16
abbrev pub crossing : ℕ → List ℕ
crossing requests = 0 ∷ 0 ∷ requests ∷ 8 ∷ replicate 20 136

abbrev pub shortened : List ℕ
shortened = 0 ∷ 0 ∷ 1 ∷ 8 ∷ replicate 19 136

abbrev pub damaged : List ℕ
damaged = 0 ∷ 0 ∷ 1 ∷ 16 ∷ replicate 20 136

-- the requests to controller 0 that are counted
abbrev pub requested_in : Board → ℕ
requested_in b = (get_or b.ptcs 0 fresh_ptc).counts.requested

-- ---- the operations

-- what an accepted text is: that of numbers in order in an edition that the desk knows, whose settings it gives
pub record TextOf (text : List ℕ) : Type 0 where
  pub some : 0 < edition_of text
  pub most : edition_of text ≤ newest
  pub numbers : List ℕ
  pub in_order : InOrder (edition_of text) numbers
  pub text_is : text ≡ text_in (edition_of text) numbers
  pub settings : (read_text text).settings ≡ settled (edition_of text) numbers

-- a text is accepted exactly if it is such a one; one of the newest edition exactly if it is that of 147 values that pass the checks,
-- and gives them
pub record ReadsText : Type 0 where
  pub accepts_numbers : (e : ℕ) → 0 < e → e ≤ newest → (ns : List ℕ) → InOrder e ns → read_text (text_in e ns) ≡ record { answer = DONE; settings = settled e ns }
  pub accepted_numbers : (text : List ℕ) → (read_text text).answer ≡ DONE → TextOf text
  pub accepts : (s : Settings) → length s.values ≡ 147 → checked s ≡ DONE → read_text (text_of s) ≡ record { answer = DONE; settings = s }
  pub accepted : (text : List ℕ) → (read_text text).answer ≡ DONE → edition_of text ≡ newest
      → (length (read_text text).settings.values ≡ 147) × (checked (read_text text).settings ≡ DONE) × (text_of (read_text text).settings ≡ text)
  pub standard_text : (read_text (text_of standard)).answer ≡ DONE
  pub empty_text : (read_text []).answer ≡ TEXT 1
  pub small_orbit : (read_text orbit_five).answer ≡ RANGE 1
  pub small_orbit_newest : (read_text (edition_line newest ++ orbit_five)).answer ≡ RANGE 2
  pub no_edition : (read_text (edition_line 1 ++ orbit_five)).answer ≡ TEXT 1

-- settings are written exactly if they pass the checks and their text fits
pub record WritesText : Type 0 where
  pub accepts : (s : Settings) (buffer : List ℕ) → checked s ≡ DONE → length (text_of s) ≤ length buffer
      → written s buffer ≡ record { answer = DONE; buffer = text_of s ++ drop (length (text_of s)) buffer }
  pub accepted : (s : Settings) (buffer : List ℕ) → (written s buffer).answer ≡ DONE → (checked s ≡ DONE) × (length (text_of s) ≤ length buffer)
  pub just_fits : (written standard (replicate 1710 0)).answer ≡ DONE
  pub no_room : (written standard []).answer ≡ ROOM 1710
  pub no_orbit : (written orbit_zero []).answer ≡ RANGE 2

-- a fresh board is made exactly of settings that pass the checks, and keeps them: two settings give two boards
pub record MakesBoard : Type 0 where
  pub accepts : (s : Settings) → checked s ≡ DONE → fresh_of s ≡ record { answer = DONE; board = fresh_board s }
  pub accepted : (s : Settings) → (fresh_of s).answer ≡ DONE → checked s ≡ DONE
  pub keeps_settings : (s : Settings) → (fresh_of s).answer ≡ DONE → (fresh_of s).board.settings ≡ s
  pub of_standard : (fresh_of standard).answer ≡ DONE
  pub no_orbit : (fresh_of orbit_zero).answer ≡ RANGE 2

-- a block is accepted exactly if the board is sound and the records have no fault. It then gives what they make of the board, and has
-- counted each of its crossings
pub record RunsBlock : Type 0 where
  pub accepts : (b : Board) (log rows : List ℕ) → sound_board b ≡ true → Ready b.clock.crossings log (length rows) → (block_of b log rows).answer ≡ DONE
  pub accepted : (b : Board) (log rows : List ℕ) → (block_of b log rows).answer ≡ DONE → (sound_board b ≡ true) × (Ready b.clock.crossings log (length rows))
  pub gives : (b : Board) (log rows : List ℕ) → (block_of b log rows).answer ≡ DONE
      → block_of b log rows
      ≡ record { answer = DONE; board = ran (records_in log) b log; rows = rows_of (records_in log) b log ++ drop (12 * records_in log) rows }
  pub moves : (b : Board) (log rows : List ℕ) → (block_of b log rows).answer ≡ DONE
      → (block_of b log rows).board.clock.crossings ≡ b.clock.crossings + crossings_in (records_in log) log
  pub accepts_crossing : (requests : ℕ) → (block_of fresh (crossing requests) (replicate 12 0)).answer ≡ DONE
  pub refuses_shortened : (block_of fresh shortened (replicate 12 0)).answer ≡ LENGTH
  pub refuses_damaged : (block_of fresh damaged (replicate 12 0)).answer ≡ RECORD 0
  pub counts_request : requested_in (block_of fresh (crossing 1) (replicate 12 0)).board ≡ 1
  pub counts_none : requested_in (block_of fresh (crossing 0) (replicate 12 0)).board ≡ 0

-- a report is written exactly if the board is sound and the report fits
pub record WritesReport : Type 0 where
  pub accepts : (b : Board) (buffer : List ℕ) → sound_board b ≡ true → length (report_text b) ≤ length buffer
      → reported b buffer ≡ record { answer = DONE; buffer = report_text b ++ drop (length (report_text b)) buffer }
  pub accepted : (b : Board) (buffer : List ℕ) → (reported b buffer).answer ≡ DONE → (sound_board b ≡ true) × (length (report_text b) ≤ length buffer)
  pub just_fits : (reported fresh (replicate 232 0)).answer ≡ DONE
  pub no_room : (reported fresh []).answer ≡ ROOM 232
  pub refused_settings : (reported unsound []).answer ≡ BOARD

pub record NoEmptyProgram : Type 0 where
  pub reading : ReadsText
  pub writing : WritesText
  pub making : MakesBoard
  pub running : RunsBlock
  pub reporting : WritesReport
  pub every_block : Cut
  pub counts_read_off : Balances
