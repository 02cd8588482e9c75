-- Document 01, "What the desk offers" and "Report": what the definition of the printed bytes says of the desk's own operations.
use Rattle.std.specs.Prelude.{ℕ, ◌*◌, ◌≤◌, ◌≡◌, true, List, ◌++◌, length, take, drop}
use Rattle.answer.specs.Told.{DONE}
use Rattle.editions.specs.Support.Prefix.{text_most}
use Rattle.records.specs.Refusal.{records_in}
use Rattle.board.specs.Sound.{sound_board}
use Rattle.board.specs.Block.{RanOut, block_of}
use Rattle.report.specs.Report.{reported}
use Rattle.report.specs.Fits.{report_room}
use Rattle.replay.specs.Replay.{opened_of}
use Rattle.replay.specs.Printed.{replayed, printed_by, printed_of, rows_printed}

-- the log over the board that the text opens
abbrev pub outcome_of : (text log : List ℕ) → RanOut
outcome_of text log = replayed (opened_of text).board log

pub record Printing : Type 0 where
  -- the first 4,096 bytes of the text decide
  pub by_start : (shown : RanOut → List ℕ) (text log : List ℕ) → printed_by shown (take text_most text) log ≡ printed_by shown text log
  -- the board after any log, refused or not, is sound
  pub sound : (text log : List ℕ) → sound_board (outcome_of text log).board ≡ true
  -- the report that is printed is the one that is written into the programs' buffer, and that is never refused
  pub report : (text log buffer : List ℕ) → (opened_of text).answer ≡ DONE → (outcome_of text log).answer ≡ DONE → report_room ≤ length buffer
      → reported (outcome_of text log).board buffer ≡ record { answer = DONE; buffer = printed_of text log ++ drop (length (printed_of text log)) buffer }
  -- the rows that are printed are those of the log run whole
  pub rows : (text log buffer : List ℕ) → (opened_of text).answer ≡ DONE → (block_of (opened_of text).board log buffer).answer ≡ DONE
      → (block_of (opened_of text).board log buffer).rows ≡ rows_printed text log ++ drop (12 * records_in log) buffer
