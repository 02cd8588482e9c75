-- A whole log over a fresh board: what the promises are about. By the cut, it does not matter in which blocks it was run.
use Rattle.std.specs.Prelude.{ℕ, ◌<◌, ◌≡◌, true, List}
use Rattle.answer.specs.Told.{DONE}
use Rattle.settings.specs.declared.Settings.{Settings}
use Rattle.settings.specs.Check.{checked}
use Rattle.records.specs.Records.{rec_at, is_crossing}
use Rattle.records.specs.Refusal.{records_in}
use Rattle.board.specs.Fresh.{fresh_board}
use Rattle.board.specs.Block.{RanOut, block_of}

-- run into a lent buffer: the contract of `Board::block` cites this definition
abbrev pub whole : Settings → List ℕ → List ℕ → RanOut
whole s log buffer = block_of (fresh_board s) log buffer

-- settings that pass the checks, and a log that their fresh board accepts
pub record Taken (s : Settings) (log buffer : List ℕ) : Type 0 where
  pub checks : checked s ≡ DONE
  pub accepted : (whole s log buffer).answer ≡ DONE

-- record i of the log is a crossing
pub record Crossing (log : List ℕ) (i : ℕ) : Type 0 where
  pub among : i < records_in log
  pub kind : is_crossing (rec_at log i) ≡ true
