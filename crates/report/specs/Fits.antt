-- Document 01, "Report" and "Sound": a sound board's report fits the buffer that the programs lend for it.
use Rattle.std.specs.Prelude.{◌≡◌, true, List, ◌++◌, ℕ, ◌≤◌, length, drop}
use Rattle.answer.specs.Told.{DONE}
use Rattle.board.specs.declared.Board.{Board}
use Rattle.board.specs.Sound.{sound_board}
use Rattle.report.specs.Report.{report_text, reported}

-- the bytes of that buffer
abbrev pub report_room : ℕ
report_room = 8192

-- of every sound board with its eight controllers
pub record ReportFits : Type 0 where
  pub fits : (b : Board) → length b.ptcs ≡ 8 → sound_board b ≡ true → length (report_text b) ≤ report_room
  -- so writing it into such a buffer is never refused
  pub written : (b : Board) (buffer : List ℕ) → length b.ptcs ≡ 8 → sound_board b ≡ true → report_room ≤ length buffer
      → reported b buffer ≡ record { answer = DONE; buffer = report_text b ++ drop (length (report_text b)) buffer }
