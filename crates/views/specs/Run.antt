-- A whole log and its report by a view. The board's settings are carried along and never looked at.
use Rattle.std.specs.Prelude.{ℕ, zero, suc, ◌*◌, List, [], ◌∷◌, ◌++◌, ltb, length, get_or, drop, replicate}
use Rattle.laws.specs.Base.{if}
use Rattle.answer.specs.Told.{Told, succeeded}
use Rattle.text.specs.Lines.{lines_text}
use Rattle.keys.specs.Report.{common_keys, block_keys}
use Rattle.settings.specs.Standard.{standard}
use Rattle.steady.specs.Held.{fresh_held}
use Rattle.clock.specs.Clock.{fresh_clock}
use Rattle.clock.specs.Turn.{fresh_turn}
use Rattle.ptc.specs.declared.Ptc.{Ptc}
use Rattle.ptc.specs.Fresh.{fresh_ptc}
use Rattle.records.specs.Records.{rec_at}
use Rattle.records.specs.Refusal.{records_in, refusal_of}
use Rattle.kit.specs.View.{View}
use Rattle.board.specs.declared.Board.{Board}
use Rattle.board.specs.Run.{stepped_by, row_by}
use Rattle.report.specs.Report.{common_values, block_values}

-- the board after the first n records, and their rows
unfoldable pub ran_by : View → ℕ → Board → List ℕ → Board
ran_by v zero b log = b
ran_by v (suc n) b log = stepped_by v (ran_by v n b log) (rec_at log n)

unfoldable pub rows_by : View → ℕ → Board → List ℕ → List ℕ
rows_by v zero b log = []
rows_by v (suc n) b log = rows_by v n b log ++ row_by v (ran_by v n b log) (rec_at log n)

-- the report: common lines, then a block for each controller with a slot above 0, counted from k
unfoldable pub blocks_by : List ℕ → ℕ → List Ptc → List ℕ
blocks_by slots k [] = []
blocks_by slots k (p ∷ ps) = if (ltb 0 (get_or slots k 0)) (lines_text block_keys (block_values k p)) [] ++ blocks_by slots (suc k) ps

unfoldable pub report_by : View → Board → List ℕ
report_by v b = lines_text common_keys (common_values b) ++ blocks_by v.slots 0 b.ptcs

-- a fresh board
abbrev pub opened_by : View → Board
opened_by v = record {
  settings = standard;
  clock = fresh_clock;
  turn = fresh_turn v.slots;
  ptcs = replicate 8 fresh_ptc;
  held = fresh_held;
  marks = replicate 32 0;
}

-- what a bench gets of a whole log: the answer, the rows buffer, and the report of the closing board
pub record Given : Type 0 where
  pub answer : Told
  pub rows : List ℕ
  pub report : List ℕ

unfoldable pub given_by : View → (log buffer : List ℕ) → Given
given_by v log buffer =
    let n = records_in log in
    let a = refusal_of 0 log (length buffer) in
    if (succeeded a)
    (record { answer = a; rows = rows_by v n (opened_by v) log ++ drop (12 * n) buffer; report = report_by v (ran_by v n (opened_by v) log) })
    (record { answer = a; rows = buffer; report = report_by v (opened_by v) })
