-- Document 01, "What the desk offers": what a program prints, of the bytes of `board.set` and of `run.rec`.
use Rattle.std.specs.Prelude.{ℕ, ◌*◌, List, replicate}
use Rattle.laws.specs.Base.{if}
use Rattle.answer.specs.Told.{Told, succeeded}
use Rattle.text.specs.Bytes.{bytes}
use Rattle.text.specs.Lines.{line_head, line_text}
use Rattle.records.specs.Refusal.{records_in}
use Rattle.board.specs.declared.Board.{Board}
use Rattle.board.specs.Block.{RanOut}
use Rattle.report.specs.Report.{report_text}
use Rattle.replay.specs.Replay.{opened_of, blocks_in, in_blocks}

-- the log in blocks of 64 records, into just the room that its rows take: 12 bytes for each record
unfoldable pub replayed : Board → List ℕ → RanOut
replayed b log = in_blocks (blocks_in log) b log (replicate (12 * records_in log) 0)

-- `refused=N` and a newline
unfoldable pub refusal_line : Told → List ℕ
refusal_line t = line_text (line_head (bytes "refused")) t.number

-- the first refusal, of the text or of the log, and nothing else; or what is shown of the log's outcome
unfoldable pub printed_by : (RanOut → List ℕ) → (text log : List ℕ) → List ℕ
printed_by shown text log =
    let made = opened_of text in
    let o = replayed made.board log in
    if (succeeded made.answer) (if (succeeded o.answer) (shown o) (refusal_line o.answer)) (refusal_line made.answer)

-- `desk`: the report of the closing board
abbrev pub printed_of : (text log : List ℕ) → List ℕ
printed_of = printed_by (λ o. report_text o.board)

-- `desk_rows`: the rows of the whole log
abbrev pub rows_printed : (text log : List ℕ) → List ℕ
rows_printed = printed_by (λ o. o.rows)
