-- The blocks of 64 records of a log over a board, tested in one pass and then run in one call up to the first refusal.
-- `tested_first` (replay/proofs/TestedFirst.antt): that is what the blocks of a log do in turn.
use Rattle.std.specs.Prelude.{ℕ, ◌*◌, List, ◌++◌, length, drop}
use Rattle.laws.specs.Base.{if}
use Rattle.answer.specs.Told.{BOARD}
use Rattle.records.specs.Support.Blocks.{block_count, TestedOut, tested_of}
use Rattle.board.specs.declared.Board.{Board}
use Rattle.board.specs.Sound.{sound_board}
use Rattle.board.specs.Run.{ran, rows_of}
use Rattle.board.specs.Block.{RanOut}

-- the records that were found in order, run
abbrev pub ran_to : TestedOut → Board → List ℕ → List ℕ → RanOut
ran_to t b log rows =
    record { answer = t.answer; board = ran t.records b log; rows = rows_of t.records b log ++ drop (12 * t.records) rows }

unfoldable pub blocks_of : Board → List ℕ → List ℕ → RanOut
blocks_of b log rows =
    if (sound_board b)
    (ran_to (tested_of (block_count log) b.clock.crossings log (length rows)) b log rows)
    (record { answer = BOARD; board = b; rows = rows })
