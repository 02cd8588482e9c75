-- Document 01, "Numbers a caller may get back": a block of records over a board. Refusals: BOARD, LENGTH, ROOM, RECORD, LIFE.
use Rattle.std.specs.Prelude.{ℕ, ◌*◌, List, ◌++◌, length, drop}
use Rattle.laws.specs.Base.{if}
use Rattle.answer.specs.Told.{Told, Answer, told, succeeded, BOARD}
use Rattle.records.specs.Refusal.{records_in, refusal_of}
use Rattle.board.specs.declared.Board.{Board}
use Rattle.board.specs.Sound.{sound_board}
use Rattle.board.specs.Run.{ran, rows_of}

-- what a block answers, and the board and the rows buffer after it
pub record RanOut : Type 0 where
  pub answer : Told
  pub board : Board
  pub rows : List ℕ

abbrev pub ran_out : Answer → Board → List ℕ → RanOut
ran_out a b rows = record { answer = told a; board = b; rows = rows }

unfoldable pub answer_of : Board → List ℕ → ℕ → Told
answer_of b log room = if (sound_board b) (refusal_of b.clock.crossings log room) BOARD

-- a refused call returns the board it got and writes nothing; a success writes exactly its rows, later bytes stay
unfoldable pub block_of : Board → List ℕ → List ℕ → RanOut
block_of b log rows =
    let a = answer_of b log (length rows) in
    let n = records_in log in
    if (succeeded a)
    (record { answer = a; board = ran n b log; rows = rows_of n b log ++ drop (12 * n) rows })
    (record { answer = a; board = b; rows = rows })
