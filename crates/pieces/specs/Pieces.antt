-- Document 01, "What the desk offers": a program reads the log in pieces of whole blocks. That is the log in blocks of 64 records.
use Rattle.std.specs.Prelude.{ℕ, ◌*◌, ◌%◌, ◌≤◌, ◌<◌, ◌≡◌, false, List, [], ◌∷◌, ◌++◌, length, take, drop}
use Rattle.laws.specs.Base.{if}
use Rattle.answer.specs.Told.{succeeded, DONE}
use Rattle.records.specs.Refusal.{records_in}
use Rattle.board.specs.declared.Board.{Board}
use Rattle.board.specs.Block.{RanOut, block_of}
use Rattle.replay.specs.Replay.{blocks_in, in_blocks}
use Rattle.replay.specs.Printed.{replayed}
use Rattle.cut.specs.Blocks.{Lent, uncut, Whole}
use Rattle.cut.specs.Program.{first_blocks, next_block}

-- a piece is lent room for its rows, and where anything follows it, it is whole blocks of 64 records
pub record Piece (x : Lent) (later : List Lent) : Type 0 where
  pub room : 12 * records_in x.log ≤ length x.buffer
  pub whole : 0 < length (uncut later) → length x.log % 1536 ≡ 0

abbrev pub InPieces : List Lent → Type 0
InPieces [] = Unit {0}
InPieces (x ∷ xs) = Piece x xs × InPieces xs

-- the part of a piece's buffer that its rows may take, and these parts one after the other
abbrev pub rows_part : Lent → List ℕ → List ℕ
rows_part x rows = take (12 * records_in x.log) rows

abbrev pub lent_rows : List Lent → List ℕ
lent_rows [] = []
lent_rows (x ∷ xs) = rows_part x x.buffer ++ lent_rows xs

-- one piece after the other, each in blocks of 64 over the board that the last handed back; a refusal ends it, and what the later
-- pieces were lent stays as it was
unfoldable pub in_pieces : Board → List Lent → RanOut
in_pieces b [] = record { answer = DONE; board = b; rows = [] }
in_pieces b (x ∷ xs) =
    let o = in_blocks (blocks_in x.log) b x.log x.buffer in
    let later = in_pieces o.board xs in
    if (succeeded o.answer)
    (record { answer = later.answer; board = later.board; rows = rows_part x o.rows ++ later.rows })
    (record { answer = o.answer; board = o.board; rows = rows_part x o.rows ++ lent_rows xs })

-- what a log gives in some buffer: the answer and the board of `replayed`, and where it goes through, its rows and the later bytes as they were
pub record AsReplayed (b : Board) (log buffer : List ℕ) (o : RanOut) : Type 0 where
  pub answer : o.answer ≡ (replayed b log).answer
  pub board : o.board ≡ (replayed b log).board
  pub rows : o.answer ≡ DONE → o.rows ≡ (replayed b log).rows ++ drop (12 * records_in log) buffer

pub record Pieces : Type 0 where
  -- the same answer, refusals among them, the same board and the same bytes
  pub same : (b : Board) (pieces : List Lent) → Whole b → InPieces pieces
      → in_pieces b pieces ≡ in_blocks (blocks_in (uncut pieces)) b (uncut pieces) (lent_rows pieces)
  -- a log that is accepted whole goes through with the same rows and board
  pub accepted : (b : Board) (pieces : List Lent) → Whole b → InPieces pieces → (block_of b (uncut pieces) (lent_rows pieces)).answer ≡ DONE
      → in_pieces b pieces ≡ block_of b (uncut pieces) (lent_rows pieces)
  -- a refusal in block n, counted from 0 through all pieces, those before it accepted: board and rows are as they left them
  pub refused : (b : Board) (pieces : List Lent) (n : ℕ) → Whole b → InPieces pieces
      → n < blocks_in (uncut pieces)
      → (first_blocks n b (uncut pieces) (lent_rows pieces)).answer ≡ DONE
      → succeeded (next_block n b (uncut pieces) (lent_rows pieces)).answer ≡ false
      → in_pieces b pieces
      ≡ record {
        answer = (next_block n b (uncut pieces) (lent_rows pieces)).answer;
        board = (first_blocks n b (uncut pieces) (lent_rows pieces)).board;
        rows = (first_blocks n b (uncut pieces) (lent_rows pieces)).rows;
      }
  -- what a buffer holds decides nothing, nor how long it is, where it has room
  pub any_buffer : (b : Board) (log rows : List ℕ) → Whole b → 12 * records_in log ≤ length rows
      → AsReplayed b log rows (in_blocks (blocks_in log) b log rows)
