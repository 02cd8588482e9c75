-- Document 01, "What the desk offers": settings text, a fresh board of it, and the log in blocks of 64 records.
use Rattle.std.specs.Prelude.{ℕ, zero, suc, ◌+◌, ◌*◌, ◌/◌, List, ◌++◌, length, take, drop}
use Rattle.laws.specs.Base.{if}
use Rattle.answer.specs.Told.{succeeded, DONE}
use Rattle.settings.specs.Standard.{standard}
use Rattle.editions.specs.Read.{read_text}
use Rattle.board.specs.declared.Board.{Board}
use Rattle.board.specs.Fresh.{fresh_board, MadeOut, fresh_of}
use Rattle.board.specs.Block.{RanOut, block_of}

-- the first refusal, of the text or of its values
unfoldable pub opened_of : List ℕ → MadeOut
opened_of t =
    let r = read_text t in
    if (succeeded r.answer) (fresh_of r.settings) (record { answer = r.answer; board = fresh_board standard })

-- how many blocks of 64 records a log has, the last holding what is left with any broken tail
abbrev pub blocks_in : List ℕ → ℕ
blocks_in log = (length log + 1535) / 1536

-- the one that i others stand before
abbrev pub block_at : List ℕ → ℕ → List ℕ
block_at log i = take 1536 (drop (1536 * i) log)

-- a block's outcome, its rows laid from a place on
abbrev pub laid_on : ℕ → List ℕ → RanOut → RanOut
laid_on at rows o = record { answer = o.answer; board = o.board; rows = take at rows ++ o.rows }

-- the first n blocks, one after the other: a refusal ends it
unfoldable pub in_blocks : ℕ → Board → List ℕ → List ℕ → RanOut
in_blocks zero b log rows = record { answer = DONE; board = b; rows = rows }
in_blocks (suc n) b log rows =
    let o = in_blocks n b log rows in
    if (succeeded o.answer) (laid_on (768 * n) o.rows (block_of o.board (block_at log n) (drop (768 * n) o.rows))) o
