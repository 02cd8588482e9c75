-- Document 01, "What the desk offers": the program runs a log in blocks of 64 records. That is the log run whole.
use Rattle.std.specs.Prelude.{◌≡◌, true, false, List, ℕ, ◌*◌, ◌<◌, take, drop}
use Rattle.answer.specs.Told.{succeeded, DONE}
use Rattle.board.specs.declared.Board.{Board}
use Rattle.board.specs.Sound.{sound_board}
use Rattle.board.specs.Block.{RanOut, block_of}
use Rattle.replay.specs.Replay.{blocks_in, block_at, in_blocks}
use Rattle.cut.specs.Blocks.{Whole}

-- the first n blocks of a log, run as one; and the block after them, over the board and the rows that they left
abbrev pub first_blocks : ℕ → Board → List ℕ → List ℕ → RanOut
first_blocks n b log rows = block_of b (take (1536 * n) log) rows

abbrev pub next_block : ℕ → Board → List ℕ → List ℕ → RanOut
next_block n b log rows = block_of (first_blocks n b log rows).board (block_at log n) (drop (768 * n) (first_blocks n b log rows).rows)

pub record Program : Type 0 where
  -- a log that is accepted whole goes through with the same rows and closing board
  pub same : (b : Board) (log rows : List ℕ) → Whole b → (block_of b log rows).answer ≡ DONE → in_blocks (blocks_in log) b log rows ≡ block_of b log rows
  -- over a sound board no other goes through
  pub only : (b : Board) (log rows : List ℕ) → Whole b → sound_board b ≡ true → (in_blocks (blocks_in log) b log rows).answer ≡ DONE
      → (block_of b log rows).answer ≡ DONE
  -- a refusal in block n, counted from 0, those before it accepted: its answer ends the log, and board and rows are as they left them
  pub refused : (b : Board) (log rows : List ℕ) (n : ℕ)
      → Whole b
      → n < blocks_in log
      → (first_blocks n b log rows).answer ≡ DONE
      → succeeded (next_block n b log rows).answer ≡ false
      → in_blocks (blocks_in log) b log rows ≡ record { answer = (next_block n b log rows).answer; board = (first_blocks n b log rows).board; rows = (first_blocks n b log rows).rows }
