-- What the code goes by is what document 01 asks: the blocks of a log tested first, and then run in one call up to the first refusal, do what
-- they do one after the other. The lengths are those of a board's arrays.
use Rattle.std.specs.Prelude.{◌≡◌, List, ℕ, ◌<◌, length}
use Rattle.board.specs.declared.Board.{Board}
use Rattle.board.specs.Support.Blocks.{blocks_of}
use Rattle.replay.specs.Replay.{blocks_in, in_blocks}

abbrev pub TestedFirst : Type 0
TestedFirst =
    (b : Board) (log rows : List ℕ)
    → length b.ptcs ≡ 8
    → length b.marks ≡ 32
    → 0 < length log
    → blocks_of b log rows ≡ in_blocks (blocks_in log) b log rows
