-- A log read in pieces: which bytes a piece has no contract can say, but what is done with them is `run_blocks`.
use Rattle.std.specs.Prelude.{ℕ, Bool, false, List, ltb}
use Rattle.laws.specs.Base.{if}
use Rattle.answer.specs.Told.{Told, succeeded, DONE}
use Rattle.board.specs.declared.Board.{Board}
use Rattle.board.specs.Block.{RanOut}
use Rattle.replay.specs.Replay.{blocks_in, in_blocks}

-- the blocks of a piece over a board; where reading failed nothing is run
abbrev pub piece_run : Bool → Board → List ℕ → List ℕ → RanOut
piece_run failed b log rows = if failed (record { answer = DONE; board = b; rows = rows }) (in_blocks (blocks_in log) b log rows)

-- more of the log may follow: the piece was read, is full and was accepted
abbrev pub is_full : Bool → ℕ → Told → Bool
is_full failed n a = if failed false (if (ltb n 61440) false (succeeded a))
