-- Demand 3, first sentence: a log cut between records into any blocks gives the uncut log's rows and closing board.
use Rattle.std.specs.Prelude.{ℕ, ◌*◌, ◌%◌, ◌≤◌, ◌≡◌, Bool, true, ◌&&◌, List, [], ◌∷◌, ◌++◌, length, take}
use Rattle.answer.specs.Told.{succeeded, DONE}
use Rattle.records.specs.Refusal.{records_in}
use Rattle.board.specs.declared.Board.{Board}
use Rattle.board.specs.Block.{block_of}

-- a block of a log, and the buffer that is lent for its rows
pub record Lent : Type 0 where
  pub log : List ℕ
  pub buffer : List ℕ

-- cut between records, and lent room enough
pub record Fits (l : Lent) : Type 0 where
  pub between : length l.log % 24 ≡ 0
  pub room : 12 * records_in l.log ≤ length l.buffer

abbrev pub AllFit : List Lent → Type 0
AllFit [] = Unit {0}
AllFit (x ∷ xs) = Fits x × AllFit xs

-- the uncut log
abbrev pub uncut : List Lent → List ℕ
uncut [] = []
uncut (x ∷ xs) = x.log ++ uncut xs

-- what the blocks give: whether each was accepted, their rows one after the other, and the closing board
pub record Outcome : Type 0 where
  pub accepted : Bool
  pub rows : List ℕ
  pub closing : Board

-- one block after the other, each over the board that the last one handed back
unfoldable pub in_turn : Board → List Lent → Outcome
in_turn b [] = record { accepted = true; rows = []; closing = b }
in_turn b (x ∷ xs) =
    let o = block_of b x.log x.buffer in
    let later = in_turn o.board xs in
    record {
      accepted = succeeded o.answer && later.accepted;
      rows = take (12 * records_in x.log) o.rows ++ later.rows;
      closing = later.closing;
    }

-- the log whole, into a buffer of its own
unfoldable pub at_once : Board → List ℕ → List ℕ → Outcome
at_once b log buffer =
    let o = block_of b log buffer in
    record { accepted = succeeded o.answer; rows = take (12 * records_in log) o.rows; closing = o.board }

-- a board with lists of the lengths that its arrays have: every board that a program can hold
pub record Whole (b : Board) : Type 0 where
  pub ptcs : length b.ptcs ≡ 8
  pub marks : length b.marks ≡ 32

-- any board, any blocks that fit, and the uncut log accepted in some buffer: each block is accepted, with the same rows and closing board
abbrev pub Cut : Type 0
Cut =
    (b : Board) (blocks : List Lent) (buffer : List ℕ)
    → Whole b
    → AllFit blocks
    → (block_of b (uncut blocks) buffer).answer ≡ DONE
    → in_turn b blocks ≡ at_once b (uncut blocks) buffer
