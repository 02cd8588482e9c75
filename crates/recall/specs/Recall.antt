-- Document 02, P6: what is promised of a block run with a store beside the board.
use Rattle.std.specs.Prelude.{ℕ, ◌*◌, ◌≤◌, ◌≡◌, true, ◌&&◌, List, [], ◌∷◌, ◌++◌, length, take}
use Rattle.answer.specs.Told.{DONE, succeeded}
use Rattle.settings.specs.declared.Settings.{Settings}
use Rattle.steady.specs.Held.{AreBytes}
use Rattle.records.specs.Refusal.{records_in}
use Rattle.history.specs.declared.Store.{Store}
use Rattle.history.specs.Store.{fresh_store, sound_store}
use Rattle.history.specs.Read.{changes_in}
use Rattle.history.specs.Recall.{LastOf}
use Rattle.board.specs.declared.Board.{Board}
use Rattle.board.specs.Block.{block_of}
use Rattle.board.specs.Fresh.{fresh_board}
use Rattle.cut.specs.Blocks.{Lent, AllFit, uncut, Whole, Outcome, in_turn}
use Rattle.daybook.specs.Whole.{Taken, whole}
use Rattle.beside.specs.Beside.{followed, beside_answer, beside_of}
use Rattle.recall.specs.Told.{changes_told, OfBytes}

-- ---- with a store, board and rows are those without it

pub record AsWithout (b : Board) (s : Store) (x : ℕ) (log rows : List ℕ) : Type 0 where
  pub answer : (beside_of b s x log rows).answer ≡ (block_of b log rows).answer
  pub board : (beside_of b s x log rows).board ≡ (block_of b log rows).board
  pub rows_left : (beside_of b s x log rows).rows ≡ (block_of b log rows).rows

-- where its own three refusals do not come first
abbrev pub StoreChangesNothing : Type 0
StoreChangesNothing = (b : Board) (s : Store) (x : ℕ) (log rows : List ℕ) → beside_answer b s x ≡ DONE → AsWithout b s x log rows

-- ---- the cut

-- what the blocks give: the outcome without a store, and the store
pub record BesideOutcome : Type 0 where
  pub outcome : Outcome
  pub store : Store

-- one block after the other, each over the board and the store that the last one handed back
unfoldable pub beside_in_turn : Board → Store → ℕ → List Lent → BesideOutcome
beside_in_turn b s x [] = record { outcome = record { accepted = true; rows = []; closing = b }; store = s }
beside_in_turn b s x (l ∷ ls) =
    let o = beside_of b s x l.log l.buffer in
    let later = beside_in_turn o.board o.store x ls in
    record {
      outcome = record {
        accepted = succeeded o.answer && later.outcome.accepted;
        rows = take (12 * records_in l.log) o.rows ++ later.outcome.rows;
        closing = later.outcome.closing;
      };
      store = later.store;
    }

-- held codes of the lengths and sizes that a board's arrays have: every board that a program can hold
pub record HeldBytes (b : Board) : Type 0 where
  pub carried : AreBytes b.held.carried
  pub believed : AreBytes b.held.believed

-- any blocks that fit give what they give without a store, and the uncut log's store
abbrev pub BesideCut : Type 0
BesideCut =
    (b : Board) (s : Store) (x : ℕ) (blocks : List Lent) (buffer : List ℕ)
    → Whole b
    → HeldBytes b
    → beside_answer b s x ≡ DONE
    → length s.words ≡ 1024
    → AllFit blocks
    → OfBytes (uncut blocks)
    → (block_of b (uncut blocks) buffer).answer ≡ DONE
    → beside_in_turn b s x blocks ≡ record { outcome = in_turn b blocks; store = (beside_of b s x (uncut blocks) buffer).store }

-- ---- what the store tells

-- the store beside a fresh board through a whole log: it is sound, and its changes are the last of those that settings, records and rows tell
pub record Recalled (s : Settings) (x : ℕ) (log buffer : List ℕ) : Type 0 where
  pub sound : sound_store (followed x (fresh_board s) log fresh_store) ≡ true
  pub changes : LastOf (changes_told s log (whole s log buffer).rows x (records_in log)) (changes_in (followed x (fresh_board s) log fresh_store))

abbrev pub Recall : Type 0
Recall = (s : Settings) (x : ℕ) (log buffer : List ℕ) → Taken s log buffer → OfBytes log → x ≤ 40 → Recalled s x log buffer
