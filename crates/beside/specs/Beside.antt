-- Document 02, P6: a block run with a store beside the board, which follows input x: 0 to 31 partitions, 32 to 39 aTTS, 40 GTFE.
-- Refusals: BOARD, STORE, RANGE with the input, then the block's own. They leave board, store and rows.
use Rattle.std.specs.Prelude.{ℕ, List, leb}
use Rattle.laws.specs.Base.{if}
use Rattle.answer.specs.Told.{Told, Answer, told, succeeded, DONE, RANGE, BOARD, STORE}
use Rattle.records.specs.Refusal.{records_in}
use Rattle.board.specs.declared.Board.{Board}
use Rattle.board.specs.Sound.{sound_board}
use Rattle.board.specs.Block.{block_of}
use Rattle.history.specs.declared.Store.{Store}
use Rattle.history.specs.Store.{sound_store}
use Rattle.history.specs.Keep.{kept_all}
use Rattle.beside.specs.Changes.{changes_over}

-- the store after the records of a block
abbrev pub followed : (x : ℕ) → Board → List ℕ → Store → Store
followed x b log s = kept_all s (changes_over x (records_in log) b log)

-- what a block gives back, and the rows buffer after it
pub record BesideOut : Type 0 where
  pub answer : Told
  pub board : Board
  pub store : Store
  pub rows : List ℕ

abbrev pub beside_out : Answer → Board → Store → List ℕ → BesideOut
beside_out a b s rows = record { answer = told a; board = b; store = s; rows = rows }

-- what is tried before the block's own refusals
unfoldable pub beside_answer : Board → Store → ℕ → Told
beside_answer b s x = if (sound_board b) (if (sound_store s) (if (leb x 40) DONE (RANGE x)) STORE) BOARD

-- answer, board and rows are those of the block without a store
unfoldable pub beside_of : Board → Store → ℕ → List ℕ → List ℕ → BesideOut
beside_of b s x log rows =
    let a = beside_answer b s x in
    let o = block_of b log rows in
    if (succeeded a)
    (record { answer = o.answer; board = o.board; store = if (succeeded o.answer) (followed x b log s) s; rows = o.rows })
    (record { answer = a; board = b; store = s; rows = rows })
