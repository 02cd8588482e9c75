-- Demand 1, second sentence: bad input gets one of the numbered refusals; the board comes back as handed in, and no lent byte is touched.
-- That every call meets any input without a fault, and ends, is what the checker proves of each function by itself.
use Rattle.std.specs.Prelude.{ℕ, ◌≤◌, ◌≡◌, false, List}
use Rattle.answer.specs.Told.{Answer, told, succeeded}
use Rattle.settings.specs.declared.Settings.{Settings}
use Rattle.settings.specs.Standard.{standard}
use Rattle.editions.specs.Read.{read_text}
use Rattle.editions.specs.Write.{written}
use Rattle.salvage.specs.Salvage.{refused_with, salvage_of}
use Rattle.history.specs.declared.Store.{Store}
use Rattle.history.specs.Read.{read_of}
use Rattle.board.specs.declared.Board.{Board}
use Rattle.board.specs.Fresh.{fresh_board, fresh_of}
use Rattle.board.specs.Block.{block_of}
use Rattle.report.specs.Report.{reported}
use Rattle.beside.specs.Beside.{beside_of}

pub record Refusals : Type 0 where
  -- an answer is a success, or one of the nine
  pub numbered : (a : Answer) → (told a).number ≤ 9
  -- a refused block: the same board, the same bytes
  pub block_board : (b : Board) (log rows : List ℕ) → succeeded (block_of b log rows).answer ≡ false → (block_of b log rows).board ≡ b
  pub block_rows : (b : Board) (log rows : List ℕ) → succeeded (block_of b log rows).answer ≡ false → (block_of b log rows).rows ≡ rows
  pub writing : (s : Settings) (buffer : List ℕ) → succeeded (written s buffer).answer ≡ false → (written s buffer).buffer ≡ buffer
  pub report : (b : Board) (buffer : List ℕ) → succeeded (reported b buffer).answer ≡ false → (reported b buffer).buffer ≡ buffer
  -- document 02, P6: with a store beside it, the same board, the same store, the same bytes
  pub beside : (b : Board) (s : Store) (x : ℕ) (log rows : List ℕ) → succeeded (beside_of b s x log rows).answer ≡ false
      → beside_of b s x log rows ≡ record { answer = (beside_of b s x log rows).answer; board = b; store = s; rows = rows }
  pub read_out : (s : Store) (buffer : List ℕ) → succeeded (read_of s buffer).answer ≡ false → (read_of s buffer).buffer ≡ buffer
  -- document 02, P7: nothing is written, and both buffers have the same bytes
  pub salvage : (first : ℕ) (log salvaged changes : List ℕ) → succeeded (salvage_of first log salvaged changes).answer ≡ false
      → salvage_of first log salvaged changes ≡ refused_with (salvage_of first log salvaged changes).answer salvaged changes
  -- a refused reading gives the standard values, a refused fresh board the one made from them
  pub reading : (text : List ℕ) → succeeded (read_text text).answer ≡ false → (read_text text).settings ≡ standard
  pub fresh : (s : Settings) → succeeded (fresh_of s).answer ≡ false → (fresh_of s).board ≡ fresh_board standard
