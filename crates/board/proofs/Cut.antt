-- A log cut in two: the board after both parts is the second part's run from the board after the first, and the rows are laid end to end.
-- By induction on the second part's records, since a run adds at the end; record m + n of the log is record n of what the cut leaves, record n before the cut the log's own.
use mathlib.Core.Path.{◌≡◌, refl, ap₂}
use mathlib.Core.List.{List, ◌++◌, append-nil, append_assoc}
use Prim.Native.Nat.{ℕ, zero, suc, ◌+◌, ◌*◌, ◌≤◌}
use native.Mathlib.Nat.{add-zero, add-suc}
use native.Mathlib.Omega.{arith}
use lib.ListN.{take, drop}
use Rattle.records.proofs.Laws.{rec_cut, rec_start}
use Rattle.board.specs.declared.Board.{Board}
use Rattle.board.specs.Run.{stepped, row_of, ran, rows_of}

module _ (b : Board) (log : List ℕ) where
  pub cut_board : (m n : ℕ) → ran (m + n) b log ≡ ran n (ran m b log) (drop (24 * m) log)
  unfolding ran
  cut_board m zero = rw add-zero
  cut_board m (suc n) = rw add-suc (ap₂ stepped (cut_board m n) (rec_cut log m n))

  pub cut_rows : (m n : ℕ) → rows_of (m + n) b log ≡ rows_of m b log ++ rows_of n (ran m b log) (drop (24 * m) log)
  unfolding rows_of
  cut_rows m zero = rw (add-zero, append-nil)
  cut_rows m (suc n) = rw (add-suc, cut_rows m n, cut_board m n, rec_cut log m n) (simp append_assoc)

  pub start_board : (l n : ℕ) → 24 * n ≤ l → ran n b (take l log) ≡ ran n b log
  unfolding ran
  start_board l zero h = refl
  start_board l (suc n) h = ap₂ stepped (start_board l n (omega arith)) (rec_start log l n (omega arith))

  pub start_rows : (l n : ℕ) → 24 * n ≤ l → rows_of n b (take l log) ≡ rows_of n b log
  unfolding rows_of
  start_rows l zero h = refl
  start_rows l (suc n) h =
      ap₂ (◌++◌ {A = ℕ}) (start_rows l n (omega arith)) (ap₂ row_of (start_board l n (omega arith)) (rec_start log l n (omega arith)))
