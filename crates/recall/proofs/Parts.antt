-- The changes over a log of two parts, cut between records, are those of the first part and then those of the second over the board after it.
-- As the rows are: record m + n of the log is record n of what the cut leaves.
use mathlib.Core.Path.{◌≡◌, refl, sym, ap, ap₂, ◌∙◌}
use mathlib.Core.List.{List, [], ◌++◌, append-nil, append_assoc}
use Prim.Native.Nat.{ℕ, zero, suc, ◌+◌, ◌*◌, ◌%◌, ◌≤◌}
use native.Mathlib.Nat.{add-zero, add-suc}
use native.Mathlib.Omega.{arith}
use lib.ListN.{length, take, drop}
use lib.Seq.{take-append_seam, drop_at}
use Rattle.laws.specs.Base.{if}
use Rattle.records.specs.Records.{is_crossing}
use Rattle.records.specs.Refusal.{records_in}
use Rattle.records.proofs.Laws.{rec_cut, rec_start}
use Rattle.history.specs.declared.Store.{Store}
use Rattle.history.specs.declared.keep.Change.{Change}
use Rattle.history.specs.Keep.{kept_all}
use Rattle.history.proofs.Recall.{kept_append}
use Rattle.board.specs.declared.Board.{Board}
use Rattle.board.specs.Run.{ran}
use Rattle.board.proofs.Cut.{cut_board, start_board}
use Rattle.cut.proofs.Parts.{records_add}
use Rattle.beside.specs.Changes.{change_in, changes_over}
use Rattle.beside.specs.Beside.{followed}

-- what one record brings
abbrev brought : ℕ → Board → List ℕ → List Change
brought x b rec = if (is_crossing rec) (change_in x b rec) []

module _ (x : ℕ) (b : Board) (log : List ℕ) where
  cut_changes : (m n : ℕ) → changes_over x (m + n) b log ≡ changes_over x m b log ++ changes_over x n (ran m b log) (drop (24 * m) log)
  unfolding changes_over
  cut_changes m zero = rw (add-zero, append-nil)
  cut_changes m (suc n) = rw (add-suc, cut_changes m n, cut_board b log m n, rec_cut log m n) (simp append_assoc)

  start_changes : (l n : ℕ) → 24 * n ≤ l → changes_over x n b (take l log) ≡ changes_over x n b log
  unfolding changes_over
  start_changes l zero h = refl
  start_changes l (suc n) h =
      ap₂ (◌++◌ {A = Change}) (start_changes l n (omega arith)) (ap₂ (brought x) (start_board b log l n (omega arith)) (rec_start log l n (omega arith)))

module _ (x : ℕ) (b : Board) (p q : List ℕ) (between : length p % 24 ≡ 0) (end : length q % 24 ≡ 0) where
  long : length p ≡ 24 * records_in p
  long = omega (arith, between)

  first : (n : ℕ) → n ≤ records_in p → changes_over x n b (p ++ q) ≡ changes_over x n b p
  first n h =
      sym (start_changes x b (p ++ q) (length p) n (omega (arith, long))) ∙ ap (changes_over x n b) (take-append_seam p q)

  board_first : ran (records_in p) b (p ++ q) ≡ ran (records_in p) b p
  board_first = sym (start_board b (p ++ q) (length p) (records_in p) (omega (arith, long))) ∙ ap (ran (records_in p) b) (take-append_seam p q)

  changes_parts : changes_over x (records_in (p ++ q)) b (p ++ q)
      ≡ changes_over x (records_in p) b p ++ changes_over x (records_in q) (ran (records_in p) b p) q
  changes_parts =
      rw (records_add b p q between end, cut_changes x b (p ++ q) (records_in p) (records_in q), drop_at p q (24 * records_in p) long, board_first, first (records_in p) (omega arith))

  pub followed_parts : (s : Store) → followed x b (p ++ q) s ≡ followed x (ran (records_in p) b p) q (followed x b p s)
  followed_parts s = ap (kept_all s) changes_parts ∙ kept_append s _ _
