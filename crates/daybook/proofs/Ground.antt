-- What an accepted log has: its records are well formed, the buffer holds its rows, and each row is that of the board before its record.
-- An accepted block took every test of its definition; a row is found by the cut at its record.
use mathlib.Core.Path.{◌≡◌, refl, sym, ap, ◌∙◌}
use mathlib.Core.Bool.{true}
use mathlib.Core.List.{List, ◌++◌, append_assoc}
use Prim.Native.Nat.{ℕ, suc, ◌+◌, ◌-◌, ◌*◌, ◌≤◌, ◌<◌}
use native.Mathlib.Omega.{arith}
use lib.ListN.{length, take, drop}
use lib.Seq.{take_at, drop_at}
use Rattle.settings.specs.declared.Settings.{Settings}
use Rattle.records.specs.Records.{rec_at, well}
use Rattle.records.specs.Refusal.{records_in, Ready}
use Rattle.records.proofs.Laws.{well_at_lem}
use Rattle.board.specs.declared.Board.{Board}
use Rattle.board.specs.Run.{row_of, ran, rows_of}
use Rattle.board.specs.Block.{RanOut}
use Rattle.board.specs.Fresh.{fresh_board}
use Rattle.board.proofs.Answers.{block_ready, block_answer, block_done}
use Rattle.board.proofs.Cut.{cut_rows}
use Rattle.board.proofs.Keeps.{Fit, fresh_fit, ran_fit, ran_ptcs_long, row_of_long, rows_long}
use Rattle.daybook.specs.Row.{row_at}
use Rattle.daybook.specs.Whole.{Taken, whole}

-- ---- rows

module _ (b : Board) (log : List ℕ) (long : length b.ptcs ≡ 8) where
  -- the row of record i, whatever stands after it
  row_here : (i : ℕ) (more : List ℕ) → row_at (rows_of (suc i) b log ++ more) i ≡ row_of (ran i b log) (rec_at log i)
  unfolding rows_of
  row_here i more =
      let done = rows_of i b log in
      let row = row_of (ran i b log) (rec_at log i) in
      let there : drop (12 * i) (done ++ row ++ more) ≡ row ++ more =
      ap (drop (12 * i)) (append_assoc done row more) ∙ drop_at done (row ++ more) (12 * i) (rows_long i b log long) in
      ap (take 12) there ∙ take_at row more 12 (row_of_long (ran i b log) (rec_at log i) (ran_ptcs_long b log i ∙ long))

  pub row_is : (n i : ℕ) (more : List ℕ) → i < n → row_at (rows_of n b log ++ more) i ≡ row_of (ran i b log) (rec_at log i)
  row_is n i more h =
      let later = rows_of (n - suc i) (ran (suc i) b log) (drop (24 * suc i) log) in
      let e : n ≡ suc i + (n - suc i) = omega arith in
      let cut : rows_of n b log ≡ rows_of (suc i) b log ++ later = ap (λ (m : ℕ). rows_of m b log) e ∙ cut_rows b log (suc i) (n - suc i) in
      ap (λ (rows : List ℕ). row_at (rows ++ more) i) cut ∙ ap (λ (rows : List ℕ). row_at rows i) (append_assoc (rows_of (suc i) b log) later more)
      ∙ row_here i (later ++ more)

-- ---- an accepted log

pub record Ground (s : Settings) (log buffer : List ℕ) : Type 0 where
  pub fit : Fit (fresh_board s)
  pub ready : Ready 0 log (length buffer)
  pub rows : (whole s log buffer).rows ≡ rows_of (records_in log) (fresh_board s) log ++ drop (12 * records_in log) buffer
  pub closing : (whole s log buffer).board ≡ ran (records_in log) (fresh_board s) log

fresh_done : (s : Settings) → (fresh_board s).clock.crossings ≡ 0
unfolding fresh_board
fresh_done s = refl

module _ {s : Settings} {log buffer : List ℕ} (t : Taken s log buffer) where
  pub ground : Ground s log buffer
  ground =
      let b = fresh_board s in
      let done = block_done b log buffer t.accepted in
      let r = block_ready b log (length buffer) (sym (block_answer b log buffer) ∙ t.accepted) in
      record {
        fit = fresh_fit s t.checks;
        ready = rw (fresh_done s) at r.1;
        rows = ap (λ (o : RanOut). o.rows) done;
        closing = ap (λ (o : RanOut). o.board) done;
      }

  -- before each record, and after the last
  pub fit_at : (i : ℕ) → i ≤ records_in log → Fit (ran i (fresh_board s) log)
  fit_at = let g = ground in ran_fit (records_in log) (fresh_board s) log g.fit (rw (fresh_done s) g.ready.life) g.ready.formed

  module _ (i : ℕ) (h : i < records_in log) where
    pub well_here : well (rec_at log i) ≡ true
    well_here = well_at_lem (records_in log) log ground.ready.formed i h

    pub row_at_lem : row_at (whole s log buffer).rows i ≡ row_of (ran i (fresh_board s) log) (rec_at log i)
    row_at_lem =
        let g = ground in
        ap (λ (rows : List ℕ). row_at rows i) g.rows
        ∙ row_is (fresh_board s) log g.fit.ptcs (records_in log) i (drop (12 * records_in log) buffer) h
