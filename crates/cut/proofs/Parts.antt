-- A log of two parts, cut between records: its run is the first part's run and then the second's over the board after it.
-- The log's records are those of the parts in turn; the boards count the crossings, so lives add up too.
use mathlib.Core.Path.{◌≡◌, ap, sym, ◌∙◌}
use mathlib.Core.Bool.{true}
use mathlib.Core.List.{List, ◌++◌}
use Prim.Native.Nat.{ℕ, ◌+◌, ◌*◌, ◌%◌, ◌≤◌, ◌<◌}
use native.Mathlib.Omega.{arith}
use lib.ListN.{length, take, length-append}
use lib.Seq.{take-append_seam}
use Rattle.records.specs.Records.{rec_at, well, crossings_in}
use Rattle.records.specs.Refusal.{records_in, Ready}
use Rattle.records.proofs.Laws.{rec_first, rest_left, rec_rest, well_at_lem, all_formed}
use Rattle.board.specs.declared.Board.{Board}
use Rattle.board.specs.Run.{ran, rows_of}
use Rattle.board.proofs.Cut.{cut_board, cut_rows, start_board, start_rows}
use Rattle.board.proofs.Keeps.{ran_count}

module _ (b : Board) (x y : List ℕ) (between : length x % 24 ≡ 0) (end : length y % 24 ≡ 0) where
  first_long : length x ≡ 24 * records_in x
  first_long = omega (arith, between)

  rest_long : length y ≡ 24 * records_in y
  rest_long = omega (arith, end)

  pub records_add : records_in (x ++ y) ≡ records_in x + records_in y
  records_add = omega (arith, first_long, rest_long, length-append x y)

  first_kept : take (length x) (x ++ y) ≡ x
  first_kept = take-append_seam x y

  -- boards and rows of the first part's records do not depend on what follows it
  ran_first : ran (records_in x) b (x ++ y) ≡ ran (records_in x) b x
  ran_first = sym (start_board b (x ++ y) (length x) (records_in x) (omega arith)) ∙ ap (ran (records_in x) b) first_kept

  rows_first : rows_of (records_in x) b (x ++ y) ≡ rows_of (records_in x) b x
  rows_first = sym (start_rows b (x ++ y) (length x) (records_in x) (omega arith)) ∙ ap (rows_of (records_in x) b) first_kept

  pub ran_parts : ran (records_in (x ++ y)) b (x ++ y) ≡ ran (records_in y) (ran (records_in x) b x) y
  ran_parts = rw (records_add, cut_board b (x ++ y) (records_in x) (records_in y), rest_left x y between, ran_first)

  pub rows_parts : rows_of (records_in (x ++ y)) b (x ++ y) ≡ rows_of (records_in x) b x ++ rows_of (records_in y) (ran (records_in x) b x) y
  rows_parts = rw (records_add, cut_rows b (x ++ y) (records_in x) (records_in y), rest_left x y between, ran_first, rows_first)

  -- the crossings of the log are those of its parts, by the boards' counts
  lives_add : b.clock.crossings + crossings_in (records_in (x ++ y)) (x ++ y) ≡ (ran (records_in x) b x).clock.crossings + crossings_in (records_in y) y
  lives_add =
      let same = ap (λ (c : Board). c.clock.crossings) ran_parts in
      omega (arith, same, ran_count b (x ++ y) (records_in (x ++ y)), ran_count (ran (records_in x) b x) y (records_in y))

  -- a log that is ready over a board: so is its first part, and the rest over the board after that
  module _ (room : ℕ) (r : Ready b.clock.crossings (x ++ y) room) where
    formed_at : (i : ℕ) → i < records_in x + records_in y → well (rec_at (x ++ y) i) ≡ true
    formed_at i h = well_at_lem (records_in (x ++ y)) (x ++ y) r.formed i (rw records_add h)

    pub first_ready : (space : ℕ) → 12 * records_in x ≤ space → Ready b.clock.crossings x space
    first_ready space h =
        record {
          whole = first_long;
          space = h;
          formed = all_formed (records_in x) x (λ i l. ap well (sym (rec_first x y i (omega (arith, first_long)))) ∙ formed_at i (omega arith));
          life = omega (arith, lives_add, r.life, ran_count b x (records_in x));
        }

    pub rest_ready : (space : ℕ) → 12 * records_in y ≤ space → Ready (ran (records_in x) b x).clock.crossings y space
    rest_ready space h =
        record {
          whole = rest_long;
          space = h;
          formed = all_formed (records_in y) y (λ i l. ap well (sym (rec_rest x y between i)) ∙ formed_at (records_in x + i) (omega arith));
          life = omega (arith, lives_add, r.life);
        }
