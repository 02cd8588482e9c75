-- In blocks of 64 the program does what the log run whole does.
-- After n blocks it has the outcome of the log's first n blocks run as one: the next block joins on, and is accepted when the longer part is.
use mathlib.Core.Path.{◌≡◌, refl, ap, sym, ◌∙◌}
use mathlib.Core.Bool.{true, false, false≢true}
use mathlib.Core.List.{List, ◌++◌, append_assoc}
use Prim.Native.Nat.{ℕ, zero, suc, ◌+◌, ◌*◌, ◌-◌, ◌%◌, ◌≤◌, ◌<◌}
use native.Mathlib.Omega.{arith}
use lib.ListN.{length, take, drop, length-append, length-take, length-drop, take-append-drop}
use lib.Seq.{length-take-le, take_all, drop-drop, take-add}
use Rattle.laws.proofs.Bools.{if_has}
use Rattle.answer.specs.Told.{succeeded, DONE}
use Rattle.records.specs.Refusal.{records_in, Ready}
use Rattle.records.specs.Support.Blocks.{TestedOut, tested_of}
use Rattle.records.proofs.Laws.{rec_start, crossings_start, all_formed, ready, refusal_settles}
use Rattle.records.proofs.Testing.{tested_clear}
use Rattle.board.specs.declared.Board.{Board}
use Rattle.board.specs.Run.{ran, rows_of}
use Rattle.board.specs.Sound.{sound_board}
use Rattle.board.specs.Block.{RanOut, answer_of, block_of}
use Rattle.board.proofs.Answers.{block_ready, block_answer, block_done}
use Rattle.board.proofs.Keeps.{Fit}
use Rattle.board.proofs.Settled.{sound_life}
use Rattle.replay.specs.Replay.{blocks_in, block_at, laid_on, in_blocks}
use Rattle.replay.proofs.Laws.{stays}
use Rattle.replay.proofs.TestedFirst.{in_turn_lem}
use Rattle.cut.proofs.Accepted.{fit_of, after_fit, accepts, rows_taken, rows_past}
use Rattle.cut.proofs.Parts.{records_add, ran_parts, rows_parts, first_ready, rest_ready}
use Rattle.cut.specs.Blocks.{Whole}
use Rattle.cut.specs.Program.{first_blocks, next_block, Program}

module _ (b : Board) (rows : List ℕ) (fit : Fit b) where
  -- a part of a log, run in one block
  abbrev run_rows : List ℕ → List ℕ
  run_rows x = rows_of (records_in x) b x ++ drop (12 * records_in x) rows

  abbrev run_out : List ℕ → RanOut
  run_out x = record { answer = DONE; board = ran (records_in x) b x; rows = run_rows x }

  rows_left : (x : List ℕ) → drop (12 * records_in x) (run_rows x) ≡ drop (12 * records_in x) rows
  rows_left x = rows_past (records_in x) b x (drop (12 * records_in x) rows) fit.ptcs

  -- the next part's own outcome, over the board and the rows that the first left
  abbrev next_out : List ℕ → List ℕ → RanOut
  next_out x y = block_of (ran (records_in x) b x) y (drop (12 * records_in x) (run_rows x))

  joins : (x y : List ℕ) → length x % 24 ≡ 0 → length y % 24 ≡ 0 → Ready b.clock.crossings (x ++ y) (length rows)
      → laid_on (12 * records_in x) (run_rows x) (next_out x y) ≡ run_out (x ++ y)
  joins x y between end r =
      let m = records_in x in
      let add = records_add b x y between end in
      let room : 12 * records_in y ≤ length (drop (12 * m) rows) = rw length-drop (omega (arith, r.space, add)) in
      let before = first_ready b x y between end (length rows) r (length rows) (omega (arith, r.space, add)) in
      let after = after_fit b x (length rows) fit before in
      let next = rest_ready b x y between end (length rows) r (length (drop (12 * m) rows)) room in
      let done = accepts (ran m b x) y (drop (12 * m) rows) after.sound next in
      let kept = rows_taken m b x (drop (12 * m) rows) fit.ptcs in
      let lengths : 12 * m + 12 * records_in y ≡ 12 * records_in (x ++ y) = omega (arith, add) in
      let left : drop (12 * records_in y) (drop (12 * m) rows) ≡ drop (12 * records_in (x ++ y)) rows
      = drop-drop (12 * records_in y) (12 * m) rows ∙ ap (λ (k : ℕ). drop k rows) lengths in
      rw (rows_left x, block_done (ran m b x) y (drop (12 * m) rows) done, kept, left, ran_parts b x y between end, rows_parts b x y between end, append_assoc)

  module _ (log : List ℕ) where
    -- the log's first n blocks
    abbrev up_to : ℕ → List ℕ
    up_to n = take (1536 * n) log

    up_to_next : (n : ℕ) → up_to (suc n) ≡ up_to n ++ block_at log n
    up_to_next n =
        let e : 1536 * suc n ≡ 1536 * n + 1536 = omega arith in
        ap (λ (k : ℕ). take k log) e ∙ take-add (1536 * n) 1536 log

    up_to_long : (n : ℕ) → n < blocks_in log → length (up_to n) ≡ 1536 * n
    up_to_long n h = length-take-le (1536 * n) log (omega (arith, h))

    up_to_all : up_to (blocks_in log) ≡ log
    up_to_all = take_all (1536 * blocks_in log) log (omega arith)

    -- after n blocks: the outcome of the log's first n blocks, where those are ready
    none_done : in_blocks 0 b log rows ≡ run_out (up_to 0)
    unfolding in_blocks ran rows_of
    none_done = refl

    one_more : (n : ℕ) → length (up_to n) ≡ 1536 * n → in_blocks n b log rows ≡ run_out (up_to n) → length (block_at log n) % 24 ≡ 0
        → Ready b.clock.crossings (up_to n ++ block_at log n) (length rows) → in_blocks (suc n) b log rows ≡ run_out (up_to n ++ block_at log n)
    unfolding in_blocks
    one_more n long so end r =
        let between : length (up_to n) % 24 ≡ 0 = omega (arith, long) in
        let at : 768 * n ≡ 12 * records_in (up_to n) = omega (arith, long) in
        rw (so, at) (joins (up_to n) (block_at log n) between end r)

    as_one : (n : ℕ) → n ≤ blocks_in log → Ready b.clock.crossings (up_to n) (length rows) → in_blocks n b log rows ≡ run_out (up_to n)
    as_one zero h r = none_done
    as_one (suc n) h r =
        let x = up_to n in
        let y = block_at log n in
        let long = up_to_long n h in
        let between : length x % 24 ≡ 0 = omega (arith, long) in
        let split = rw (up_to_next n) at r in
        let end : length y % 24 ≡ 0 = omega (arith, between, split.whole, length-append x y) in
        let room : 12 * records_in x ≤ length rows = omega (arith, split.space, records_add b x y between end) in
        let before = first_ready b x y between end (length rows) split (length rows) room in
        rw (up_to_next n) (one_more n long (as_one n (omega arith) before) end split)

    -- blocks that went through have all their records in order: the tests looked at each
    abbrev tested : ℕ → TestedOut
    tested n = tested_of n b.clock.crossings log (length rows)

    tested_all : (n : ℕ) → n ≤ blocks_in log → succeeded (tested n).answer ≡ true → 24 * (tested n).records ≡ length (up_to n)
    unfolding tested_of
    tested_all zero h d = refl
    tested_all (suc n) h d =
        let long : length (up_to (suc n)) ≡ 1536 * n + length (block_at log n) = rw (up_to_next n, length-append) (ap (λ (k : ℕ). k + length (block_at log n)) (up_to_long n h)) in
        if_has (λ (o : TestedOut). succeeded o.answer ≡ true → 24 * o.records ≡ length (up_to (suc n))) (succeeded (tested n).answer) _ _
        (λ e f. rw f (omega (arith, long, (ready _ _ _ (refusal_settles _ _ _ f)).whole)))
        (λ e f. absurd (false≢true (sym e ∙ f)))
        d

    went_through : (n : ℕ) → n ≤ blocks_in log → succeeded (in_blocks n b log rows).answer ≡ true → Ready b.clock.crossings (up_to n) (length rows)
    went_through n h d =
        let m = (tested n).records in
        let ok = sym (ap (λ (o : RanOut). succeeded o.answer) (in_turn_lem b log rows fit n h)) ∙ d in
        let all = tested_all n h ok in
        let c = tested_clear b.clock.crossings log (length rows) (sound_life b fit.sound) n h in
        let same : records_in (up_to n) ≡ m = omega (arith, all) in
        let short : 24 * m ≤ 1536 * n = omega (arith, all, length-take (1536 * n) log) in
        record {
          whole = omega (arith, all);
          space = omega (arith, all, c.space);
          formed = all_formed (records_in (up_to n)) (up_to n) (λ i l. rw (rec_start log (1536 * n) i (omega (arith, same))) (c.formed i (omega (arith, same))));
          life = rw (same, crossings_start log (1536 * n) m short) c.life;
        }

-- ---- a refused block

-- gives back the board and the rows that it was lent
refused_block : (b : Board) (log rows : List ℕ) → succeeded (block_of b log rows).answer ≡ false
    → block_of b log rows ≡ record { answer = (block_of b log rows).answer; board = b; rows = rows }
unfolding block_of
refused_block b log rows e =
    let stopped : succeeded (answer_of b log (length rows)) ≡ false = ap succeeded (sym (block_answer b log rows)) ∙ e in
    rw stopped

ends : (b : Board) (log rows : List ℕ) (n : ℕ) → in_blocks n b log rows ≡ first_blocks n b log rows → (first_blocks n b log rows).answer ≡ DONE
    → succeeded (next_block n b log rows).answer ≡ false
    → in_blocks (suc n) b log rows ≡ record { answer = (next_block n b log rows).answer; board = (first_blocks n b log rows).board; rows = (first_blocks n b log rows).rows }
unfolding in_blocks
ends b log rows n so done stopped =
    let o = first_blocks n b log rows in
    rw (so, done, refused_block o.board (block_at log n) (drop (768 * n) o.rows) stopped, take-append-drop)

pub program : Program
program = record { same = same; only = only; refused = refused }
  where
    same : (b : Board) (log rows : List ℕ) → Whole b → (block_of b log rows).answer ≡ DONE → in_blocks (blocks_in log) b log rows ≡ block_of b log rows
    same b log rows whole done =
        let start = block_ready b log (length rows) (sym (block_answer b log rows) ∙ done) in
        let all = up_to_all b rows (fit_of b whole start.0) log in
        rw (as_one b rows (fit_of b whole start.0) log (blocks_in log) (omega arith) (rw all start.1), all, block_done b log rows done)

    only : (b : Board) (log rows : List ℕ) → Whole b → sound_board b ≡ true → (in_blocks (blocks_in log) b log rows).answer ≡ DONE → (block_of b log rows).answer ≡ DONE
    only b log rows whole sound done =
        let fit = fit_of b whole sound in
        let r = went_through b rows fit log (blocks_in log) (omega arith) (rw done refl) in
        accepts b log rows sound (rw (up_to_all b rows fit log) at r)

    refused : (b : Board) (log rows : List ℕ) (n : ℕ) → Whole b → n < blocks_in log → (first_blocks n b log rows).answer ≡ DONE
        → succeeded (next_block n b log rows).answer ≡ false
        → in_blocks (blocks_in log) b log rows ≡ record { answer = (next_block n b log rows).answer; board = (first_blocks n b log rows).board; rows = (first_blocks n b log rows).rows }
    refused b log rows n whole h done stopped =
        let x = take (1536 * n) log in
        let start = block_ready b x (length rows) (sym (block_answer b x rows) ∙ done) in
        let fit = fit_of b whole start.0 in
        let so = as_one b rows fit log n (omega arith) start.1 ∙ sym (block_done b x rows done) in
        let here = ends b log rows n so done stopped in
        let left = blocks_in log - suc n in
        let all : blocks_in log ≡ left + suc n = omega arith in
        ap (λ (k : ℕ). in_blocks k b log rows) all ∙ stays b log rows left (suc n) (rw here stopped) ∙ here
