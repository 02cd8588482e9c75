-- The loop over the blocks of a log, and what is printed: the blocks so far are counted and all accepted, and the next goes on from there.
-- The first blocks of a longer log are those of the shorter one, so the last block's refusal has just the blocks counted before it.
use mathlib.Core.Path.{◌≡◌, refl, sym, ap, ap₂, ◌∙◌}
use mathlib.Core.Logic.{⊎_elim}
use mathlib.Core.Bool.{Bool, true, false, not, false≢true}
use mathlib.Core.List.{List, [], ◌++◌, append-nil}
use Prim.Native.Nat.{ℕ, zero, suc, ◌+◌, ◌*◌, ◌≤◌, ◌<◌}
use native.Mathlib.Nat.{zero-add}
use native.Mathlib.Omega.{arith}
use borrow.Author.Tests.{ltb-false}
use lib.Dec.{ltb}
use lib.ListN.{length, take, drop, replicate, length-append, length-take, length-replicate}
use Rattle.laws.specs.Base.{if}
use Rattle.laws.proofs.Bools.{if_no}
use Rattle.laws.proofs.Tests.{either, lt_or_ge}
use Rattle.answer.specs.Told.{Told, Answer, told, succeeded, DONE}
use Rattle.answer.proofs.Told.{told_done}
use Rattle.text.specs.Bytes.{put}
use Rattle.text.proofs.Bytes.{put_append}
use Rattle.reason.specs.Reason.{answer_text, block_text}
use Rattle.records.specs.Refusal.{records_in}
use Rattle.board.specs.declared.Board.{Board}
use Rattle.board.specs.declared.Made.{Made}
use Rattle.board.specs.Fresh.{MadeOut}
use Rattle.board.specs.Block.{RanOut, ran_out, block_of}
use Rattle.replay.specs.Replay.{opened_of, blocks_in, laid_on, in_blocks}
use Rattle.replay.specs.Printed.{replayed}
use Rattle.pieces.proofs.Unbuffered.{block_first_lem}
use Rattle.pieces.proofs.Pieces.{as_replayed, OneMore, one_more}
use Rattle.shell.specs.Opened.{OfSomeText}
use Rattle.shell.specs.Pieces.{piece_run}
use Rattle.shell.proofs.Laws.{SoFar}
use Rattle.desk_why.specs.Why.{run_before, run_in, why_text, why_of, goes_on, OpenedBy, FoundInSomeLog, OfSomeFiles}

-- ---- the blocks of a log

-- those that lie in the first part of a log
first_blocks_lem : (n : ℕ) (b : Board) (x y rows : List ℕ) → 1536 * n ≤ length x → in_blocks n b (x ++ y) rows ≡ in_blocks n b x rows
unfolding in_blocks
first_blocks_lem zero b x y rows h = refl
first_blocks_lem (suc n) b x y rows h =
    ap₂
    (λ (o : RanOut) (block : List ℕ). if (succeeded o.answer) (laid_on (768 * n) o.rows (block_of o.board block (drop (768 * n) o.rows))) o)
    (first_blocks_lem n b x y rows (omega arith)) (block_first_lem n x y h)

-- where they are accepted all of them are run
run_all : (n : ℕ) (b : Board) (log rows : List ℕ) → succeeded (in_blocks n b log rows).answer ≡ true → run_before n b log rows ≡ n
unfolding run_before
run_all zero b log rows d = refl
run_all (suc n) b log rows d = rw d

-- and one that is refused is not
run_but : (n : ℕ) (b : Board) (log rows : List ℕ) → succeeded (in_blocks (suc n) b log rows).answer ≡ false → run_before (suc n) b log rows ≡ run_before n b log rows
unfolding run_before
run_but n b log rows d = rw d

-- ---- the loop

-- n whole blocks, all accepted
pub record Counted (fresh b : Board) (n : ℕ) : Type 0 where
  pub so : SoFar fresh b
  pub long : length so.log ≡ 1536 * n

pub begun : (b : Board) → Counted b b 0
unfolding replayed in_blocks
begun b = record { so = record { log = []; whole = refl; done = refl; board = refl }; long = refl }

-- what a full block is
full_block : (failed : Bool) (k : ℕ) (a : Told) → goes_on failed k a ≡ true → (failed ≡ false) × (1536 ≤ k) × (succeeded a ≡ true)
full_block true k a e = absurd (false≢true e)
full_block false k a e = let way = if_no (ltb k 1536) false (succeeded a) true e false≢true in (refl, ltb-false k 1536 way.0, way.1)

module _ (fresh b : Board) (n : ℕ) (g : Counted fresh b n) where
  pub nothing_found : (a : Answer) → told a ≡ DONE → FoundInSomeLog fresh a n
  nothing_found a done = record { log = g.so.log; answer = done ∙ sym g.so.done; run = λ e. absurd (false≢true (sym e ∙ ap succeeded done)) }

  -- k bytes were read into a block's room
  module _ (ptcs : length fresh.ptcs ≡ 8) (k : ℕ) (bytes rows : List ℕ) (fits : length bytes ≡ 1536) (room : length rows ≡ 768) where
    abbrev piece : List ℕ
    piece = take k bytes

    abbrev all : List ℕ
    all = g.so.log ++ piece

    more : OneMore fresh g.so.log piece (in_blocks (blocks_in piece) b piece rows)
    more =
        let space : 12 * records_in piece ≤ length rows = rw length-take (omega arith) in
        rw g.so.board at (one_more fresh g.so.log piece rows ptcs (λ some. g.so.whole) g.so.done space)

    -- the blocks counted are accepted in the longer log too
    module _ (buffer : List ℕ) (space : 12 * records_in g.so.log ≤ length buffer) where
      counted_done : succeeded (in_blocks n fresh all buffer).answer ≡ true
      counted_done =
          let is : blocks_in g.so.log ≡ n = omega (arith, g.long) in
          let same = rw is at (as_replayed fresh g.so.log ptcs buffer space).answer in
          ap (λ (o : RanOut). succeeded o.answer) (first_blocks_lem n fresh g.so.log piece buffer (omega (arith, g.long)))
          ∙ ap succeeded (same ∙ g.so.done)

    -- so a refusal has just these before it
    run_is : succeeded (replayed fresh all).answer ≡ false → n ≡ run_in fresh all
    unfolding replayed run_in
    run_is refused =
        let buffer = replicate {A = ℕ} (12 * records_in all) 0 in
        let space : 12 * records_in g.so.log ≤ length buffer = rw (length-replicate, length-append) (omega arith) in
        let before = run_all n fresh all buffer (counted_done buffer space) in
        ⊎_elim
        (λ (some : 0 < length piece).
        let is : blocks_in all ≡ suc n = omega (arith, length-append g.so.log piece, length-take k bytes, g.long) in
        rw is (sym (run_but n fresh all buffer (rw is at refused) ∙ before)))
        (λ (none : length piece ≤ 0).
        let is : blocks_in all ≡ n = omega (arith, length-append g.so.log piece, g.long) in
        rw is (sym before))
        (lt_or_ge 0 (length piece))

    pub last_found : (failed : Bool) (a : Answer) (at : Board) (after : List ℕ) → ran_out a at after ≡ piece_run failed b piece rows → FoundInSomeLog fresh a n
    last_found true a at after ran = nothing_found a (ap (λ (o : RanOut). o.answer) ran)
    last_found false a at after ran =
        let same = ap (λ (o : RanOut). o.answer) ran ∙ more.answer in
        record { log = all; answer = same; run = λ e. run_is (sym (ap succeeded same) ∙ e) }

    pub one_counted : (failed : Bool) (a : Answer) (at : Board) (after : List ℕ) → ran_out a at after ≡ piece_run failed b piece rows
        → goes_on failed k (told a) ≡ true → Counted fresh at (n + 1)
    one_counted true a at after ran full = absurd (false≢true full)
    one_counted false a at after ran full =
        let is = full_block false k (told a) full in
        let long : length all ≡ 1536 * (n + 1) = rw (length-append, length-take) (omega (arith, g.long)) in
        record {
          so = record {
            log = all;
            whole = omega (arith, long);
            done = sym (ap (λ (o : RanOut). o.answer) ran ∙ more.answer) ∙ told_done a is.2;
            board = sym (ap (λ (o : RanOut). o.board) ran ∙ more.board);
          };
          long = long;
        }

-- ---- what is printed

module _ (m : Made) (some : OfSomeText m) where
  answer_is : told m.answer ≡ (opened_of some.0).answer
  answer_is = ap (λ (o : MadeOut). o.answer) some.1

  -- a text that is refused, whatever the log
  pub text_why : succeeded (told m.answer) ≡ false → (block : ℕ) → OfSomeFiles (why_text (told m.answer) false block)
  unfolding why_of
  text_why refused block = record { text = some.0; log = []; are = rw (append-nil, ← answer_is, refused) }

  pub opened_by_lem : succeeded (told m.answer) ≡ true → OpenedBy m.board
  opened_by_lem done =
      record { text = some.0; opens = sym answer_is ∙ told_done m.answer done; is = ap (λ (o : MadeOut). o.board) some.1 }

-- a log over the board of a text that is accepted
pub log_why : (b : Board) → OpenedBy b → (a : Answer) (block : ℕ) → FoundInSomeLog b a block → OfSomeFiles (why_text (told a) (not (succeeded (told a))) block)
unfolding why_of
log_why b o a block f =
    let same : (replayed (opened_of o.text).board f.log).answer ≡ told a = ap (λ (c : Board). (replayed c f.log).answer) (sym o.is) ∙ sym f.answer in
    let is : succeeded (told a) ≡ false → block ≡ run_in (opened_of o.text).board f.log = λ d. f.run d ∙ ap (λ (c : Board). run_in c f.log) o.is in
    record {
      text = o.text;
      log = f.log;
      are = rw (o.opens, same)
          (⊎_elim
          (λ (d : succeeded (told a) ≡ true). rw d)
          (λ (d : succeeded (told a) ≡ false). rw (d, ← is d))
          (either (succeeded (told a))));
    }

-- ---- laid into a buffer

module _ (a : Told) (block : ℕ) (before mid : List ℕ) (n : ℕ) (long : n ≡ length (answer_text a)) (laid : mid ≡ put before 0 (answer_text a)) where
  pub answer_laid : (refuses : Bool) → refuses ≡ false
      → (n ≡ length (why_text a refuses block)) × (mid ≡ put before 0 (why_text a refuses block))
  answer_laid true e = absurd (false≢true (sym e))
  answer_laid false e = rw append-nil (long, laid)

  -- the block's line behind it
  pub block_laid : (refuses : Bool) → refuses ≡ true → (after : List ℕ) (r : ℕ) → n ≤ length before
      → r ≡ n + length (block_text block) → after ≡ put mid n (block_text block)
      → (r ≡ length (why_text a refuses block)) × (after ≡ put before 0 (why_text a refuses block))
  block_laid false e after r room long₂ laid₂ = absurd (false≢true e)
  block_laid true e after r room long₂ laid₂ = (
    rw length-append (omega arith),
    laid₂ ∙ rw (laid, long) (sym (rw zero-add at (put_append before 0 (answer_text a) (block_text block) (omega arith)))),
  )
