-- A block with a store beside it: what its own refusals leave, what an accepted one says, and what it gives back.
-- The tests are those of the definition in its order; the block without a store answers for itself.
use mathlib.Core.Path.{◌≡◌, sym, ap, ◌∙◌}
use mathlib.Core.Bool.{true, false}
use mathlib.Core.List.{List, ◌++◌}
use Prim.Native.Nat.{ℕ, ◌+◌, ◌-◌, ◌*◌, ◌≤◌}
use native.Mathlib.Omega.{arith}
use borrow.Author.Tests.{leb-true}
use lib.Dec.{leb}
use lib.ListN.{length, take, drop, length-append, length-drop}
use lib.Seq.{take_at}
use Rattle.laws.specs.Base.{if}
use Rattle.laws.proofs.Bools.{if_yes}
use Rattle.answer.specs.Told.{Answer, told, succeeded, DONE, RANGE, BOARD, STORE}
use Rattle.answer.proofs.Told.{not_done, told_done}
use Rattle.records.specs.Refusal.{records_in}
use Rattle.history.specs.declared.Store.{Store}
use Rattle.history.specs.Store.{sound_store}
use Rattle.board.specs.declared.Board.{Board}
use Rattle.board.specs.Sound.{sound_board}
use Rattle.board.specs.Run.{rows_of}
use Rattle.board.specs.Block.{RanOut, ran_out, block_of}
use Rattle.board.proofs.Answers.{block_ready, block_answer, block_done}
use Rattle.beside.specs.Beside.{followed, beside_out, beside_answer, beside_of}
use Rattle.beside.specs.Support.Through.{Through}

pub allowed_of : (b : Board) (s : Store) (x : ℕ) → beside_answer b s x ≡ DONE → (sound_store s ≡ true) × (x ≤ 40)
unfolding beside_answer
allowed_of b s x e =
    let board = if_yes (sound_board b) (if (sound_store s) (if (leb x 40) DONE (RANGE x)) STORE) BOARD DONE e (not_done BOARD (omega arith)) in
    let store = if_yes (sound_store s) (if (leb x 40) DONE (RANGE x)) STORE DONE board.1 (not_done STORE (omega arith)) in
    let input = if_yes (leb x 40) DONE (RANGE x) DONE store.1 (not_done (RANGE x) (omega arith)) in
    (store.0, leb-true x 40 input.0)

module _ (b : Board) (s : Store) (x : ℕ) (a : Answer) (is : told a ≡ beside_answer b s x) where
  pub allowed : succeeded (told a) ≡ true → (sound_store s ≡ true) × (x ≤ 40)
  allowed d = allowed_of b s x (sym is ∙ told_done a d)

  module _ (log rows : List ℕ) where
    pub refused_is : succeeded (told a) ≡ false → beside_out a b s rows ≡ beside_of b s x log rows
    unfolding beside_of
    refused_is d = rw (← is, d)

    pub ran_is : succeeded (told a) ≡ true → (r : Answer) (next : Board) (after : List ℕ) (kept : Store) → ran_out r next after ≡ block_of b log rows
        → kept ≡ if (succeeded (told r)) (followed x b log s) s
        → beside_out r next kept after ≡ beside_of b s x log rows
    unfolding beside_of
    ran_is d r next after kept ran e = rw (← is, d, ← ran, e)

-- a block that was accepted has run through
pub run_through : (b : Board) (log rows after : List ℕ) (r : Answer) (next : Board) → ran_out r next after ≡ block_of b log rows → length after ≡ length rows
    → succeeded (told r) ≡ true → Through b log after
run_through b log rows after r next ran same d =
    let n = records_in log in
    let done : (block_of b log rows).answer ≡ DONE = sym (ap (λ (o : RanOut). o.answer) ran) ∙ told_done r d in
    let start = block_ready b log (length rows) (sym (block_answer b log rows) ∙ done) in
    let laid : after ≡ rows_of n b log ++ drop (12 * n) rows = ap (λ (o : RanOut). o.rows) (ran ∙ block_done b log rows done) in
    let long : length (rows_of n b log) + (length rows - 12 * n) ≡ length rows = rw (length-append, length-drop) at (sym (ap length laid) ∙ same) in
    let space = start.1.space in
    record {
      sound = start.0;
      ready = rw same start.1;
      laid = ap (take (12 * n)) laid ∙ take_at (rows_of n b log) _ (12 * n) (omega arith);
    }
