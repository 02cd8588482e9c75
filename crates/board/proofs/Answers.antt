-- A block's answer: what a success says of the board and of the records, and what is given back either way.
-- A success took every test of the definition; the answer's number says which way the block went.
use mathlib.Core.Path.{◌≡◌, refl, sym, ◌∙◌}
use mathlib.Core.Bool.{true, false}
use mathlib.Core.List.{List, ◌++◌}
use Prim.Native.Nat.{ℕ, ◌+◌, ◌*◌, ◌%◌, ◌≤◌}
use native.Mathlib.Omega.{arith}
use borrow.Author.Tests.{eq-eqb, le-leb}
use lib.ListN.{length, drop}
use Rattle.laws.proofs.Bools.{if_yes, if_has}
use Rattle.answer.specs.Told.{Answer, told, succeeded, DONE, BOARD}
use Rattle.answer.proofs.Told.{not_done, told_done}
use Rattle.records.specs.Records.{first_ill, crossings_in}
use Rattle.records.specs.Refusal.{LIFETIME, records_in, refusal_of, Ready}
use Rattle.records.proofs.Laws.{ready}
use Rattle.board.specs.declared.Board.{Board}
use Rattle.board.specs.Run.{ran, rows_of}
use Rattle.board.specs.Sound.{sound_board}
use Rattle.board.specs.Block.{RanOut, ran_out, answer_of, block_of}

pub block_ready : (b : Board) (log : List ℕ) (room : ℕ) → answer_of b log room ≡ DONE → (sound_board b ≡ true) × (Ready b.clock.crossings log room)
unfolding answer_of
block_ready b log room e =
    let way = if_yes (sound_board b) (refusal_of b.clock.crossings log room) BOARD DONE e (not_done BOARD (omega arith)) in
    (way.0, ready b.clock.crossings log room way.1)

-- and the other way
pub ready_done : (b : Board) (log : List ℕ) (room : ℕ) → sound_board b ≡ true → Ready b.clock.crossings log room → answer_of b log room ≡ DONE
unfolding answer_of refusal_of
ready_done b log room sound r =
    let no-rest : length log % 24 ≡ 0 = omega (arith, r.whole) in
    rw (sound, eq-eqb _ _ no-rest, le-leb _ _ r.space, eq-eqb _ _ r.formed, le-leb _ _ r.life)

module _ (b : Board) (log rows : List ℕ) (a : Answer) (is : told a ≡ answer_of b log (length rows)) where
  pub run_asked : succeeded (told a) ≡ true
      → (sound_board b ≡ true)
      × (length log ≡ 24 * records_in log)
      × (12 * records_in log ≤ length rows)
      × (first_ill (records_in log) log ≡ records_in log)
      × (b.clock.crossings + crossings_in (records_in log) log ≤ LIFETIME)
  run_asked d =
      let r = block_ready b log (length rows) (sym is ∙ told_done a d) in
      (r.0, r.1.whole, r.1.space, r.1.formed, r.1.life)

  pub done_is : (next : Board) (out : List ℕ) → succeeded (told a) ≡ true → next ≡ ran (records_in log) b log
      → out ≡ rows_of (records_in log) b log ++ drop (12 * records_in log) rows → ran_out a next out ≡ block_of b log rows
  unfolding block_of
  done_is next out d n o = rw (← is, d, n, o)

  pub refused_is : succeeded (told a) ≡ false → ran_out a b rows ≡ block_of b log rows
  unfolding block_of
  refused_is d = rw (← is, d)

-- either way the answer is the definition's, and an accepted block gives its run's board and rows
module _ (b : Board) (log rows : List ℕ) where
  pub block_answer : (block_of b log rows).answer ≡ answer_of b log (length rows)
  unfolding block_of
  block_answer = if_has (λ (o : RanOut). o.answer ≡ answer_of b log (length rows)) (succeeded (answer_of b log (length rows))) _ _ (λ e. refl) (λ e. refl)

  pub block_done : (block_of b log rows).answer ≡ DONE
      → block_of b log rows
      ≡ record { answer = DONE; board = ran (records_in log) b log; rows = rows_of (records_in log) b log ++ drop (12 * records_in log) rows }
  unfolding block_of
  block_done e = rw (sym block_answer ∙ e)
