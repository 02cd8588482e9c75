-- The blocks of a log, tested in one pass and run in one call, do what they do in turn: the answer, the board and the rows are the same.
-- By induction on the blocks: one more that is accepted joins on by the cut, and a refusal leaves the board and the rows of those before.
use mathlib.Core.Path.{◌≡◌, refl, ap, sym, ◌∙◌}
use mathlib.Core.Logic.{⊎_elim}
use mathlib.Core.Bool.{true, false}
use mathlib.Core.List.{List, ◌++◌, append_assoc}
use Prim.Native.Nat.{ℕ, zero, suc, ◌+◌, ◌-◌, ◌*◌, ◌≤◌, ◌<◌}
use native.Mathlib.Nat.{add-zero}
use native.Mathlib.Omega.{arith}
use lib.ListN.{length, take, drop, length-take, length-drop}
use lib.Seq.{take_at, drop_at, drop-drop}
use Rattle.laws.specs.Base.{if}
use Rattle.laws.proofs.Tests.{either}
use Rattle.answer.specs.Told.{Told, succeeded, DONE, BOARD}
use Rattle.records.specs.Refusal.{records_in}
use Rattle.records.specs.Support.Blocks.{TestedOut, tested_of}
use Rattle.records.proofs.Laws.{all_formed}
use Rattle.records.proofs.Testing.{Clear, answer_at, tested_next, tested_stops, tested_full, tested_clear}
use Rattle.board.specs.declared.Board.{Board}
use Rattle.board.specs.Run.{ran, rows_of}
use Rattle.board.specs.Sound.{sound_board}
use Rattle.board.specs.Block.{RanOut, answer_of, block_of}
use Rattle.board.specs.Support.Blocks.{ran_to, blocks_of}
use Rattle.board.proofs.Cut.{cut_board, cut_rows, start_board, start_rows}
use Rattle.board.proofs.Keeps.{Fit, ran_count, ran_fit, rows_long}
use Rattle.board.proofs.Settled.{sound_life}
use Rattle.replay.specs.Replay.{blocks_in, block_at, laid_on, in_blocks}
use Rattle.replay.specs.TestedFirst.{TestedFirst}
use Rattle.replay.proofs.Laws.{stays}

-- ---- one block more

-- over the board and the rows that m records left
module _ (b : Board) (log rows : List ℕ) (long : length b.ptcs ≡ 8) (m : ℕ) where
  abbrev left : Board
  left = ran m b log

  abbrev written : List ℕ
  written = rows_of m b log ++ drop (12 * m) rows

  kept : take (12 * m) written ≡ rows_of m b log
  kept = take_at (rows_of m b log) (drop (12 * m) rows) (12 * m) (rows_long m b log long)

  past : drop (12 * m) written ≡ drop (12 * m) rows
  past = drop_at (rows_of m b log) (drop (12 * m) rows) (12 * m) (rows_long m b log long)

  module _ (block : List ℕ) (a : Told) (is : answer_of left block (length (drop (12 * m) rows)) ≡ a) where
    abbrev after : RanOut
    after = laid_on (12 * m) written (block_of left block (drop (12 * m) written))

    refused : succeeded a ≡ false → after ≡ record { answer = a; board = left; rows = written }
    unfolding block_of
    refused d = rw (past, is, d, kept)

    accepted : succeeded a ≡ true → (l : ℕ) → block ≡ take l (drop (24 * m) log) → 24 * records_in block ≤ l
        → after ≡ ran_to (record { answer = a; records = m + records_in block }) b log rows
    unfolding block_of
    accepted d l at short =
        let k = records_in block in
        let rest = drop (24 * m) log in
        let board : ran k left block ≡ ran (m + k) b log = ap (ran k left) at ∙ start_board left rest l k short ∙ sym (cut_board b log m k) in
        let lines : rows_of k left block ≡ rows_of k left rest = ap (rows_of k left) at ∙ start_rows left rest l k short in
        let to : 12 * m + 12 * k ≡ 12 * (m + k) = omega arith in
        let later : drop (12 * k) (drop (12 * m) rows) ≡ drop (12 * (m + k)) rows = drop-drop (12 * k) (12 * m) rows ∙ ap (λ (n : ℕ). drop n rows) to in
        rw (past, is, d, kept, board, lines, later, cut_rows b log m k, append_assoc)

-- ---- all blocks of a log

module _ (b : Board) (log rows : List ℕ) (fit : Fit b) where
  abbrev tested : ℕ → TestedOut
  tested n = tested_of n b.clock.crossings log (length rows)

  -- what block n is told by the board that 64 records for each block before it left
  told_there : (n : ℕ) → n < blocks_in log → succeeded (tested n).answer ≡ true
      → answer_of (ran (64 * n) b log) (block_at log n) (length (drop (12 * (64 * n)) rows)) ≡ answer_at b.clock.crossings log (length rows) n
  unfolding answer_of
  told_there n h d =
      let first = b.clock.crossings in
      let full = tested_full first log (length rows) n (omega (arith, h)) d in
      let clear : Clear first log (length rows) (64 * n) = rw full at (tested_clear first log (length rows) (sound_life b fit.sound) n (omega arith)) in
      let sound = (ran_fit (64 * n) b log fit clear.life (all_formed (64 * n) log clear.formed) (64 * n) (omega arith)).sound in
      let at : 12 * (64 * n) ≡ 768 * n = omega arith in
      rw (sound, ran_count b log (64 * n), length-drop, at)

  -- the next block's answer is a: by the tests, and by that board
  joined : (n : ℕ) (a : Told) → n < blocks_in log → succeeded (tested n).answer ≡ true
      → tested (suc n) ≡ record { answer = a; records = 64 * n + if (succeeded a) (records_in (block_at log n)) 0 }
      → answer_of (ran (64 * n) b log) (block_at log n) (length (drop (12 * (64 * n)) rows)) ≡ a
      → laid_on (768 * n) (ran_to (tested n) b log rows).rows (block_of (ran_to (tested n) b log rows).board (block_at log n) (drop (768 * n) (ran_to (tested n) b log rows).rows))
      ≡ ran_to (tested (suc n)) b log rows
  joined n a h d next is =
      let block = block_at log n in
      let full = tested_full b.clock.crossings log (length rows) n (omega (arith, h)) d in
      let at : 24 * (64 * n) ≡ 1536 * n = omega arith in
      let lines : 768 * n ≡ 12 * (64 * n) = omega arith in
      let part : block ≡ take 1536 (drop (24 * (64 * n)) log) = rw at refl in
      rw (next, full, lines)
      (⊎_elim
      (λ (e : succeeded a ≡ true). rw e (accepted b log rows fit.ptcs (64 * n) block a is e 1536 part (omega (arith, length-take 1536 (drop (1536 * n) log)))))
      (λ (e : succeeded a ≡ false). rw (e, add-zero) (refused b log rows fit.ptcs (64 * n) block a is e))
      (either (succeeded a)))

  none : in_blocks zero b log rows ≡ ran_to (tested zero) b log rows
  unfolding in_blocks tested_of ran rows_of
  none = refl

  module _ (n : ℕ) (so : in_blocks n b log rows ≡ ran_to (tested n) b log rows) where
    goes_on : succeeded (tested n).answer ≡ true
        → in_blocks (suc n) b log rows
        ≡ laid_on (768 * n) (ran_to (tested n) b log rows).rows (block_of (ran_to (tested n) b log rows).board (block_at log n) (drop (768 * n) (ran_to (tested n) b log rows).rows))
    unfolding in_blocks
    goes_on d = rw (so, d)

    ends : succeeded (tested n).answer ≡ false → in_blocks (suc n) b log rows ≡ ran_to (tested n) b log rows
    unfolding in_blocks
    ends d = rw (so, d)

    one_more : n < blocks_in log → in_blocks (suc n) b log rows ≡ ran_to (tested (suc n)) b log rows
    one_more h =
        let first = b.clock.crossings in
        ⊎_elim
        (λ (d : succeeded (tested n).answer ≡ true).
        goes_on d ∙ joined n (answer_at first log (length rows) n) h d (tested_next first log (length rows) n d) (told_there n h d))
        (λ (d : succeeded (tested n).answer ≡ false).
        ends d ∙ ap (λ (t : TestedOut). ran_to t b log rows) (sym (tested_stops first log (length rows) n d)))
        (either (succeeded (tested n).answer))

  pub in_turn_lem : (n : ℕ) → n ≤ blocks_in log → in_blocks n b log rows ≡ ran_to (tested n) b log rows
  in_turn_lem zero h = none
  in_turn_lem (suc n) h = one_more n (in_turn_lem n (omega arith)) h

-- a log without a block leaves everything as it was
pub empty_log : (b : Board) (log rows : List ℕ) → length log ≡ 0 → in_blocks (blocks_in log) b log rows ≡ record { answer = DONE; board = b; rows = rows }
unfolding in_blocks
empty_log b log rows e = let none : blocks_in log ≡ 0 = omega arith in rw none

-- a board that is not sound is refused in the first block
unsound : (b : Board) (log rows : List ℕ) → sound_board b ≡ false → in_blocks (suc zero) b log rows ≡ record { answer = BOARD; board = b; rows = rows }
unfolding in_blocks block_of answer_of
unsound b log rows e = rw e

pub tested_first : TestedFirst
unfolding blocks_of
tested_first b log rows ptcs marks some =
    ⊎_elim
    (λ (e : sound_board b ≡ true).
    let fit : Fit b = record { ptcs = ptcs; marks = marks; sound = e } in
    rw e (sym (in_turn_lem b log rows fit (blocks_in log) (omega arith))))
    (λ (e : sound_board b ≡ false).
    let first = unsound b log rows e in
    let all : blocks_in log - 1 + suc zero ≡ blocks_in log = omega arith in
    rw e (sym (rw all at (stays b log rows (blocks_in log - 1) (suc zero) (rw first refl)) ∙ first)))
    (either (sound_board b))
