-- One block over a sound board: it is accepted where its records have no fault, and where its rows then lie.
-- Each test of the answer is one of the facts; the rows are as long as the records make them.
use mathlib.Core.Path.{◌≡◌, ◌∙◌}
use mathlib.Core.Bool.{true}
use mathlib.Core.List.{List, ◌++◌}
use Prim.Native.Nat.{ℕ, ◌*◌}
use native.Mathlib.Omega.{arith}
use lib.ListN.{length, take, drop}
use lib.Seq.{take_at, drop_at}
use Rattle.answer.specs.Told.{DONE}
use Rattle.records.specs.Refusal.{records_in, Ready}
use Rattle.board.specs.declared.Board.{Board}
use Rattle.board.specs.Run.{ran, rows_of}
use Rattle.board.specs.Sound.{sound_board}
use Rattle.board.specs.Block.{block_of}
use Rattle.board.proofs.Answers.{ready_done, block_answer}
use Rattle.board.proofs.Keeps.{Fit, ran_fit, rows_long}
use Rattle.cut.specs.Blocks.{Whole}

pub fit_of : (b : Board) → Whole b → sound_board b ≡ true → Fit b
fit_of b whole sound = record { ptcs = whole.ptcs; marks = whole.marks; sound = sound }

-- the board that records without a fault leave
pub after_fit : (b : Board) (log : List ℕ) (room : ℕ) → Fit b → Ready b.clock.crossings log room → Fit (ran (records_in log) b log)
after_fit b log room fit r = ran_fit (records_in log) b log fit r.life r.formed (records_in log) (omega arith)

pub accepts : (b : Board) (log rows : List ℕ) → sound_board b ≡ true → Ready b.clock.crossings log (length rows) → (block_of b log rows).answer ≡ DONE
accepts b log rows sound r = block_answer b log rows ∙ ready_done b log (length rows) sound r

-- what stands in the buffer: the rows, then the bytes that were there
pub rows_taken : (n : ℕ) (b : Board) (log later : List ℕ) → length b.ptcs ≡ 8 → take (12 * n) (rows_of n b log ++ later) ≡ rows_of n b log
rows_taken n b log later long = take_at (rows_of n b log) later (12 * n) (rows_long n b log long)

pub rows_past : (n : ℕ) (b : Board) (log later : List ℕ) → length b.ptcs ≡ 8 → drop (12 * n) (rows_of n b log ++ later) ≡ later
rows_past n b log later long = drop_at (rows_of n b log) later (12 * n) (rows_long n b log long)
