-- A log in blocks keeps a board sound, and so does opening one: every board that a program holds is fit.
-- A block is accepted, and its run keeps the board, or refused, and the board comes back; a fresh board is made of settings that pass.
use mathlib.Core.List.{List}
use Prim.Native.Nat.{ℕ, zero, suc}
use lib.ListN.{length}
use Rattle.laws.proofs.Bools.{if_has}
use Rattle.answer.specs.Told.{succeeded}
use Rattle.settings.specs.declared.Settings.{Settings}
use Rattle.settings.specs.Check.{checked}
use Rattle.settings.specs.Standard.{standard}
use Rattle.editions.specs.Read.{read_text}
use Rattle.settings.proofs.Standard.{standard_checks}
use Rattle.settings.proofs.Passed.{done_checks}
use Rattle.board.specs.declared.Board.{Board}
use Rattle.board.specs.Fresh.{fresh_board, fresh_of, MadeOut}
use Rattle.board.specs.Block.{RanOut, answer_of, block_of}
use Rattle.board.proofs.Answers.{block_ready}
use Rattle.board.proofs.Keeps.{Fit, fresh_fit}
use Rattle.cut.proofs.Accepted.{after_fit}
use Rattle.replay.specs.Replay.{opened_of, in_blocks}
use Rattle.pieces.proofs.Unbuffered.{accepted}

block_fit : (b : Board) (log rows : List ℕ) → Fit b → Fit (block_of b log rows).board
unfolding block_of
block_fit b log rows fit =
    if_has (λ (o : RanOut). Fit o.board) (succeeded (answer_of b log (length rows))) _ _
    (λ d. after_fit b log (length rows) fit (block_ready b log (length rows) (accepted b log (length rows) d)).1)
    (λ d. fit)

pub blocks_fit : (n : ℕ) (b : Board) (log rows : List ℕ) → Fit b → Fit (in_blocks n b log rows).board
unfolding in_blocks
blocks_fit zero b log rows fit = fit
blocks_fit (suc n) b log rows fit =
    let o = in_blocks n b log rows in
    let before = blocks_fit n b log rows fit in
    if_has (λ (p : RanOut). Fit p.board) (succeeded o.answer) _ o (λ d. block_fit o.board _ _ before) (λ d. before)

standard_fit : Fit (fresh_board standard)
standard_fit = fresh_fit standard standard_checks

made_fit : (s : Settings) → Fit (fresh_of s).board
unfolding fresh_of
made_fit s = if_has Fit (succeeded (checked s)) (fresh_board s) (fresh_board standard) (λ ok. fresh_fit s (done_checks s ok)) (λ no. standard_fit)

pub opened_fit : (text : List ℕ) → Fit (opened_of text).board
unfolding opened_of
opened_fit text =
    let r = read_text text in
    if_has (λ (m : MadeOut). Fit m.board) (succeeded r.answer) _ _ (λ d. made_fit r.settings) (λ d. standard_fit)
