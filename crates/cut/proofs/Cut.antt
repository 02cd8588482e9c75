-- The cut: in blocks or whole, the same rows and the same closing board, and no block is refused.
-- By induction on the blocks: the first block's records are the log's first, and the rest run on from the board after them.
use mathlib.Core.Path.{◌≡◌, refl, sym, ◌∙◌}
use mathlib.Core.Bool.{true}
use mathlib.Core.List.{List, [], ◌∷◌}
use Prim.Native.Nat.{ℕ, ◌*◌, ◌%◌, ◌≤◌}
use native.Mathlib.Omega.{arith}
use lib.ListN.{length, drop, length-append}
use Rattle.answer.specs.Told.{DONE}
use Rattle.records.specs.Refusal.{records_in, Ready}
use Rattle.board.specs.declared.Board.{Board}
use Rattle.board.specs.Run.{ran, rows_of}
use Rattle.board.specs.Block.{block_of}
use Rattle.board.proofs.Answers.{block_ready, block_answer, block_done}
use Rattle.board.proofs.Keeps.{Fit}
use Rattle.cut.proofs.Accepted.{fit_of, after_fit, accepts, rows_taken}
use Rattle.cut.proofs.Parts.{records_add, ran_parts, rows_parts, first_ready, rest_ready}
use Rattle.cut.specs.Blocks.{Lent, AllFit, uncut, Outcome, in_turn, at_once, Cut}

-- the outcome of an accepted log, with no buffer in it: what both sides of the cut come to
abbrev run_of : Board → List ℕ → Outcome
run_of b log = record { accepted = true; rows = rows_of (records_in log) b log; closing = ran (records_in log) b log }

at_once_lem : (b : Board) (log buffer : List ℕ) → length b.ptcs ≡ 8 → (block_of b log buffer).answer ≡ DONE → at_once b log buffer ≡ run_of b log
unfolding at_once
at_once_lem b log buffer long done =
    rw (block_done b log buffer done, rows_taken (records_in log) b log (drop (12 * records_in log) buffer) long)

in_turn_lem : (b : Board) (blocks : List Lent) (room : ℕ) → Fit b → AllFit blocks → Ready b.clock.crossings (uncut blocks) room
    → in_turn b blocks ≡ run_of b (uncut blocks)
unfolding in_turn ran rows_of
in_turn_lem b [] room fit fits r = refl
in_turn_lem b (x ∷ xs) room fit fits r =
    let m = records_in x.log in
    let between = fits.0.between in
    let end : length (uncut xs) % 24 ≡ 0 = omega (arith, between, r.whole, length-append x.log (uncut xs)) in
    let first = first_ready b x.log (uncut xs) between end room r (length x.buffer) fits.0.room in
    let done = accepts b x.log x.buffer fit.sound first in
    let after = after_fit b x.log (length x.buffer) fit first in
    let space : 12 * records_in (uncut xs) ≤ room = omega (arith, r.space, records_add b x.log (uncut xs) between end) in
    let rest = in_turn_lem (ran m b x.log) xs room after fits.1 (rest_ready b x.log (uncut xs) between end room r room space) in
    let taken = rows_taken m b x.log (drop (12 * m) x.buffer) fit.ptcs in
    let ran_on = ran_parts b x.log (uncut xs) between end in
    let rows_on = rows_parts b x.log (uncut xs) between end in
    rw (block_done b x.log x.buffer done, taken, rest, ran_on, rows_on)

pub cut : Cut
cut b blocks buffer whole fits done =
    let answer = sym (block_answer b (uncut blocks) buffer) ∙ done in
    let start = block_ready b (uncut blocks) (length buffer) answer in
    in_turn_lem b blocks (length buffer) (fit_of b whole start.0) fits start.1 ∙ sym (at_once_lem b (uncut blocks) buffer whole.ptcs done)
