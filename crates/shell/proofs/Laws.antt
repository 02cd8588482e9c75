-- A program's loop over the pieces of a log: the board so far is that of some whole blocks, all accepted, and the next piece goes on from there.
-- Each turn is the law of one piece more; a piece that was not read, or is refused, is the last.
use mathlib.Core.Path.{◌≡◌, refl, sym, ap, ◌∙◌}
use mathlib.Core.Bool.{Bool, true, false, false≢true}
use mathlib.Core.List.{List, [], ◌++◌}
use Prim.Native.Nat.{ℕ, ◌*◌, ◌%◌, ◌≤◌}
use native.Mathlib.Omega.{arith}
use borrow.Author.Tests.{ltb-false}
use lib.Dec.{ltb}
use lib.ListN.{length, take, length-append, length-take}
use Rattle.laws.proofs.Bools.{if_no}
use Rattle.answer.specs.Told.{Told, Answer, told, succeeded, DONE}
use Rattle.answer.proofs.Told.{told_done}
use Rattle.records.specs.Refusal.{records_in}
use Rattle.board.specs.declared.Board.{Board}
use Rattle.board.specs.Block.{RanOut, ran_out}
use Rattle.replay.specs.Replay.{blocks_in, in_blocks}
use Rattle.replay.specs.Printed.{replayed}
use Rattle.pieces.proofs.Pieces.{OneMore, one_more}
use Rattle.shell.specs.Pieces.{piece_run, is_full}
use Rattle.shell.specs.Logs.{OfSomeLog}

-- what some whole blocks, all accepted, lead to
pub record SoFar (fresh b : Board) : Type 0 where
  pub log : List ℕ
  pub whole : length log % 1536 ≡ 0
  pub done : (replayed fresh log).answer ≡ DONE
  pub board : (replayed fresh log).board ≡ b

pub start : (b : Board) → SoFar b b
unfolding replayed in_blocks
start b = record { log = []; whole = refl; done = refl; board = refl }

-- what a full piece is
pub full_piece : (failed : Bool) (n : ℕ) (a : Told) → is_full failed n a ≡ true → (failed ≡ false) × (61440 ≤ n) × (succeeded a ≡ true)
full_piece true n a e = absurd (false≢true e)
full_piece false n a e = let way = if_no (ltb n 61440) false (succeeded a) true e false≢true in (refl, ltb-false n 61440 way.0, way.1)

module _ (fresh b : Board) (so : SoFar fresh b) where
  pub nothing_run : (a : Answer) (at : Board) → told a ≡ DONE → at ≡ b → OfSomeLog fresh a at
  nothing_run a at done same = (so.log, done ∙ sym so.done, same ∙ sym so.board)

  -- n bytes were read into a piece's room
  module _ (long : length fresh.ptcs ≡ 8) (n : ℕ) (bytes rows : List ℕ) (fits : length bytes ≡ 61440) (room : length rows ≡ 30720) where
    pub more : OneMore fresh so.log (take n bytes) (in_blocks (blocks_in (take n bytes)) b (take n bytes) rows)
    more =
        let space : 12 * records_in (take n bytes) ≤ length rows = rw length-take (omega arith) in
        rw so.board at (one_more fresh so.log (take n bytes) rows long (λ some. so.whole) so.done space)

    pub last : (failed : Bool) (a : Answer) (at : Board) (after : List ℕ) → ran_out a at after ≡ piece_run failed b (take n bytes) rows → OfSomeLog fresh a at
    last true a at after ran = nothing_run a at (ap (λ (o : RanOut). o.answer) ran) (ap (λ (o : RanOut). o.board) ran)
    last false a at after ran =
        (so.log ++ take n bytes, ap (λ (o : RanOut). o.answer) ran ∙ more.answer, ap (λ (o : RanOut). o.board) ran ∙ more.board)

    pub goes_on : (failed : Bool) (a : Answer) (at : Board) (after : List ℕ) → ran_out a at after ≡ piece_run failed b (take n bytes) rows
        → is_full failed n (told a) ≡ true → SoFar fresh at
    goes_on true a at after ran full = absurd (false≢true full)
    goes_on false a at after ran full =
        let is = full_piece false n (told a) full in
        record {
          log = so.log ++ take n bytes;
          whole = rw (length-append, length-take) (omega (arith, so.whole));
          done = sym (ap (λ (o : RanOut). o.answer) ran ∙ more.answer) ∙ told_done a is.2;
          board = sym (ap (λ (o : RanOut). o.board) ran ∙ more.board);
        }
