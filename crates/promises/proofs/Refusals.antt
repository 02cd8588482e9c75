-- A refused call changes nothing: each definition's other arm gives back what came in.
-- Which arm it was is told by the answer, which both arms share.
use mathlib.Core.Path.{◌≡◌, refl, sym, ap, ◌∙◌}
use mathlib.Core.Logic.{⊎_elim}
use mathlib.Core.Bool.{true, false, false≢true}
use mathlib.Core.List.{List, [], ◌∷◌}
use Prim.Native.Nat.{ℕ, ◌≤◌}
use native.Mathlib.Omega.{arith}
use lib.Dec.{leb, eqb}
use lib.ListN.{length}
use Rattle.laws.proofs.Tests.{either}
use Rattle.std.specs.Prelude.{Ok, Err}
use Rattle.answer.specs.declared.Refusal.{Refusal}
use Rattle.answer.specs.declared.Refusal.TheVariants.{Text, Range, Relation, Board, Length, Room, Record, Life, Store as StoreRefused}
use Rattle.answer.specs.Told.{Told, Answer, told, told_refusal, succeeded}
use Rattle.text.specs.Lines.{Lines, all, text_at, range_at, read_lines}
use Rattle.keys.specs.Settings.{table_of}
use Rattle.settings.specs.declared.Settings.{Settings}
use Rattle.settings.specs.Relations.{relation, related}
use Rattle.settings.specs.Standard.{standard}
use Rattle.editions.specs.Read.{edition_of, laid_out, settled, tested, concluded, read_text}
use Rattle.editions.specs.Write.{written}
use Rattle.salvage.specs.Salvage.{SalvageOut, refused_with, salvage_of}
use Rattle.salvage.proofs.Leaves.{each}
use Rattle.history.specs.declared.Store.{Store}
use Rattle.history.specs.Store.{sound_store}
use Rattle.history.specs.Read.{read_bytes, read_of}
use Rattle.board.specs.declared.Board.{Board as BoardValue}
use Rattle.board.specs.Fresh.{fresh_of}
use Rattle.board.specs.Block.{answer_of, block_of}
use Rattle.board.proofs.Answers.{block_answer}
use Rattle.report.specs.Report.{reported}
use Rattle.beside.specs.Beside.{beside_answer, beside_of}
use Rattle.promises.specs.Refusals.{Refusals}

refusal_numbered : (r : Refusal) → (told_refusal r).number ≤ 9
refusal_numbered (Text line) = omega arith
refusal_numbered (Range line) = omega arith
refusal_numbered (Relation which controller) = omega arith
refusal_numbered Board = omega arith
refusal_numbered Length = omega arith
refusal_numbered (Room needed) = omega arith
refusal_numbered (Record index) = omega arith
refusal_numbered Life = omega arith
refusal_numbered StoreRefused = omega arith

numbered : (a : Answer) → (told a).number ≤ 9
numbered (Ok done) = omega arith
numbered (Err r) = refusal_numbered r

-- a block's answer is the same on both ways, so it says which was taken
module _ (b : BoardValue) (log rows : List ℕ) (e : succeeded (block_of b log rows).answer ≡ false) where
  stopped : succeeded (answer_of b log (length rows)) ≡ false
  stopped = ap succeeded (sym (block_answer b log rows)) ∙ e

  block_board : (block_of b log rows).board ≡ b
  unfolding block_of
  block_board = rw stopped

  block_rows : (block_of b log rows).rows ≡ rows
  unfolding block_of
  block_rows = rw stopped

-- with a store beside it: its own refusals give back what came in, and so does a refused block
module _ (b : BoardValue) (s : Store) (x : ℕ) (log rows : List ℕ) where
  beside_refused : succeeded (beside_of b s x log rows).answer ≡ false
      → beside_of b s x log rows ≡ record { answer = (beside_of b s x log rows).answer; board = b; store = s; rows = rows }
  unfolding beside_of
  beside_refused e =
      ⊎_elim
      (λ (ok : succeeded (beside_answer b s x) ≡ true).
      let off : succeeded (block_of b log rows).answer ≡ false = rw ok at e in
      rw (ok, off, block_board b log rows off, block_rows b log rows off))
      (λ (off : succeeded (beside_answer b s x) ≡ false). rw off)
      (either (succeeded (beside_answer b s x)))

read_refused : (s : Store) (buffer : List ℕ) → succeeded (read_of s buffer).answer ≡ false → (read_of s buffer).buffer ≡ buffer
unfolding read_of
read_refused s buffer e =
    ⊎_elim
    (λ (ok : sound_store s ≡ true).
    ⊎_elim
    (λ (fits : leb (length (read_bytes s)) (length buffer) ≡ true). absurd (false≢true (sym (rw (ok, fits) at e))))
    (λ (off : leb (length (read_bytes s)) (length buffer) ≡ false). rw (ok, off))
    (either (leb (length (read_bytes s)) (length buffer))))
    (λ (off : sound_store s ≡ false). rw off)
    (either (sound_store s))

salvage_refused : (first : ℕ) (log salvaged changes : List ℕ) → succeeded (salvage_of first log salvaged changes).answer ≡ false
    → salvage_of first log salvaged changes ≡ refused_with (salvage_of first log salvaged changes).answer salvaged changes
salvage_refused first log salvaged changes =
    each first log salvaged changes (λ (o : SalvageOut). succeeded o.answer ≡ false → o ≡ refused_with o.answer salvaged changes)
    (λ a off e. refl)
    (λ numbers log_room list_room e. absurd (false≢true (sym e)))

tested_refused : (s : Settings) (a : Told) → succeeded (tested s a).answer ≡ false → (tested s a).settings ≡ standard
tested_refused s a e =
    ⊎_elim
    (λ (ok : succeeded a ≡ true). absurd (false≢true (sym (rw ok at e) ∙ ok)))
    (λ (off : succeeded a ≡ false). rw off)
    (either (succeeded a))

concluded_refused : (n : ℕ) (l : Lines) → succeeded (concluded n l).answer ≡ false → (concluded n l).settings ≡ standard
concluded_refused n (text_at i) e = refl
concluded_refused n (range_at i) e = refl
concluded_refused n (all ns []) e = tested_refused (settled n ns) (related (relation (laid_out n ns))) e
concluded_refused n (all ns (b ∷ t)) e = refl

reading_refused : (text : List ℕ) → succeeded (read_text text).answer ≡ false → (read_text text).settings ≡ standard
unfolding read_text
reading_refused text e =
    ⊎_elim
    (λ (none : eqb (edition_of text) 0 ≡ true). rw none)
    (λ (some : eqb (edition_of text) 0 ≡ false). rw some (concluded_refused (edition_of text) (read_lines (table_of (edition_of text)) [] text) (rw some at e)))
    (either (eqb (edition_of text) 0))

pub refusals : Refusals
unfolding written reported fresh_of
refusals =
    record {
      numbered = numbered;
      block_board = block_board;
      block_rows = block_rows;
      beside = beside_refused;
      read_out = read_refused;
      salvage = salvage_refused;
      writing = λ s buffer e. rw e;
      report = λ b buffer e. rw e;
      reading = reading_refused;
      fresh = λ s e. rw e;
    }
