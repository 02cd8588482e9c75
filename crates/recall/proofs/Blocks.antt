-- With a store beside the board any blocks give what they give without it, and the uncut log's store.
-- By induction on the blocks: a block that is accepted hands on a sound board and a sound store, and its changes are the log's first.
use mathlib.Core.Path.{◌≡◌, refl, sym, ap, ◌∙◌}
use mathlib.Core.Logic.{⊎_elim}
use mathlib.Core.Bool.{true}
use mathlib.Core.List.{List, [], ◌∷◌, ◌++◌}
use Prim.Native.Nat.{ℕ, ◌+◌, ◌*◌, ◌%◌, ◌≤◌, ◌<◌}
use native.Mathlib.Omega.{arith}
use borrow.Author.Tests.{le-leb}
use lib.ListN.{length, length-append, get_or-append, get_or-eq_default}
use lib.Seq.{get_or-append-add}
use Rattle.laws.proofs.Tests.{lt_or_ge}
use Rattle.answer.specs.Told.{DONE}
use Rattle.steady.proofs.Laws.{carried_low, believed_low}
use Rattle.records.specs.Refusal.{records_in, Ready}
use Rattle.history.specs.declared.Store.{Store}
use Rattle.history.specs.Store.{sound_store}
use Rattle.history.specs.Keep.{kept_all}
use Rattle.history.proofs.Recall.{kept_sound}
use Rattle.board.specs.declared.Board.{Board}
use Rattle.board.specs.Sound.{sound_board}
use Rattle.board.specs.Run.{ran}
use Rattle.board.specs.Block.{block_of}
use Rattle.board.proofs.Answers.{block_ready, block_answer, block_done}
use Rattle.board.proofs.Settled.{sound_parts_lem}
use Rattle.board.proofs.Keeps.{Fit}
use Rattle.cut.specs.Blocks.{Lent, AllFit, uncut, in_turn}
use Rattle.cut.proofs.Accepted.{fit_of, after_fit, accepts}
use Rattle.cut.proofs.Parts.{records_add, first_ready, rest_ready}
use Rattle.beside.specs.Changes.{changes_over}
use Rattle.beside.specs.Beside.{BesideOut, followed, beside_answer, beside_of}
use Rattle.beside.proofs.Answers.{allowed_of}
use Rattle.recall.specs.Told.{OfBytes}
use Rattle.recall.specs.Recall.{beside_in_turn, BesideCut}
use Rattle.recall.proofs.Fitting.{CodedHeld, held_at, all_fit}
use Rattle.recall.proofs.Parts.{followed_parts}

-- an accepted block with a store beside it
beside_done : (b : Board) (s : Store) (x : ℕ) (log lent : List ℕ) (next : Board) (rows : List ℕ) → beside_answer b s x ≡ DONE
    → block_of b log lent ≡ record { answer = DONE; board = next; rows = rows }
    → beside_of b s x log lent ≡ record { answer = DONE; board = next; store = followed x b log s; rows = rows }
unfolding beside_of
beside_done b s x log lent next rows e f = rw (e, f)

allows : (b : Board) (s : Store) (x : ℕ) → sound_board b ≡ true → sound_store s ≡ true → x ≤ 40 → beside_answer b s x ≡ DONE
unfolding beside_answer
allows b s x p q h = rw (p, q, le-leb x 40 h)

-- bytes in both parts
module _ (p q : List ℕ) (bytes : OfBytes (p ++ q)) where
  first_bytes : OfBytes p
  first_bytes n =
      ⊎_elim
      (λ (h : n < length p). rw (sym (get_or-append p q 0 n h)) (bytes n))
      (λ (h : length p ≤ n). rw (get_or-eq_default {A = ℕ} p 0 h) (omega arith))
      (lt_or_ge n (length p))

  rest_bytes : OfBytes q
  rest_bytes n = rw (sym (get_or-append-add p q n 0)) (bytes (length p + n))

none : (b : Board) (s : Store) (x : ℕ) → beside_in_turn b s x [] ≡ record { outcome = in_turn b []; store = followed x b [] s }
unfolding beside_in_turn in_turn changes_over kept_all
none b s x = refl

-- one block more, whatever it handed on
one_more : (b : Board) (s : Store) (x : ℕ) (l : Lent) (ls : List Lent) (next : Board) (on end : Store) (rows : List ℕ)
    → beside_of b s x l.log l.buffer ≡ record { answer = DONE; board = next; store = on; rows = rows }
    → block_of b l.log l.buffer ≡ record { answer = DONE; board = next; rows = rows }
    → beside_in_turn next on x ls ≡ record { outcome = in_turn next ls; store = end }
    → beside_in_turn b s x (l ∷ ls) ≡ record { outcome = in_turn b (l ∷ ls); store = end }
unfolding beside_in_turn in_turn
one_more b s x l ls next on end rows e f g = rw (e, f, g)

turns : (b : Board) (s : Store) (x : ℕ) (blocks : List Lent) (room : ℕ) → Fit b → CodedHeld b → length s.words ≡ 1024 → sound_store s ≡ true → x ≤ 40 → AllFit blocks
    → OfBytes (uncut blocks) → Ready b.clock.crossings (uncut blocks) room
    → beside_in_turn b s x blocks ≡ record { outcome = in_turn b blocks; store = followed x b (uncut blocks) s }
turns b s x [] room fit held long sound low fits bytes r = none b s x
turns b s x (l ∷ ls) room fit held long sound low fits bytes r =
    let m = records_in l.log in
    let between = fits.0.between in
    let end : length (uncut ls) % 24 ≡ 0 = omega (arith, between, r.whole, length-append l.log (uncut ls)) in
    let first = first_ready b l.log (uncut ls) between end room r (length l.buffer) fits.0.room in
    let done = accepts b l.log l.buffer fit.sound first in
    let after = after_fit b l.log (length l.buffer) fit first in
    let space : 12 * records_in (uncut ls) ≤ room = omega (arith, r.space, records_add b l.log (uncut ls) between end) in
    let own = first_bytes l.log (uncut ls) bytes in
    let coded = held_at b l.log (length l.buffer) fit first held own m (omega arith) in
    let kept = kept_sound s (changes_over x m b l.log) long sound (all_fit b l.log (length l.buffer) fit first held own x m (omega arith)) in
    let rest = turns (ran m b l.log) (followed x b l.log s) x ls room after coded kept.0 kept.1 low fits.1 (rest_bytes l.log (uncut ls) bytes)
    (rest_ready b l.log (uncut ls) between end room r room space) in
    let block = block_done b l.log l.buffer done in
    let beside = beside_done b s x l.log l.buffer _ _ (allows b s x fit.sound sound low) block in
    let parts = followed_parts x b l.log (uncut ls) between end s in
    one_more b s x l ls _ _ _ _ beside block (rest ∙ ap (λ (t : Store). record { outcome = in_turn (ran m b l.log) ls; store = t }) (sym parts))

pub beside_cut : BesideCut
beside_cut b s x blocks buffer whole held e long fits bytes done =
    let start = block_ready b (uncut blocks) (length buffer) (sym (block_answer b (uncut blocks) buffer) ∙ done) in
    let p = sound_parts_lem b start.0 in
    let w = allowed_of b s x e in
    let coded : CodedHeld b = record {
      carried = record { long = held.carried.long; gtfe = carried_low b.held p.held; bytes = held.carried.bytes };
      believed = record { long = held.believed.long; gtfe = believed_low b.held p.held; bytes = held.believed.bytes };
    } in
    let store = ap (λ (o : BesideOut). o.store) (beside_done b s x (uncut blocks) buffer _ _ e (block_done b (uncut blocks) buffer done)) in
    turns b s x blocks (length buffer) (fit_of b whole start.0) coded long w.0 w.1 fits bytes start.1
    ∙ ap (λ (t : Store). record { outcome = in_turn b blocks; store = t }) (sym store)
