-- Pieces of whole blocks, one after the other, are the log in blocks: without buffers the one is the other block by block.
-- What a piece's buffer and the log's own show is the same outcome laid over them, each with the room that the rows take.
use mathlib.Core.Path.{◌≡◌, refl, sym, ap, ap₂, ◌∙◌}
use mathlib.Core.Logic.{⊎_elim}
use mathlib.Core.Bool.{true, false}
use mathlib.Core.List.{List, [], ◌∷◌, ◌++◌, append-nil, append_assoc}
use Prim.Native.Nat.{ℕ, zero, suc, ◌+◌, ◌*◌, ◌%◌, ◌≤◌, ◌<◌}
use native.Mathlib.Omega.{arith}
use lib.ListN.{length, take, drop, replicate, length-append, length-replicate, drop_of_length-le}
use lib.Seq.{length-take-le, drop-append-le, take_at, drop_at, drop-drop}
use Rattle.laws.specs.Base.{if}
use Rattle.laws.proofs.Tests.{either, lt_or_ge}
use Rattle.answer.specs.Told.{succeeded, DONE}
use Rattle.records.specs.Refusal.{records_in}
use Rattle.board.specs.declared.Board.{Board}
use Rattle.board.specs.Block.{RanOut}
use Rattle.replay.specs.Replay.{blocks_in, in_blocks}
use Rattle.replay.specs.Printed.{replayed}
use Rattle.cut.specs.Blocks.{Lent, uncut, Whole}
use Rattle.cut.proofs.Program.{program}
use Rattle.pieces.specs.Pieces.{InPieces, lent_rows, in_pieces, AsReplayed, Pieces}
use Rattle.pieces.proofs.Unbuffered.{go_on, on_from, unbuffered, laid_over, in_turn_lem, first_part, up_to_ptcs, up_to_long, up_to_most, laid_over_lem}

-- a log in blocks, with no buffer
abbrev bare : Board → List ℕ → RanOut
bare b log = unbuffered (blocks_in log) b log

-- ---- two parts of a log, the first of whole blocks where anything follows it

module _ (x : List ℕ) where
  rest_left : (y : List ℕ) → (0 < length y → length x % 1536 ≡ 0) → drop (1536 * blocks_in x) (x ++ y) ≡ y
  rest_left [] whole = let all : length x ≤ 1536 * blocks_in x = omega arith in rw append-nil (drop_of_length-le x all)
  rest_left (c ∷ y) whole = drop_at x (c ∷ y) (1536 * blocks_in x) (omega (arith, whole (omega arith)))

  blocks_add : (y : List ℕ) → (0 < length y → length x % 1536 ≡ 0) → blocks_in (x ++ y) ≡ blocks_in x + blocks_in y
  blocks_add [] whole = rw append-nil (omega arith)
  blocks_add (c ∷ y) whole = omega (arith, length-append x (c ∷ y), whole (omega arith))

  first_alone : (b : Board) (y : List ℕ) → (0 < length y → length x % 1536 ≡ 0) → unbuffered (blocks_in x) b (x ++ y) ≡ bare b x
  first_alone b [] whole = rw append-nil
  first_alone b (c ∷ y) whole = first_part (blocks_in x) b x (c ∷ y) (omega (arith, whole (omega arith)))

joined : (b : Board) (x y : List ℕ) → (0 < length y → length x % 1536 ≡ 0) → bare b (x ++ y) ≡ on_from (bare b x) (λ c. bare c y)
joined b x y whole =
    ap (λ (k : ℕ). unbuffered k b (x ++ y)) (blocks_add x y whole)
    ∙ in_turn_lem b (x ++ y) (blocks_in x) (blocks_in y)
    ∙ ap₂ (λ (o : RanOut) (l : List ℕ). on_from o (λ c. unbuffered (blocks_in y) c l)) (first_alone x b y whole) (rest_left x y whole)

-- ---- a piece's outcome and the later ones'

front_cut : (xs buffer : List ℕ) (room : ℕ) → length xs ≤ room → room ≤ length buffer
    → take room (xs ++ drop (length xs) buffer) ≡ xs ++ drop (length xs) (take room buffer)
front_cut [] buffer room h r = refl
front_cut (x ∷ xs) buffer zero h r = absurd (omega arith)
front_cut (x ∷ xs) [] (suc room) h r = absurd (omega arith)
front_cut (x ∷ xs) (c ∷ buffer) (suc room) h r = ap (λ (l : List ℕ). x ∷ l) (front_cut xs buffer room (omega arith) (omega arith))

module _ (o p : RanOut) (w next : Board → RanOut) (buffer lent : List ℕ) (room : ℕ) (is : p ≡ laid_over buffer o)
    (later : next o.board ≡ laid_over lent (w o.board)) (exact : succeeded o.answer ≡ true → length o.rows ≡ room)
    (most : length o.rows ≤ room) (space : room ≤ length buffer) where
  piece_next : if (succeeded p.answer)
      (record { answer = (next p.board).answer; board = (next p.board).board; rows = take room p.rows ++ (next p.board).rows })
      (record { answer = p.answer; board = p.board; rows = take room p.rows ++ lent })
      ≡ laid_over (take room buffer ++ lent) (on_from o w)
  piece_next =
      let part = take room buffer in
      let long : length part ≡ room = length-take-le room buffer space in
      ⊎_elim
      (λ (d : succeeded o.answer ≡ true).
      let k = length (w o.board).rows in
      let ends : length part ≡ length o.rows = long ∙ sym (exact d) in
      let past : drop (length o.rows + k) (part ++ lent) ≡ drop k lent =
      sym (drop-drop k (length o.rows) (part ++ lent)) ∙ ap (drop k) (drop_at part lent (length o.rows) ends) in
      rw (is, d, later, take_at o.rows (drop (length o.rows) buffer) room (exact d), length-append, past, append_assoc))
      (λ (d : succeeded o.answer ≡ false).
      let inside : length o.rows ≤ length part = omega (arith, long) in
      rw (is, d, front_cut o.rows buffer room most space, drop-append-le (length o.rows) part lent inside, append_assoc))
      (either (succeeded o.answer))

-- ---- the pieces

pieces_laid : (b : Board) (pieces : List Lent) → length b.ptcs ≡ 8 → InPieces pieces → in_pieces b pieces ≡ laid_over (lent_rows pieces) (bare b (uncut pieces))
unfolding in_pieces unbuffered
pieces_laid b [] long fits = refl
pieces_laid b (x ∷ xs) long fits =
    let o = bare b x.log in
    let n = blocks_in x.log in
    let room = fits.0.room in
    let rest = pieces_laid o.board xs (up_to_ptcs b x.log long n) fits.1 in
    piece_next o (in_blocks n b x.log x.buffer) (λ c. bare c (uncut xs)) (λ c. in_pieces c xs) x.buffer (lent_rows xs) (12 * records_in x.log)
    (laid_over_lem b x.log x.buffer long room n (omega arith)) rest
    (λ d. omega (arith, up_to_long b x.log long n d)) (omega (arith, up_to_most b x.log long n)) room
    ∙ ap (laid_over (lent_rows (x ∷ xs))) (sym (joined b x.log (uncut xs) fits.0.whole))

-- together they are lent just the room for the log's rows
lent_long : (pieces : List Lent) → InPieces pieces → length (lent_rows pieces) ≡ 12 * records_in (uncut pieces)
lent_long [] fits = omega arith
lent_long (x ∷ xs) fits =
    let part = length-take-le (12 * records_in x.log) x.buffer fits.0.room in
    let later = lent_long xs fits.1 in
    ⊎_elim
    (λ (some : 0 < length (uncut xs)). simp length-append (omega (arith, part, later, fits.0.whole some)))
    (λ (none : length (uncut xs) ≤ 0). simp length-append (omega (arith, part, later)))
    (lt_or_ge 0 (length (uncut xs)))

same : (b : Board) (pieces : List Lent) → Whole b → InPieces pieces → in_pieces b pieces ≡ in_blocks (blocks_in (uncut pieces)) b (uncut pieces) (lent_rows pieces)
same b pieces whole fits =
    let room : 12 * records_in (uncut pieces) ≤ length (lent_rows pieces) = omega (arith, lent_long pieces fits) in
    pieces_laid b pieces whole.ptcs fits
    ∙ sym (laid_over_lem b (uncut pieces) (lent_rows pieces) whole.ptcs room (blocks_in (uncut pieces)) (omega arith))

-- ---- any buffer that has room

-- just the room for the log's rows
abbrev just : List ℕ → List ℕ
just log = replicate (12 * records_in log) 0

just_long : (log : List ℕ) → length (just log) ≡ 12 * records_in log
just_long log = length-replicate (12 * records_in log) 0

module _ (b : Board) (log : List ℕ) (long : length b.ptcs ≡ 8) where
  replayed_is : replayed b log ≡ laid_over (just log) (bare b log)
  unfolding replayed
  replayed_is =
      let room : 12 * records_in log ≤ length (just log) = omega (arith, just_long log) in
      laid_over_lem b log (just log) long room (blocks_in log) (omega arith)

  -- where the log goes through, these are all its rows, and nothing else
  exact : (bare b log).answer ≡ DONE → length (bare b log).rows ≡ 12 * records_in log
  exact done = omega (arith, up_to_long b log long (blocks_in log) (rw done refl))

  replayed_rows : (bare b log).answer ≡ DONE → (replayed b log).rows ≡ (bare b log).rows
  replayed_rows done =
      let none : length (just log) ≤ length (bare b log).rows = omega (arith, exact done, just_long log) in
      rw (replayed_is, drop_of_length-le (just log) none, append-nil)

  pub as_replayed : (rows : List ℕ) → 12 * records_in log ≤ length rows → AsReplayed b log rows (in_blocks (blocks_in log) b log rows)
  as_replayed rows room =
      let is = laid_over_lem b log rows long room (blocks_in log) (omega arith) in
      record {
        answer = rw (is, replayed_is);
        board = rw (is, replayed_is);
        rows = λ done. let d = rw is at done in rw (is, replayed_rows d, exact d);
      }

-- ---- one piece more, as a program's loop goes

-- what the piece gives over the board so far is what the longer log gives, and its rows come after those so far
pub record OneMore (b : Board) (log piece : List ℕ) (o : RanOut) : Type 0 where
  pub answer : o.answer ≡ (replayed b (log ++ piece)).answer
  pub board : o.board ≡ (replayed b (log ++ piece)).board
  pub rows : o.answer ≡ DONE → (replayed b (log ++ piece)).rows ≡ (replayed b log).rows ++ take (12 * records_in piece) o.rows

pub one_more : (b : Board) (log piece rows : List ℕ) → length b.ptcs ≡ 8 → (0 < length piece → length log % 1536 ≡ 0)
    → (replayed b log).answer ≡ DONE → 12 * records_in piece ≤ length rows → OneMore b log piece (in_blocks (blocks_in piece) (replayed b log).board piece rows)
one_more b log piece rows long whole done room =
    let w = bare b log in
    let so = replayed_is b log long in
    let through : w.answer ≡ DONE = sym (ap (λ (o : RanOut). o.answer) so) ∙ done in
    let then = bare w.board piece in
    let after : bare b (log ++ piece) ≡ go_on w then = joined b log piece whole ∙ rw through in
    let both = replayed_is b (log ++ piece) long in
    let ptcs = up_to_ptcs b log long (blocks_in log) in
    let is = laid_over_lem w.board piece rows ptcs room (blocks_in piece) (omega arith) in
    record {
      answer = rw (so, is, both, after);
      board = rw (so, is, both, after);
      rows = λ d.
          let e : then.answer ≡ DONE = rw (so, is) at d in
          let all : (bare b (log ++ piece)).answer ≡ DONE = ap (λ (o : RanOut). o.answer) after ∙ e in
          let mine = take_at then.rows (drop (length then.rows) rows) (12 * records_in piece) (exact w.board piece ptcs e) in
          rw (replayed_rows b (log ++ piece) long all, after, replayed_rows b log long through, so, is, mine);
    }

pub pieces : Pieces
pieces =
    record {
      same = same;
      accepted = λ b pieces whole fits done. same b pieces whole fits ∙ program.same b (uncut pieces) (lent_rows pieces) whole done;
      refused = λ b pieces n whole fits h done stopped.
          same b pieces whole fits ∙ program.refused b (uncut pieces) (lent_rows pieces) n whole h done stopped;
      any_buffer = λ b log rows whole room. as_replayed b log whole.ptcs rows room;
    }
