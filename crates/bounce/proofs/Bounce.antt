-- Two logs that differ only in what one input bounces through give the same rows, and the same board but for the code it carried last.
-- By induction on the records each input is believed to carry the same in both; all else in a board goes by the believed codes.
use mathlib.Core.Path.{◌≡◌, refl, sym, ap, ap₂, ◌∙◌, subst}
use mathlib.Core.Logic.{⊎_elim, inr}
use mathlib.Core.Bool.{true, false}
use mathlib.Core.List.{List, ◌++◌}
use Prim.Native.Nat.{ℕ, zero, suc, ◌+◌, ◌*◌, ◌/◌, ◌%◌, ◌≤◌, ◌<◌}
use native.Mathlib.Omega.{arith}
use borrow.Author.Tests.{eq-eqb, ne_eqb}
use lib.Dec.{eqb}
use lib.ListN.{length, get_or}
use lib.Seq.{ext_get_or}
use Rattle.laws.proofs.Tests.{either, same_or_not}
use Rattle.settings.specs.declared.Settings.{Settings}
use Rattle.status.specs.Codes.{code_at}
use Rattle.steady.specs.Steady.{steady, believed_of}
use Rattle.steady.specs.Held.{next_held, fresh_held}
use Rattle.steady.proofs.Laws.{twice, once}
use Rattle.records.specs.Records.{rec_at, is_crossing, codes_in}
use Rattle.records.specs.Refusal.{records_in}
use Rattle.board.specs.declared.Board.{Board}
use Rattle.board.specs.Crossing.{turn_by, scene_by, board_crossed, crossed_by, row_crossed, crossing_row_by}
use Rattle.board.specs.Command.{command_by, board_commanded, commanded_by, row_commanded, command_row_by}
use Rattle.board.specs.Run.{stepped, row_of, ran, rows_of}
use Rattle.board.specs.Fresh.{fresh_board}
use Rattle.daybook.specs.Whole.{Taken, Crossing, whole}
use Rattle.daybook.proofs.Ground.{ground}
use Rattle.bounce.specs.Input.{code_now, code_before, believed_before}
use Rattle.bounce.specs.Bounce.{OnlyIn, NothingNew, Alike, BouncesApart, carrying, SameButCarried, Bounce, NeverTwice}
use Rattle.bounce.proofs.Holds.{told_at}

-- ---- what is believed, by the records alone

stays : (x : ℕ) (log : List ℕ) (i : ℕ) → NothingNew x log i
    → steady (code_before log x i) (believed_before log x i) (code_now log x i) ≡ believed_before log x i
stays x log i known =
    ⊎_elim
    (λ (e : code_now log x i ≡ code_before log x i). rw (← e) (twice (believed_before log x i) (code_now log x i) ∙ known e))
    (λ (e : code_now log x i ≡ code_before log x i → ⊥). once (code_before log x i) (believed_before log x i) (code_now log x i) (λ z. e (sym z)))
    (same_or_not (code_now log x i) (code_before log x i))

module _ (x : ℕ) (a b : List ℕ) (only : OnlyIn x a b) where
  kinds : (i : ℕ) → i < records_in a → is_crossing (rec_at a i) ≡ is_crossing (rec_at b i)
  kinds i h = ap (λ (n : ℕ). eqb n 0) (only.heads i 0 h (omega arith))

  carried_same : (i : ℕ) → i ≤ records_in a → (y : ℕ) → y < 41 → (y ≡ x → ⊥) → code_before a y i ≡ code_before b y i
  unfolding code_before
  carried_same zero h y low other = refl
  carried_same (suc i) h y low other =
      ⊎_elim
      (λ (e : is_crossing (rec_at a i) ≡ true). rw (← kinds i h, e) (only.others i y (record { among = h; kind = e }) low other))
      (λ (e : is_crossing (rec_at a i) ≡ false). rw (← kinds i h, e) (carried_same i (omega arith) y low other))
      (either (is_crossing (rec_at a i)))

  module _ (apart : BouncesApart x a b) where
    -- the one that bounces, and any other
    own_same : (i : ℕ) → Crossing a i → believed_before a x i ≡ believed_before b x i
        → steady (code_before a x i) (believed_before a x i) (code_now a x i) ≡ steady (code_before b x i) (believed_before b x i) (code_now b x i)
    own_same i c e =
        ⊎_elim
        (λ (p : Alike x a b i). rw (p.before, e, p.now))
        (λ (p : (NothingNew x a i) × (NothingNew x b i)). stays x a i p.0 ∙ e ∙ sym (stays x b i p.1))
        (apart i c)

    other_same : (i y : ℕ) → Crossing a i → y < 41 → (y ≡ x → ⊥) → believed_before a y i ≡ believed_before b y i
        → steady (code_before a y i) (believed_before a y i) (code_now a y i) ≡ steady (code_before b y i) (believed_before b y i) (code_now b y i)
    other_same i y c low other e = rw (carried_same i (omega (arith, c.among)) y low other, e, only.others i y c low other)

    believed_same : (i : ℕ) → i ≤ records_in a → (y : ℕ) → y < 41 → believed_before a y i ≡ believed_before b y i
    unfolding believed_before
    believed_same zero h y low = refl
    believed_same (suc i) h y low =
        let before = believed_same i (omega arith) y low in
        ⊎_elim
        (λ (e : is_crossing (rec_at a i) ≡ true).
        let c : Crossing a i = record { among = h; kind = e } in
        rw (← kinds i h, e)
        (⊎_elim
        (λ (z : y ≡ x).
        subst
        (λ (t : ℕ). steady (code_before a t i) (believed_before a t i) (code_now a t i) ≡ steady (code_before b t i) (believed_before b t i) (code_now b t i))
        (sym z)
        (own_same i c (subst (λ (t : ℕ). believed_before a t i ≡ believed_before b t i) z before)))
        (λ (z : y ≡ x → ⊥). other_same i y c low z before)
        (same_or_not y x)))
        (λ (e : is_crossing (rec_at a i) ≡ false). rw (← kinds i h, e) before)
        (either (is_crossing (rec_at a i)))

-- ---- 41 codes are 21 bytes

low_code : (l : List ℕ) (j : ℕ) → j < 20 → code_at l (2 * j) ≡ get_or l (suc j) 0 % 16
unfolding code_at
low_code l j h =
    let place : 1 + 2 * j / 2 ≡ suc j = omega arith in
    let even : 2 * j % 2 ≡ 0 = omega arith in
    rw (ne_eqb (2 * j) 40 (λ e. omega arith), place, eq-eqb (2 * j % 2) 0 even)

high_code : (l : List ℕ) (j : ℕ) → j < 20 → code_at l (2 * j + 1) ≡ get_or l (suc j) 0 / 16
unfolding code_at
high_code l j h =
    let place : 1 + (2 * j + 1) / 2 ≡ suc j = omega arith in
    let odd : (2 * j + 1) % 2 ≡ 0 → ⊥ = λ e. omega arith in
    rw (ne_eqb (2 * j + 1) 40 (λ e. omega arith), place, ne_eqb ((2 * j + 1) % 2) 0 odd)

module _ (a b : List ℕ) (same : (y : ℕ) → y < 41 → code_at a y ≡ code_at b y) where
  same_byte : (k : ℕ) → k < 21 → get_or a k 0 ≡ get_or b k 0
  unfolding code_at
  same_byte zero h = same 40 (omega arith)
  same_byte (suc j) h =
      let inside : j < 20 = omega arith in
      let low = sym (low_code a j inside) ∙ same (2 * j) (omega arith) ∙ low_code b j inside in
      let high = sym (high_code a j inside) ∙ same (2 * j + 1) (omega arith) ∙ high_code b j inside in
      omega (arith, low, high)

  same_bytes : length a ≡ 21 → length b ≡ 21 → a ≡ b
  same_bytes p q = ext_get_or 0 a b (p ∙ sym q) (λ k h. same_byte k (rw p at h))

-- ---- one record, over a board that is beside another

fresh_beside : (s : Settings) → fresh_board s ≡ carrying (fresh_board s) (fresh_board s).held.carried
unfolding fresh_board fresh_held
fresh_beside s = refl

module _ (b : Board) (c ra rb : List ℕ) (heads : (n : ℕ) → n < 3 → get_or ra n 0 ≡ get_or rb n 0) where
  module _ (e : believed_of c b.held.believed (codes_in ra) ≡ believed_of b.held.carried b.held.believed (codes_in rb)) where
    crossed : board_crossed (carrying b c) ra ≡ carrying (board_crossed b rb) (board_crossed (carrying b c) ra).held.carried
    unfolding crossed_by scene_by turn_by next_held
    crossed = rw (heads 1 (omega arith), heads 2 (omega arith), e)

    crossed_row : row_crossed (carrying b c) ra ≡ row_crossed b rb
    unfolding crossing_row_by scene_by turn_by next_held
    crossed_row = rw (heads 1 (omega arith), heads 2 (omega arith), e)

  commanded : board_commanded (carrying b c) ra ≡ carrying (board_commanded b rb) (board_commanded (carrying b c) ra).held.carried
  unfolding commanded_by command_by
  commanded = rw (heads 1 (omega arith), heads 2 (omega arith))

  commanded_row : row_commanded (carrying b c) ra ≡ row_commanded b rb
  unfolding command_row_by command_by
  commanded_row = rw (heads 1 (omega arith), heads 2 (omega arith))

-- where the codes believed after it are the same, so are the row and all else
module _ (a b : Board) (c ra rb : List ℕ) (before : a ≡ carrying b c) (heads : (n : ℕ) → n < 3 → get_or ra n 0 ≡ get_or rb n 0)
    (same : (stepped a ra).held.believed ≡ (stepped b rb).held.believed) where
  kind : is_crossing ra ≡ is_crossing rb
  kind = ap (λ (n : ℕ). eqb n 0) (heads 0 (omega arith))

  believed_now_lem : is_crossing rb ≡ true → believed_of c b.held.believed (codes_in ra) ≡ believed_of b.held.carried b.held.believed (codes_in rb)
  unfolding stepped crossed_by next_held
  believed_now_lem e = rw (before, kind, e) at same

  next : stepped a ra ≡ carrying (stepped b rb) (stepped a ra).held.carried
  unfolding stepped
  next =
      ⊎_elim
      (λ (e : is_crossing rb ≡ true). rw (before, kind, e) (crossed b c ra rb heads (believed_now_lem e)))
      (λ (e : is_crossing rb ≡ false). rw (before, kind, e) (commanded b c ra rb heads))
      (either (is_crossing rb))

  next_row : row_of a ra ≡ row_of b rb
  unfolding row_of
  next_row =
      ⊎_elim
      (λ (e : is_crossing rb ≡ true). rw (before, kind, e) (crossed_row b c ra rb heads (believed_now_lem e)))
      (λ (e : is_crossing rb ≡ false). rw (before, kind, e) (commanded_row b c ra rb heads))
      (either (is_crossing rb))

-- ---- two logs

module _ {s : Settings} {a b buffer : List ℕ} {x : ℕ} (ta : Taken s a buffer) (tb : Taken s b buffer) (only : OnlyIn x a b) (apart : BouncesApart x a b) where
  abbrev n : ℕ
  n = records_in a

  abbrev at_a : ℕ → Board
  at_a i = ran i (fresh_board s) a

  abbrev at_b : ℕ → Board
  at_b i = ran i (fresh_board s) b

  as_many : n ≡ records_in b
  as_many = rw only.long

  codes : (i : ℕ) → i ≤ n → (at_a i).held.believed ≡ (at_b i).held.believed
  codes i h =
      let p = told_at ta i h in
      let q = told_at tb i (rw (← as_many) h) in
      same_bytes _ _ (λ y low. p.believed y low ∙ believed_same x a b only apart i h y low ∙ sym (q.believed y low)) p.long q.long

  boards : (i : ℕ) → i ≤ n → at_a i ≡ carrying (at_b i) (at_a i).held.carried
  unfolding ran
  boards zero h = fresh_beside s
  boards (suc i) h =
      next (at_a i) (at_b i) (at_a i).held.carried (rec_at a i) (rec_at b i) (boards i (omega arith)) (λ k. only.heads i k h) (codes (suc i) h)

  rows : (i : ℕ) → i ≤ n → rows_of i (fresh_board s) a ≡ rows_of i (fresh_board s) b
  unfolding rows_of ran
  rows zero h = refl
  rows (suc i) h =
      ap₂ (◌++◌ {A = ℕ}) (rows i (omega arith))
      (next_row (at_a i) (at_b i) (at_a i).held.carried (rec_at a i) (rec_at b i) (boards i (omega arith)) (λ k. only.heads i k h) (codes (suc i) h))

  others : (y : ℕ) → y < 41 → (y ≡ x → ⊥) → code_at (at_a n).held.carried y ≡ code_at (at_b n).held.carried y
  others y low other =
      (told_at ta n (omega arith)).carried y low ∙ carried_same x a b only n (omega arith) y low other
      ∙ sym ((told_at tb n (omega (arith, as_many))).carried y low)

  outcome : SameButCarried x (whole s a buffer) (whole s b buffer)
  outcome =
      rw ((ground ta).rows, (ground tb).rows, (ground ta).closing, (ground tb).closing, ← as_many)
      (record { rows = rw (rows n (omega arith)); board = boards n (omega arith); others = others })

pub bounce : Bounce
bounce s a b buffer x ta tb only apart = outcome ta tb only apart

pub never_twice : NeverTwice
never_twice s a b buffer x ta tb only p q =
    outcome ta tb only
    (λ i c. inr (p i c, q i (record { among = rw (← only.long) c.among; kind = rw (← kinds x a b only i c.among) c.kind })))
