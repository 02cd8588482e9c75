-- `text::read_number` meets its contract: the digits that are left to read decide as the whole does.
-- Each way out is one law of `number` or `more`; the value stays below the power of ten that the digits read allow.
use mathlib.Core.Path.{◌≡◌, refl, sym, ◌∙◌}
use mathlib.Core.Logic.{⊎_elim}
use mathlib.Core.Bool.{true, false}
use mathlib.Core.List.{List}
use Prim.Native.Nat.{ℕ, suc, ◌+◌, ◌-◌, ◌≤◌, ◌<◌, ◌*◌, ◌^◌}
use native.Mathlib.Nat.{pow-le-pow_right}
use native.Mathlib.Numerals.{add-one}
use native.Mathlib.Omega.{arith}
use borrow.Author.Tests.{eq-eqb, ne_eqb}
use lib.Dec.{eqb, lit<}
use lib.ListN.{length, drop, get_or, drop_of_length-le}
use lib.Seq.{drop-cons}
use Rattle.laws.specs.Base.{if}
use Rattle.laws.proofs.Tests.{either}
use Rattle.text.specs.Number.{none, more, number, is_digit, digit_of}
use Rattle.text.proofs.Reading.{digit_is, goes_on}
use Rattle.text.proofs.read_number.Goals as goal
use Rattle.text.proofs.read_number.Goals.{then-first-eq48, else-first-eq48}

over : (s : List ℕ) (at k : ℕ) → length s ≤ at → none ≡ number k (drop at s)
unfolding number
over s at k past = rw (drop_of_length-le s past)

module _ (s : List ℕ) (i k b : ℕ) (inside : i < length s) (here : b ≡ get_or s i 0) where
  -- the first byte
  no_digit : (is_digit b ≡ true → ⊥) → none ≡ number k (drop i s)
  unfolding number
  no_digit other = ⊎_elim (λ (e : is_digit b ≡ true). absurd (other e)) (λ (e : is_digit b ≡ false). rw (drop-cons s i 0 inside, ← here, e)) (either (is_digit b))

  first : (v left : ℕ) → (is_digit b ≡ true) × (v ≡ digit_of b) → left ≡ if (eqb b 48) 0 (k - 1) → more left v (drop (i + 1) s) ≡ number k (drop i s)
  unfolding number
  first v left d e = let is : v ≡ b - 48 = rw d.0 at d.1 in rw (drop-cons s i 0 inside, ← here, d.0, add-one, e, is)

  -- a later byte
  onward : (v d : ℕ) → (is_digit b ≡ true) × (d ≡ digit_of b) → 0 < k → more k v (drop i s) ≡ more (k - 1) (v * 10 + d) (drop (i + 1) s)
  onward v d g some =
      let h = digit_is b g.0 in
      let is : d ≡ b - 48 = rw g.0 at g.1 in
      rw (drop-cons s i 0 inside, ← here, add-one, is) (goes_on k v b (drop (suc i) s) some h.0 h.1)

digit_below : (b d : ℕ) → (is_digit b ≡ true) × (d ≡ digit_of b) → d < 10
digit_below b d g = let h = digit_is b g.0 in let is : d ≡ b - 48 = rw g.0 at g.1 in omega arith

-- within eight digits
bounded : (v left : ℕ) → v < 10 ^ (8 - left) → v < 10 ^ 8
bounded v left h = omega (arith, pow-le-pow_right {n = 10} (lit< tt) {i = 8 - left} {j = 8} (omega arith))

fits_one : (v left : ℕ) → left < 8 → v < 10 → v < 10 ^ (8 - left)
fits_one v left less h = omega (arith, pow-le-pow_right {n = 10} (lit< tt) {i = 1} {j = 8 - left} (omega arith))

-- one digit more keeps below the next power
grows : (v d left : ℕ) → 0 < left → left < 8 → v < 10 ^ (8 - left) → d < 10 → v * 10 + d < 10 ^ (8 - (left - 1))
grows v d left some less h small =
    let e : 8 - (left - 1) ≡ suc (8 - left) = omega arith in
    rw e (omega arith)

pub returns-in_err-first : goal.returns-in_err-first
returns-in_err-first c = rw c.from_residual.ensures (record { says = over _ _ _ (c.in_err-first.ensures.lookup.3); inside = tt })

pub returns-in_err-v : goal.returns-in_err-v
returns-in_err-v c =
    let at = c.in_ok-first.ensures.lookup in
    rw c.from_residual-in_err-v.ensures (record { says = no_digit _ _ _ _ at.3.0 (at.3.1 0) c.in_err-v.ensures; inside = tt })

pub loop-i-init : goal.loop-i-init
loop-i-init c =
    let at = c.in_ok-first.ensures.lookup in
    let at_most : c.if-first-eq48.left < 8 = elim c.if-first-eq48.branch [ then-first-eq48 w ↦ omega arith | else-first-eq48 w ↦ omega arith ] in (
      at_most,
      fits_one _ _ at_most (digit_below c.in_ok-first.field-0.now _ c.in_ok-v.ensures),
      first _ _ _ _ at.3.0 (at.3.1 0) _ _ c.in_ok-v.ensures
          (elim c.if-first-eq48.branch [ then-first-eq48 w ↦ rw (eq-eqb _ _ w.if-first-eq48.true) w.left-is | else-first-eq48 w ↦ rw (ne_eqb _ _ w.if-first-eq48.false) w.left-is ]),
    )

pub overflow_mul-v : goal.overflow_mul-v
overflow_mul-v c = omega (arith, bounded _ _ c.loop-i.invariant.1)

pub overflow_add-v : goal.overflow_add-v
overflow_add-v c = omega (arith, bounded _ _ c.loop-i.invariant.1, digit_below (get_or c.args.text.now c.loop-i.i 0) _ c.in_ok-v-2.ensures)

pub loop-i-preserved : goal.loop-i-preserved
loop-i-preserved c =
    let i = c.loop-i.invariant in (
      omega arith,
      grows _ _ _ (omega arith) i.0 i.1 (digit_below (get_or c.args.text.now c.loop-i.i 0) _ c.in_ok-v-2.ensures),
      sym (onward _ _ _ _ c.loop-i-test.true refl _ _ c.in_ok-v-2.ensures (omega arith)) ∙ i.2,
    )
