-- The round trips of a number: `number` reads what `decimal` writes, and what it reads is what `decimal` writes.
-- Forward by `decimal_ind`, back by induction on the text with the digits read so far.
use mathlib.Core.Path.{◌≡◌, sym, ap, ap₂, ◌∙◌}
use mathlib.Core.Logic.{⊎_elim}
use mathlib.Core.Bool.{true, false, ◌&&◌}
use mathlib.Core.List.{List, [], ◌∷◌, ◌++◌, append_assoc}
use Prim.Native.Nat.{ℕ, zero, suc, ◌+◌, ◌-◌, ◌/◌, ◌%◌, ◌*◌, ◌^◌, ◌≤◌, ◌<◌}
use native.Mathlib.Omega.{arith}
use borrow.Author.Tests.{eq-eqb, ne_eqb, le-leb, lt-ltb, leb-true, ltb-true}
use lib.Dec.{leb, ltb}
use lib.ListN.{length, length-append}
use Rattle.laws.proofs.Tests.{same_or_not, either}
use Rattle.laws.proofs.Bools.{both}
use Rattle.text.proofs.Decimal.{decimal_small, decimal_large, decimal_ind, digits_within}
use Rattle.text.specs.Decimal.{decimal}
use Rattle.text.specs.Number.{value, more, number, is_digit}

pub digit : (b : ℕ) → 48 ≤ b → b ≤ 57 → is_digit b ≡ true
digit b lo hi = rw (le-leb 48 b lo, le-leb b 57 hi)

pub digit_is : (b : ℕ) → is_digit b ≡ true → (48 ≤ b) × (b ≤ 57)
digit_is b e = let h = both (leb 48 b) (leb b 57) e in (leb-true 48 b h.0, leb-true b 57 h.1)

pub goes_on : (k v b : ℕ) (t : List ℕ) → 0 < k → 48 ≤ b → b ≤ 57 → more k v (b ∷ t) ≡ more (k - 1) (v * 10 + (b - 48)) t
goes_on k v b t some lo hi =
    let not_end : b ≡ 10 → ⊥ = λ e. omega arith in
    rw (ne_eqb b 10 not_end, lt-ltb 0 k some, digit b lo hi)

pub begins : (k b : ℕ) (t : List ℕ) → 48 < b → b ≤ 57 → number k (b ∷ t) ≡ more (k - 1) (b - 48) t
unfolding number
begins k b t lo hi =
    let not_zero : b ≡ 48 → ⊥ = λ e. omega arith in
    let from : 48 ≤ b = omega arith in
    rw (digit b from hi, ne_eqb b 48 not_zero)

abbrev Reads : ℕ → Type 0
Reads n = 0 < n → (k : ℕ) → 0 < k → n < 10 ^ k → (t : List ℕ) → number k (decimal n ++ t) ≡ more (k - length (decimal n)) n t

digits_read : (n : ℕ) → Reads n
digits_read =
    decimal_ind Reads
    (λ n h pos k some lt t.
    rw (decimal_small n h)
    (begins k (48 + n) t (omega arith) (omega arith) ∙ ap (λ (v : ℕ). more (k - 1) v t) (omega arith)))
    (λ n h ih pos k some lt t.
    let room : length (decimal (n / 10)) + 1 ≤ k = rw (decimal_large n h, length-append) at (digits_within n k some lt) in
    let d : ℕ = 48 + n % 10 in
    let left : ℕ = k - length (decimal (n / 10)) in
    rw (decimal_large n h, length-append, append_assoc)
    (ih (omega arith) k some (omega arith) (d ∷ t)
    ∙ goes_on left (n / 10) d t (omega arith) (omega arith) (omega arith)
    ∙ ap₂ (λ (m v : ℕ). more m v t) (omega arith) (omega arith)))

-- what `decimal` writes is read
pub read_back : (n k : ℕ) (t : List ℕ) → 0 < k → n < 10 ^ k → number k (decimal n ++ (10 ∷ t)) ≡ value n t
unfolding number
read_back zero k t some lt = rw (decimal_small 0 (omega arith))
read_back (suc n) k t some lt = digits_read (suc n) (omega arith) k some lt (10 ∷ t)

-- one digit more
snoc : (u b : ℕ) → 0 < u → 48 ≤ b → b ≤ 57 → decimal (u * 10 + (b - 48)) ≡ decimal u ++ (b ∷ [])
snoc u b pos lo hi =
    let w : ℕ = u * 10 + (b - 48) in
    let high : w / 10 ≡ u = omega arith in
    let low : 48 + w % 10 ≡ b = omega arith in
    decimal_large w (omega arith) ∙ ap₂ (λ (q x : ℕ). decimal q ++ (x ∷ [])) high low

-- the digits u, then t: reading on from u to v, decimal v stands there
further : (k u : ℕ) (t r : List ℕ) (v : ℕ) → 0 < u → more k u t ≡ value v r → decimal u ++ t ≡ decimal v ++ (10 ∷ r)
further k u [] r v pos e = cc
further k u (b ∷ t) r v pos e =
    ⊎_elim
    (λ (same : b ≡ 10). cc)
    (λ (other : b ≡ 10 → ⊥).
    ⊎_elim
    (λ (on : (ltb 0 k && is_digit b) ≡ true).
    let h = both (ltb 0 k) (is_digit b) on in
    let some : 0 < k = ltb-true 0 k h.0 in
    let d = digit_is b h.1 in
    let w : ℕ = u * 10 + (b - 48) in
    let onward : decimal w ++ t ≡ decimal v ++ (10 ∷ r) = further (k - 1) w t r v (omega arith) (sym (goes_on k u b t some d.0 d.1) ∙ e) in
    rw (snoc u b pos d.0 d.1, append_assoc) at onward)
    (λ (off : (ltb 0 k && is_digit b) ≡ false). cc (ne_eqb b 10 other, off))
    (either (ltb 0 k && is_digit b)))
    (same_or_not b 10)

alone : (t r : List ℕ) (v : ℕ) → more 0 0 t ≡ value v r → ◌≡◌ {A = List ℕ} (48 ∷ t) (decimal v ++ (10 ∷ r))
alone [] r v e = cc
alone (b ∷ t) r v e =
    ⊎_elim
    (λ (same : b ≡ 10). cc (decimal_small 0 (omega arith)))
    (λ (other : b ≡ 10 → ⊥). cc (ne_eqb b 10 other))
    (same_or_not b 10)

-- what is read is what `decimal` writes
pub written : (k : ℕ) (t r : List ℕ) (v : ℕ) → number k t ≡ value v r → t ≡ decimal v ++ (10 ∷ r)
unfolding number
written k [] r v e = cc
written k (b ∷ t) r v e =
    ⊎_elim
    (λ (d : is_digit b ≡ true).
    let h = digit_is b d in
    ⊎_elim
    (λ (same : b ≡ 48). ap (λ (x : ℕ). x ∷ t) same ∙ alone t r v (sym (rw (d, eq-eqb b 48 same, same)) ∙ e))
    (λ (other : b ≡ 48 → ⊥).
    let onward : decimal (b - 48) ++ t ≡ decimal v ++ (10 ∷ r) = further (k - 1) (b - 48) t r v (omega arith) (sym (begins k b t (omega arith) h.1) ∙ e) in
    let back : 48 + (b - 48) ≡ b = omega arith in
    rw (decimal_small (b - 48) (omega arith), back) at onward)
    (same_or_not b 48))
    (λ (off : is_digit b ≡ false). cc off)
    (either (is_digit b))
