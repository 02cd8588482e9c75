-- Laws of `decimal`: what it is below ten and from ten up, induction along these two, and how many digits a number has.
-- The bound on its steps is shown not to matter once; every other law goes by the induction.
use mathlib.Core.Path.{◌≡◌, refl, sym, ap, ◌∙◌}
use mathlib.Core.Logic.{⊎_elim}
use mathlib.Core.List.{List, [], ◌∷◌, ◌++◌}
use Prim.Native.Nat.{ℕ, zero, suc, ◌+◌, ◌*◌, ◌/◌, ◌%◌, ◌^◌, ◌≤◌, ◌<◌}
use native.Mathlib.Nat.{not-suc-le-zero, pow-le-pow_right}
use native.Mathlib.Numerals.{add-one}
use native.Mathlib.Omega.{arith}
use borrow.Author.Tests.{lt-ltb, le-ltb}
use lib.Dec.{lit<}
use lib.ListN.{length, length-append}
use Rattle.laws.proofs.Tests.{lt_or_ge}
use Rattle.text.specs.Decimal.{decimal, decimal_of}

of_small : (k n : ℕ) → n < 10 → decimal_of k n ≡ (48 + n) ∷ []
unfolding decimal_of
of_small zero n h = refl
of_small (suc k) n h = rw (lt-ltb n 10 h)

of_large : (k n : ℕ) → 10 ≤ n → decimal_of (suc k) n ≡ decimal_of k (n / 10) ++ ((48 + n % 10) ∷ [])
unfolding decimal_of
of_large k n h = rw (le-ltb n 10 h)

-- the steps allowed do not matter, where they are enough
enough : (j k n : ℕ) → n ≤ j → n ≤ k → decimal_of j n ≡ decimal_of k n
enough zero k n hj hk = of_small zero n (omega arith) ∙ sym (of_small k n (omega arith))
enough (suc j) zero n hj hk = of_small (suc j) n (omega arith) ∙ sym (of_small zero n (omega arith))
enough (suc j) (suc k) n hj hk =
    ⊎_elim
    (λ (h : n < 10). of_small (suc j) n h ∙ sym (of_small (suc k) n h))
    (λ (h : 10 ≤ n).
    of_large j n h
    ∙ ap (λ (l : List ℕ). l ++ ((48 + n % 10) ∷ [])) (enough j k (n / 10) (omega arith) (omega arith))
    ∙ sym (of_large k n h))
    (lt_or_ge n 10)

pub decimal_small : (n : ℕ) → n < 10 → decimal n ≡ (48 + n) ∷ []
unfolding decimal
decimal_small n h = of_small n n h

pub decimal_large : (n : ℕ) → 10 ≤ n → decimal n ≡ decimal (n / 10) ++ ((48 + n % 10) ∷ [])
unfolding decimal
decimal_large zero h = absurd (not-suc-le-zero h)
decimal_large (suc m) h =
    of_large m (suc m) h
    ∙ ap (λ (l : List ℕ). l ++ ((48 + suc m % 10) ∷ [])) (enough m (suc m / 10) (suc m / 10) (omega arith) (omega arith))

module _ (P : ℕ → Type 0) (small : (n : ℕ) → n < 10 → P n) (large : (n : ℕ) → 10 ≤ n → P (n / 10) → P n) where
  within : (k n : ℕ) → n ≤ k → P n
  within zero n h = small n (omega arith)
  within (suc k) n h =
      ⊎_elim (small n) (λ (b : 10 ≤ n). large n b (within k (n / 10) (omega arith))) (lt_or_ge n 10)

  pub decimal_ind : (n : ℕ) → P n
  decimal_ind n = within n n (omega arith)

one_more : (n k : ℕ) → 10 ≤ n → ((j : ℕ) → 0 < j → n / 10 < 10 ^ j → length (decimal (n / 10)) ≤ j) → n < 10 ^ k → length (decimal (n / 10)) + 1 ≤ k
one_more n zero h ih lt = omega arith
one_more n (suc zero) h ih lt = omega arith
one_more n (suc (suc j)) h ih lt = omega (arith, ih (suc j) (omega arith) (omega arith))

-- a number below 10 ^ k has at most k digits
pub digits_within : (n k : ℕ) → 0 < k → n < 10 ^ k → length (decimal n) ≤ k
digits_within =
    decimal_ind (λ n. (k : ℕ) → 0 < k → n < 10 ^ k → length (decimal n) ≤ k)
    (λ n h k pos lt. rw (decimal_small n h) pos)
    (λ n h ih k pos lt. rw (decimal_large n h, length-append) (one_more n k h ih lt))

pub digits_most : (n : ℕ) → n < 2 ^ 64 → length (decimal n) ≤ 20
digits_most n h = digits_within n 20 (lit< tt) (omega arith)

pub digits_some : (n : ℕ) → 0 < length (decimal n)
digits_some =
    decimal_ind (λ n. 0 < length (decimal n))
    (λ n h. rw (decimal_small n h) (omega arith))
    (λ n h ih. rw (decimal_large n h, length-append) (omega arith))

pub one_digit : (n : ℕ) → n < 10 → length (decimal n) ≡ 1
one_digit n h = rw (decimal_small n h)

pub digit_more_lem : (n : ℕ) → 10 ≤ n → length (decimal n) ≡ length (decimal (n / 10)) + 1
digit_more_lem n h = rw (decimal_large n h, length-append)

one_power : (n k : ℕ) → n / 10 < 10 ^ k → n < 10 ^ (k + 1)
one_power n k h = rw add-one (omega arith)

below : (n : ℕ) → n < 10 ^ length (decimal n)
below =
    decimal_ind (λ n. n < 10 ^ length (decimal n))
    (λ n h. rw (decimal_small n h) h)
    (λ n h ih. rw (decimal_large n h, length-append) (one_power n (length (decimal (n / 10))) ih))

-- a number between two powers of ten
pub digits_between : (n k : ℕ) → 10 ^ k ≤ n → n < 10 * 10 ^ k → length (decimal n) ≡ k + 1
digits_between n k from to =
    let most : length (decimal n) ≤ suc k = digits_within n (suc k) (omega arith) (omega arith) in
    ⊎_elim
    (λ (less : length (decimal n) < k + 1). absurd (omega (arith, below n, pow-le-pow_right {n = 10} (lit< tt) {i = length (decimal n)} {j = k} (omega arith))))
    (λ (all : k + 1 ≤ length (decimal n)). omega arith)
    (lt_or_ge (length (decimal n)) (k + 1))

-- the last k digits, as a loop that divides by ten lays them
abbrev pub last_digits : ℕ → ℕ → List ℕ
last_digits zero n = []
last_digits (suc k) n = last_digits k (n / 10) ++ ((48 + n % 10) ∷ [])

pub length_last : (k n : ℕ) → length (last_digits k n) ≡ k
length_last zero n = refl
length_last (suc k) n = rw length-append (omega (arith, length_last k (n / 10)))

pub all_digits : (n : ℕ) → last_digits (length (decimal n)) n ≡ decimal n
all_digits =
    decimal_ind (λ n. last_digits (length (decimal n)) n ≡ decimal n)
    (λ n h. let same : n % 10 ≡ n = omega arith in rw (decimal_small n h, same))
    (λ n h ih. rw (decimal_large n h, length-append, add-one, ih))
