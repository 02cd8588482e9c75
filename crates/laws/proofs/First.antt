-- Laws of `first_not`: a loop that stops at the first place where the test fails finds it.
-- The loop's invariant is `first_not p n 0 ≡ first_not p (n - k) k`; each law opens one place of what is left.
use mathlib.Core.Path.{◌≡◌, sym, ap, ◌∙◌}
use mathlib.Core.Bool.{Bool, true, false}
use Prim.Native.Nat.{ℕ, zero, suc, ◌+◌, ◌-◌, ◌≤◌, ◌<◌}
use native.Mathlib.Nat.{sub_self, sub-zero, zero-add, add-zero, add-suc, suc-add, le_of_suc-le-suc, not-suc-le-zero}
use native.Mathlib.Numerals.{add-one}
use native.Mathlib.Omega.{arith}
use Rattle.laws.specs.Base.{first_not}
use Rattle.laws.proofs.Bools.{if_yes, if_most}

module _ (p : ℕ → Bool) (n : ℕ) where
  pub first_start : first_not p n 0 ≡ first_not p (n - 0) 0
  first_start = rw sub-zero

  pub first_next : (k : ℕ) → k < n → p k ≡ true → first_not p n 0 ≡ first_not p (n - k) k → first_not p n 0 ≡ first_not p (n - (k + 1)) (k + 1)
  unfolding first_not
  first_next k h e i = let q : n - k ≡ suc (n - (k + 1)) = omega arith in i ∙ rw (q, e, add-one k)

  pub first_here : (k : ℕ) → k < n → p k ≡ false → first_not p n 0 ≡ first_not p (n - k) k → k ≡ first_not p n 0
  unfolding first_not
  first_here k h e i = let q : n - k ≡ suc (n - (k + 1)) = omega arith in sym (i ∙ rw (q, e))

  pub first_end : (k : ℕ) → k ≡ n → first_not p n 0 ≡ first_not p (n - k) k → n ≡ first_not p n 0
  unfolding first_not
  first_end k h i = sym (i ∙ rw (h, sub_self))

-- where none is found to fail, none fails
pub first_all : (p : ℕ → Bool) (n k : ℕ) → first_not p n k ≡ k + n → (i : ℕ) → i < n → p (k + i) ≡ true
unfolding first_not
first_all p zero k e i h = absurd (not-suc-le-zero h)
first_all p (suc n) k e zero h = rw add-zero (if_yes (p k) (first_not p n (suc k)) k (k + suc n) e (λ z. omega arith)).0
first_all p (suc n) k e (suc i) h =
    let w = if_yes (p k) (first_not p n (suc k)) k (k + suc n) e (λ z. omega arith) in
    rw (add-suc, ← suc-add) (first_all p n (suc k) (w.1 ∙ rw (add-suc, ← suc-add)) i (le_of_suc-le-suc h))

-- of the first n places
pub first_holds : (p : ℕ → Bool) (n : ℕ) → first_not p n 0 ≡ n → (i : ℕ) → i < n → p i ≡ true
first_holds p n e i h = ap p (sym (zero-add i)) ∙ first_all p n 0 (e ∙ sym (zero-add n)) i h

-- and the other way
pub first_none : (p : ℕ → Bool) (n k : ℕ) → ((i : ℕ) → i < n → p (k + i) ≡ true) → first_not p n k ≡ k + n
unfolding first_not
first_none p zero k w = sym (add-zero k)
first_none p (suc n) k w =
    let here : p k ≡ true = rw add-zero at (w 0 (omega arith)) in
    let more : suc k + n ≡ k + suc n = omega arith in
    let later : (i : ℕ) → i < n → p (suc k + i) ≡ true = λ i h. let e : suc k + i ≡ k + suc i = omega arith in rw e (w (suc i) (omega arith)) in
    rw here (first_none p n (suc k) later ∙ more)

-- it lies among the places, or just past them
pub first_most : (p : ℕ → Bool) (n k : ℕ) → first_not p n k ≤ k + n
unfolding first_not
first_most p zero k = omega arith
first_most p (suc n) k = if_most (p k) (first_not p n (suc k)) k (k + suc n) (omega (arith, first_most p n (suc k))) (omega arith)
