-- Laws of `highest`: it bounds each value and is bounded by what bounds them all, so neither order nor repetition of the values matters.
-- By induction on the number of places.
use mathlib.Core.Path.{◌≡◌}
use mathlib.Core.Logic.{⊎_elim}
use Prim.Native.Nat.{ℕ, zero, suc, ◌≤◌, ◌<◌}
use native.Mathlib.Nat.{le_antisymm, not-suc-le-zero}
use native.Mathlib.Omega.{arith}
use Rattle.laws.specs.Base.{highest}
use Rattle.laws.proofs.Tests.{lt_or_ge}

pub highest_most : (f : ℕ → ℕ) (b n : ℕ) → ((i : ℕ) → i < n → f i ≤ b) → highest f n ≤ b
unfolding highest
highest_most f b zero h = omega arith
highest_most f b (suc n) h = omega (arith, highest_most f b n (λ i l. h i (omega arith)), h n (omega arith))

pub highest_holds : (f : ℕ → ℕ) (n i : ℕ) → i < n → f i ≤ highest f n
unfolding highest
highest_holds f zero i l = absurd (not-suc-le-zero l)
highest_holds f (suc n) i l =
    ⊎_elim
    (λ (h : i < n). omega (arith, highest_holds f n i h))
    (λ (h : n ≤ i). let e : i ≡ n = omega arith in rw e (omega arith))
    (lt_or_ge i n)

-- what is among the others' values is no higher than theirs
among : (f g : ℕ → ℕ) (n m : ℕ) → ((i : ℕ) → i < n → (j : ℕ) × (j < m) × (f i ≡ g j)) → highest f n ≤ highest g m
among f g n m h = highest_most f (highest g m) n (λ i l. let w = h i l in rw w.2 (highest_holds g m w.0 w.1))

pub order_free : (f g : ℕ → ℕ) (n m : ℕ) → ((i : ℕ) → i < n → (j : ℕ) × (j < m) × (f i ≡ g j)) → ((j : ℕ) → j < m → (i : ℕ) × (i < n) × (g j ≡ f i))
    → highest f n ≡ highest g m
order_free f g n m h k = le_antisymm (among f g n m h) (among g f m n k)
