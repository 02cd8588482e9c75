-- Laws of a round: each place of it is in the stretch of one controller, and that is the one which the definition finds.
-- A stretch begins where the one before it ends, so a later one begins no earlier.
use mathlib.Core.Path.{◌≡◌, refl, sym, ◌∙◌}
use mathlib.Core.Logic.{⊎_elim}
use mathlib.Core.Bool.{Bool, true}
use mathlib.Core.List.{List}
use Prim.Native.Nat.{ℕ, zero, suc, ◌+◌, ◌-◌, ◌%◌, ◌≤◌, ◌<◌}
use native.Mathlib.Nat.{mod-lt, mod-eq_of_lt, mod_self, suc-mod, le_of_suc-le-suc}
use native.Mathlib.Numerals.{add-one}
use native.Mathlib.Omega.{arith}
use borrow.Author.Tests.{eq-eqb, ne_eqb, le-leb, lt-leb}
use lib.Dec.{leb}
use Rattle.laws.specs.Base.{first_not}
use Rattle.laws.proofs.First.{first_start, first_next, first_here}
use Rattle.laws.proofs.Tests.{lt_or_ge}
use Rattle.slots.specs.Round.{stretch, begins, total, holder_after}

-- the place after place m % t, and the first of the next round
pub place_next : (m t : ℕ) → suc (m % t) < t → suc m % t ≡ suc (m % t)
place_next m t h = suc-mod m t ∙ mod-eq_of_lt h

pub place_last : (m t : ℕ) → suc (m % t) ≡ t → suc m % t ≡ 0
place_last m t h = suc-mod m t ∙ rw h (mod_self t)

-- a search goes on to place k if the test passes at each before it
reaches : (p : ℕ → Bool) (n k : ℕ) → k ≤ n → ((i : ℕ) → i < k → p i ≡ true) → first_not p n 0 ≡ first_not p (n - k) k
reaches p n zero h pass = first_start p n
reaches p n (suc k) h pass =
    rw (← add-one k) (first_next p n k h (pass k (omega arith)) (reaches p n k (omega arith) (λ i l. pass i (omega arith))))

-- place p of a round is in controller k's stretch
pub record Place (slots : List ℕ) (p k : ℕ) : Type 0 where
  pub low : k < 8
  pub from : begins slots k ≤ p
  pub to : p < begins slots (suc k)

module _ (slots : List ℕ) where
  pub begins_first : begins slots 0 ≡ 0
  unfolding begins
  begins_first = refl

  pub begins_next : (k : ℕ) → begins slots (suc k) ≡ begins slots k + stretch slots k
  unfolding begins
  begins_next k = refl

  pub begins_up : (j k : ℕ) → j ≤ k → begins slots j ≤ begins slots k
  begins_up j zero h = let e : j ≡ 0 = omega arith in rw e (omega arith)
  begins_up j (suc k) h =
      ⊎_elim
      (λ (l : j < suc k). omega (arith, begins_up j k (le_of_suc-le-suc l), begins_next k))
      (λ (l : suc k ≤ j). let e : j ≡ suc k = omega arith in rw e (omega arith))
      (lt_or_ge j (suc k))

  pub below_total : (p k : ℕ) → Place slots p k → p < total slots
  below_total p k w = omega (arith, w.to, begins_up (suc k) 8 w.low)

  first_is : (p k : ℕ) → Place slots p k → first_not (λ j. leb (begins slots (suc j)) p) 8 0 ≡ k
  first_is p k w =
      let over : ℕ → Bool = λ j. leb (begins slots (suc j)) p in
      let before : (j : ℕ) → j < k → over j ≡ true = λ j h. le-leb (begins slots (suc j)) p (omega (arith, begins_up (suc j) k h, w.from)) in
      sym (first_here over 8 k w.low (lt-leb (begins slots (suc k)) p w.to) (reaches over 8 k (omega (arith, w.low)) before))

  pub holder_is : (m k : ℕ) → Place slots (m % total slots) k → holder_after slots m ≡ k
  unfolding holder_after
  holder_is m k w =
      let some : total slots ≡ 0 → ⊥ = λ e. omega (arith, below_total (m % total slots) k w) in
      rw (ne_eqb (total slots) 0 some) (first_is (m % total slots) k w)

  pub holder_none : (m : ℕ) → total slots ≡ 0 → holder_after slots m ≡ 8
  unfolding holder_after
  holder_none m e = rw (eq-eqb (total slots) 0 e)

  -- each place before the end of n stretches is in one of them
  found : (p n : ℕ) → n ≤ 8 → p < begins slots n → (k : ℕ) × Place slots p k
  found p zero l h = absurd (omega (arith, begins_first))
  found p (suc n) l h =
      ⊎_elim
      (λ (b : p < begins slots n). found p n (omega arith) b)
      (λ (b : begins slots n ≤ p). (n, record { low = l; from = b; to = h }))
      (lt_or_ge p (begins slots n))

  pub holder_place : (m : ℕ) → 0 < total slots → Place slots (m % total slots) (holder_after slots m)
  holder_place m h =
      let w = found (m % total slots) 8 (omega arith) (mod-lt m h) in
      rw (holder_is m w.0 w.1) w.1
