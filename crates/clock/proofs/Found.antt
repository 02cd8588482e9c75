-- Laws of the search for the next controller with a slot: one turn, the end, and what the answer says.
-- By cases on how many are left to look at, and on whether the one looked at has a slot.
use mathlib.Core.Path.{◌≡◌, refl}
use mathlib.Core.Logic.{◌⊎◌, inl, inr, ⊎_elim, ⊎_map}
use mathlib.Core.List.{List}
use Prim.Native.Nat.{ℕ, zero, suc, ◌+◌, ◌-◌, ◌%◌, ◌≤◌, ◌<◌}
use native.Mathlib.Nat.{add-zero, add-suc, suc-add, le_of_suc-le-suc, not-suc-le-zero}
use native.Mathlib.Numerals.{add-one}
use native.Mathlib.Omega.{arith}
use borrow.Author.Tests.{lt-ltb, le-ltb}
use lib.ListN.{get_or}
use Rattle.laws.proofs.Tests.{lt_or_ge}
use Rattle.clock.specs.Turn.{next_from}

-- a turn of the loop, and the two ways out of it
module _ (slots : List ℕ) (i : ℕ) where
  pub goes_on : (m : ℕ) → 0 < m → get_or slots (i % 8) 0 ≤ 0 → next_from slots i m ≡ next_from slots (i + 1) (m - 1)
  unfolding next_from
  goes_on zero h e = absurd (not-suc-le-zero h)
  goes_on (suc m) h e =
      let less : suc m - 1 ≡ m = omega arith in
      rw (le-ltb 0 (get_or slots (i % 8) 0) e, add-one, less)

  pub stops : (m : ℕ) → 0 < m → 0 < get_or slots (i % 8) 0 → next_from slots i m ≡ i % 8
  unfolding next_from
  stops zero h e = absurd (not-suc-le-zero h)
  stops (suc m) h e = rw (lt-ltb 0 (get_or slots (i % 8) 0) e)

  pub ends : (m : ℕ) → m ≤ 0 → next_from slots i m ≡ 8
  unfolding next_from
  ends zero h = refl
  ends (suc m) h = absurd (not-suc-le-zero h)

pub record Has (slots : List ℕ) (k : ℕ) : Type 0 where
  pub below : k < 8
  pub slot : 0 < get_or slots k 0

pub record None (slots : List ℕ) (i m k : ℕ) : Type 0 where
  pub nobody : k ≡ 8
  pub empty : (j : ℕ) → j < m → get_or slots ((i + j) % 8) 0 ≡ 0

-- none of the m after i, and not i
none_more : (slots : List ℕ) (i m k : ℕ) → get_or slots (i % 8) 0 ≤ 0 → None slots (suc i) m k → None slots i (suc m) k
none_more slots i m k e n = record { nobody = n.nobody; empty = at }
  where
    at : (j : ℕ) → j < suc m → get_or slots ((i + j) % 8) 0 ≡ 0
    at zero h = rw add-zero (omega arith)
    at (suc j) h = rw (add-suc, ← suc-add) (n.empty j (le_of_suc-le-suc h))

-- the answer has a slot, or there is none to find
pub finds : (slots : List ℕ) (i m : ℕ) → Has slots (next_from slots i m) ⊎ None slots i m (next_from slots i m)
unfolding next_from
finds slots i zero = inr (record { nobody = refl; empty = λ j h. absurd (not-suc-le-zero h) })
finds slots i (suc m) =
    ⊎_elim
    (λ (h : 0 < get_or slots (i % 8) 0). inl (rw (lt-ltb 0 (get_or slots (i % 8) 0) h) (record { below = omega arith; slot = h })))
    (λ (h : get_or slots (i % 8) 0 ≤ 0).
    rw (le-ltb 0 (get_or slots (i % 8) 0) h) (⊎_map (λ f. f) (none_more slots i m (next_from slots (suc i) m) h) (finds slots (suc i) m)))
    (lt_or_ge 0 (get_or slots (i % 8) 0))
