-- The first rule of a list that fails a test: where there is none, how far its number goes, and what it says of the rules before it.
-- By induction on the list; the test of the first rule decides.
use mathlib.Core.Path.{◌≡◌, refl}
use mathlib.Core.Logic.{⊎_elim}
use mathlib.Core.Bool.{Bool, true, false}
use mathlib.Core.List.{List, [], ◌∷◌}
use Prim.Native.Nat.{ℕ, zero, suc, ◌+◌, ◌≤◌, ◌<◌}
use native.Mathlib.Omega.{arith}
use borrow.Author.Tests.{ne_eqb}
use lib.Dec.{eqb}
use lib.ListN.{length, get_or}
use Rattle.laws.specs.Base.{all_b}
use Rattle.laws.proofs.Tests.{either}
use Rattle.settings.specs.declared.names.Rule.{Rule}
use Rattle.throttle.specs.Rules.{refuser}

-- two tests that agree on the list name the same rule
module _ (p q : Rule → Bool) where
  abbrev pub Agree : List Rule → Type 0
  Agree [] = Unit {0}
  Agree (r ∷ l) = (p r ≡ q r) × Agree l

  pub refuser_same : (n : ℕ) (l : List Rule) → Agree l → refuser p n l ≡ refuser q n l
  unfolding refuser
  refuser_same n [] a = refl
  refuser_same n (r ∷ l) a = rw (a.0, refuser_same (suc n) l a.1)

module _ (p : Rule → Bool) where
  -- 0 says that all pass
  pub refuser_none : (n : ℕ) (l : List Rule) → 0 < n → eqb (refuser p n l) 0 ≡ all_b p l
  unfolding refuser all_b
  refuser_none n [] some = refl
  refuser_none n (r ∷ l) some =
      ⊎_elim
      (λ (e : p r ≡ true). rw e (refuser_none (suc n) l (omega arith)))
      (λ (e : p r ≡ false). rw (e, ne_eqb n 0 (omega arith)))
      (either (p r))

  -- no number is above the list's
  pub refuser_most : (n : ℕ) (l : List Rule) → 0 < n → refuser p n l < n + length l
  unfolding refuser
  refuser_most n [] some = omega arith
  refuser_most n (r ∷ l) some =
      ⊎_elim
      (λ (e : p r ≡ true). rw e (omega (arith, refuser_most (suc n) l (omega arith))))
      (λ (e : p r ≡ false). rw e (omega arith))
      (either (p r))

  -- nor below it
  refuser_least : (n : ℕ) (l : List Rule) → 0 < refuser p n l → n ≤ refuser p n l
  unfolding refuser
  refuser_least n [] some = omega arith
  refuser_least n (r ∷ l) some =
      ⊎_elim
      (λ (e : p r ≡ true). rw e (omega (arith, refuser_least (suc n) l (rw e at some))))
      (λ (e : p r ≡ false). rw e (omega arith))
      (either (p r))

  -- the rules before it pass
  pub refuser_before : (n : ℕ) (l : List Rule) (d : Rule) (j : ℕ) → n + j < refuser p n l → p (get_or l j d) ≡ true
  unfolding refuser
  refuser_before n [] d j less = absurd (omega arith)
  refuser_before n (r ∷ l) d zero less =
      ⊎_elim (λ (e : p r ≡ true). e) (λ (e : p r ≡ false). absurd (omega (arith, (rw e at less)))) (either (p r))
  refuser_before n (r ∷ l) d (suc j) less =
      ⊎_elim
      (λ (e : p r ≡ true). refuser_before (suc n) l d j (omega (arith, (rw e at less))))
      (λ (e : p r ≡ false). absurd (omega (arith, (rw e at less))))
      (either (p r))

  -- and it fails
  pub refuser_fails : (n : ℕ) (l : List Rule) (d : Rule) (j : ℕ) → 0 < n → refuser p n l ≡ n + j → p (get_or l j d) ≡ false
  unfolding refuser
  refuser_fails n [] d j some is = absurd (omega arith)
  refuser_fails n (r ∷ l) d zero some is =
      ⊎_elim
      (λ (e : p r ≡ true).
      let later : refuser p (suc n) l ≡ n = omega (arith, (rw e at is)) in
      absurd (omega (arith, later, refuser_least (suc n) l (omega (arith, later)))))
      (λ (e : p r ≡ false). e)
      (either (p r))
  refuser_fails n (r ∷ l) d (suc j) some is =
      ⊎_elim
      (λ (e : p r ≡ true). refuser_fails (suc n) l d j (omega arith) (omega (arith, (rw e at is))))
      (λ (e : p r ≡ false). absurd (omega (arith, (rw e at is))))
      (either (p r))
