-- What the table of busy numbers says: a number without a mark is no controller's at_bc0 and none's at_gap.
-- A mark stays, whoever is gone over later, so a place without one was passed by every controller; equal numbers have one place.
use mathlib.Core.Path.{◌≡◌, refl, ap}
use mathlib.Core.Logic.{⊎_elim}
use mathlib.Core.Bool.{true}
use mathlib.Core.List.{List}
use Prim.Native.Nat.{ℕ, zero, suc, ◌<◌}
use native.Mathlib.Nat.{not-suc-le-zero}
use native.Mathlib.Omega.{arith}
use borrow.Author.Tests.{eqb-true}
use lib.ListN.{length, get_or, set, length-set}
use Rattle.std.proofs.lemmas.Grind.{elements}
use Rattle.laws.proofs.Tests.{same_or_not}
use Rattle.settings.specs.declared.Settings.{Settings}
use Rattle.settings.specs.Names.{schedule_of}
use Rattle.kit.specs.Support.Laid.{place_of, busy_for, busy_of, plain_in}

unmarked : (l : List ℕ) (p q : ℕ) → p < length l → get_or (set l q 1) p 0 ≡ 0 → (p ≡ q → ⊥) × (get_or l p 0 ≡ 0)
unmarked l p q fits e = (grind (arith, elements), grind (arith, elements))

module _ (s : Settings) where
  busy_long : (k : ℕ) → length (busy_for s k) ≡ 4096
  unfolding busy_for
  busy_long zero = refl
  busy_long (suc k) = simp length-set (busy_long k)

  -- of the first k controllers
  passed_by : (k p : ℕ) → p < 4096 → get_or (busy_for s k) p 0 ≡ 0
      → (j : ℕ) → j < k → (p ≡ place_of (schedule_of s j).bc0 → ⊥) × (p ≡ place_of (schedule_of s j).gap → ⊥)
  unfolding busy_for
  passed_by zero p low e j h = absurd (not-suc-le-zero h)
  passed_by (suc k) p low e j h =
      let before = set (busy_for s k) (place_of (schedule_of s k).bc0) 1 in
      let gap = unmarked before p (place_of (schedule_of s k).gap) (simp length-set (rw (busy_long k) low)) e in
      let bc0 = unmarked (busy_for s k) p (place_of (schedule_of s k).bc0) (rw (busy_long k) low) gap.1 in
      ⊎_elim
      (λ (last : j ≡ k). rw last (bc0.0, gap.0))
      (λ (other : j ≡ k → ⊥). passed_by k p low bc0.1 j (omega arith))
      (same_or_not j k)

  pub plain_apart : (number : ℕ) → plain_in (busy_of s) number ≡ true
      → (k : ℕ) → k < 8 → (number ≡ (schedule_of s k).bc0 → ⊥) × (number ≡ (schedule_of s k).gap → ⊥)
  plain_apart number e k h =
      let w = passed_by 8 (place_of number) (omega arith) (eqb-true _ _ e) k h in
      ((λ same. w.0 (ap place_of same)), (λ same. w.1 (ap place_of same)))
