-- Numbers marked with a stamp from the last to the first: one that has the stamp already stands among those after it.
-- The table says of each number whether it is among those that were marked; one more number is one more place of the table.
use mathlib.Core.Path.{◌≡◌, refl, sym, ◌∙◌}
use mathlib.Core.Logic.{⊎_elim}
use mathlib.Core.Bool.{Bool, true, false, not, false≢true}
use mathlib.Core.List.{List, [], ◌∷◌}
use Prim.Native.Nat.{ℕ, zero, suc, ◌+◌, ◌<◌}
use native.Mathlib.Omega.{arith}
use borrow.Author.Tests.{eq-eqb, ne_eqb, not-false}
use lib.Dec.{eqb}
use lib.ListN.{length, get_or, set, drop, length-set}
use lib.Seq.{get_or-set_same, get_or-set_other}
use Rattle.laws.specs.Base.{all_b}
use Rattle.laws.proofs.Bools.{both}
use Rattle.laws.proofs.Tests.{either, same_or_not}
use Rattle.settings.specs.Relations.{absent, distinct}
use Rattle.settings.specs.Support.Stamps.{Lower}

-- those that have the stamp are the ones in the list
pub record Stamped (stamp : ℕ) (seen l : List ℕ) : Type 0 where
  pub lower : Lower (stamp + 1) seen
  pub marks : (x : ℕ) → x < length seen → eqb (get_or seen x 0) stamp ≡ not (absent x l)
  pub apart : distinct l ≡ true

pub stamped_none : (stamp : ℕ) (seen : List ℕ) → Lower stamp seen → Stamped stamp seen []
unfolding all_b
stamped_none stamp seen low =
    record {
      lower = λ x. let h = low x in omega arith;
      marks = λ x h. let l = low x in ne_eqb _ _ (λ (e : get_or seen x 0 ≡ stamp). omega arith);
      apart = refl;
    }

module _ (stamp : ℕ) (seen l : List ℕ) (x : ℕ) (fits : x < length seen) (s : Stamped stamp seen l) where
  -- a number with the stamp stands in the list
  pub stamp_twice : get_or seen x 0 ≡ stamp → distinct (x ∷ l) ≡ false
  stamp_twice e = let f : absent x l ≡ false = not_flip (absent x l) (sym (s.marks x fits) ∙ eq-eqb _ _ e) in rw f
    where
      not_flip : (b : Bool) → not b ≡ true → b ≡ false
      not_flip true e = absurd (false≢true e)
      not_flip false e = refl

  lower_set : (y : ℕ) → get_or (set seen x stamp) y 0 < stamp + 1
  lower_set y =
      ⊎_elim
      (λ (e : y ≡ x). rw (e, get_or-set_same seen x stamp 0 fits) (omega arith))
      (λ (n : y ≡ x → ⊥). rw (get_or-set_other seen x y stamp 0 n) (s.lower y))
      (same_or_not y x)

  marks_set : (y : ℕ) → y < length seen → eqb (get_or (set seen x stamp) y 0) stamp ≡ not (absent y (x ∷ l))
  unfolding all_b
  marks_set y h =
      ⊎_elim
      (λ (e : y ≡ x). rw (e, get_or-set_same seen x stamp 0 fits, eq-eqb stamp stamp refl, eq-eqb x x refl))
      (λ (n : y ≡ x → ⊥). rw (get_or-set_other seen x y stamp 0 n, ne_eqb y x n) (s.marks y h))
      (same_or_not y x)

  -- one without it is marked
  pub stamp_next : (get_or seen x 0 ≡ stamp → ⊥) → Stamped stamp (set seen x stamp) (x ∷ l)
  stamp_next n =
      let f : absent x l ≡ true = not-false (absent x l) (sym (s.marks x fits) ∙ ne_eqb _ _ n) in
      record { lower = lower_set; marks = λ y h. marks_set y (simp length-set at h); apart = rw (f, s.apart) }

-- numbers that are distinct to the end are so from any place on
later_distinct : (l : List ℕ) (i : ℕ) → distinct l ≡ true → distinct (drop i l) ≡ true
later_distinct l zero e = e
later_distinct [] (suc i) e = refl
later_distinct (x ∷ l) (suc i) e = later_distinct l i (both (absent x l) (distinct l) e).1

pub not_distinct : (l : List ℕ) (i : ℕ) → distinct (drop i l) ≡ false → distinct l ≡ false
not_distinct l i e =
    ⊎_elim
    (λ (t : distinct l ≡ true). absurd (false≢true (sym e ∙ later_distinct l i t)))
    (λ (f : distinct l ≡ false). f)
    (either (distinct l))
