-- A map by what it gives at each place, and where one place is told apart.
-- Lists of one length that agree at each place are the same.
use mathlib.Core.Path.{◌≡◌, refl, ap, sym, ◌∙◌}
use mathlib.Core.Logic.{⊎_elim}
use mathlib.Core.List.{List, [], ◌∷◌}
use Prim.Native.Nat.{ℕ, zero, suc, ◌<◌}
use native.Mathlib.Nat.{zero-add}
use lib.ListN.{length, get_or, set, length-set}
use lib.Seq.{ext_get_or, get_or-set_same, get_or-set_other}
use Rattle.laws.specs.Base.{map_i}
use Rattle.laws.proofs.Tests.{same_or_not}
use Rattle.laws.proofs.Over.{length-map_i, get_or-map_i}

module _ {A B : Type 0} (f : ℕ → A → B) (l : List A) (d : A) (e : B) where
  pub map_is : (m : List B) → length m ≡ length l → ((k : ℕ) → k < length l → f k (get_or l k d) ≡ get_or m k e) → map_i f 0 l ≡ m
  map_is m long each =
      ext_get_or e (map_i f 0 l) m (length-map_i f 0 l ∙ sym long)
      (λ k h. let p : k < length l = rw (← length-map_i f 0 l) h in get_or-map_i f 0 k l d e p ∙ rw zero-add (each k p))

  pub map_but : (m : List B) → length m ≡ length l → (h : ℕ) (r : B) → h < length l → f h (get_or l h d) ≡ r
      → ((k : ℕ) → k < length l → (k ≡ h → ⊥) → f k (get_or l k d) ≡ get_or m k e) → map_i f 0 l ≡ set m h r
  map_but m long h r p here others =
      map_is (set m h r) (length-set m h r ∙ long)
      (λ k q.
      ⊎_elim
      (λ (z : k ≡ h). rw z (here ∙ sym (get_or-set_same m h r e (rw long p))))
      (λ (n : k ≡ h → ⊥). others k q n ∙ sym (get_or-set_other m h k r e n))
      (same_or_not k h))

-- a place that is set to what the map does not tell apart
pub map_same : {A B : Type 0} (f : A → B) (i : ℕ) (l : List A) (n : ℕ) (a d : A) → f a ≡ f (get_or l n d) → map_i (λ k. f) i (set l n a) ≡ map_i (λ k. f) i l
unfolding map_i
map_same f i [] n a d e = refl
map_same {B = B} f i (x ∷ l) zero a d e = ap (λ (y : B). y ∷ map_i (λ k. f) (suc i) l) e
map_same {B = B} f i (x ∷ l) (suc n) a d e = ap (λ (r : List B). f x ∷ r) (map_same f (suc i) l n a d e)
