-- Laws of `all_b` and `all_i`: what holds of all holds at each place, a map keeps it, and a loop that stops at the first failure decides it.
-- By induction on the list; the loop's laws open one element of what is left.
use mathlib.Core.Path.{◌≡◌, refl, ap}
use mathlib.Core.Bool.{Bool, true, false, ◌&&◌}
use mathlib.Core.List.{List, [], ◌∷◌}
use Prim.Native.Nat.{ℕ, zero, suc, ◌+◌, ◌≤◌, ◌<◌}
use native.Mathlib.Nat.{add-zero, add-suc, suc-add, le_of_suc-le-suc, not-suc-le-zero}
use native.Mathlib.Numerals.{add-one}
use lib.ListN.{length, get_or, set, drop, drop_of_length-le}
use lib.Seq.{drop-cons}
use Rattle.std.specs.List.{list_all}
use Rattle.laws.specs.Base.{all_b, all_i, map_i}
use Rattle.laws.proofs.Bools.{both, and_yes}

pub all_get : {A : Type 0} (p : A → Bool) (l : List A) (n : ℕ) (d : A) → all_b p l ≡ true → n < length l → p (get_or l n d) ≡ true
unfolding all_b
all_get p [] n d e h = absurd (not-suc-le-zero h)
all_get p (a ∷ l) zero d e h = (both (p a) (all_b p l) e).0
all_get p (a ∷ l) (suc n) d e h = all_get p l n d (both (p a) (all_b p l) e).1 (le_of_suc-le-suc h)

-- std has the word too, in the contract of `all`
pub list_all-all_b : {A : Type 0} (p : A → Bool) (l : List A) → list_all p l ≡ all_b p l
unfolding all_b
list_all-all_b p [] = refl
list_all-all_b p (a ∷ l) = ap (λ (b : Bool). p a && b) (list_all-all_b p l)

-- what each step keeps, the map keeps
pub all-map_i : {A B : Type 0} (p : A → Bool) (q : B → Bool) (f : ℕ → A → B) → ((i : ℕ) (a : A) → p a ≡ true → q (f i a) ≡ true)
    → (i : ℕ) (l : List A) → all_b p l ≡ true → all_b q (map_i f i l) ≡ true
unfolding all_b map_i
all-map_i p q f k i [] e = refl
all-map_i p q f k i (a ∷ l) e = let h = both (p a) (all_b p l) e in and_yes _ _ (k i a h.0) (all-map_i p q f k (suc i) l h.1)

-- a loop that stops at the first that fails: what is left decides as the whole does
module _ {A : Type 0} (p : A → Bool) (l : List A) (n : ℕ) where
  pub all_next : (d : A) → n < length l → p (get_or l n d) ≡ true → all_b p (drop n l) ≡ all_b p (drop (n + 1) l)
  unfolding all_b
  all_next d h e = rw (add-one, drop-cons l n d h, e)

  pub all_stop : (d : A) → n < length l → p (get_or l n d) ≡ false → all_b p (drop n l) ≡ false
  unfolding all_b
  all_stop d h e = rw (drop-cons l n d h, e)

  pub all_end : length l ≤ n → all_b p (drop n l) ≡ true
  unfolding all_b
  all_end h = rw (drop_of_length-le l h)

-- the same where the test knows the place
pub alli_get : {A : Type 0} (p : ℕ → A → Bool) (i : ℕ) (l : List A) (n : ℕ) (d : A) → all_i p i l ≡ true → n < length l → p (i + n) (get_or l n d) ≡ true
unfolding all_i
alli_get p i [] n d e h = absurd (not-suc-le-zero h)
alli_get p i (a ∷ l) zero d e h = rw add-zero (both (p i a) (all_i p (suc i) l) e).0
alli_get p i (a ∷ l) (suc n) d e h = rw (add-suc, ← suc-add) (alli_get p (suc i) l n d (both (p i a) (all_i p (suc i) l) e).1 (le_of_suc-le-suc h))

pub alli-map_i : {A B : Type 0} (p : ℕ → A → Bool) (q : ℕ → B → Bool) (f : ℕ → A → B) → ((i : ℕ) (a : A) → p i a ≡ true → q i (f i a) ≡ true)
    → (i : ℕ) (l : List A) → all_i p i l ≡ true → all_i q i (map_i f i l) ≡ true
unfolding all_i map_i
alli-map_i p q f k i [] e = refl
alli-map_i p q f k i (a ∷ l) e = let h = both (p i a) (all_i p (suc i) l) e in and_yes _ _ (k i a h.0) (alli-map_i p q f k (suc i) l h.1)

pub alli_set : {A : Type 0} (p : ℕ → A → Bool) (i : ℕ) (l : List A) (n : ℕ) (a : A) → all_i p i l ≡ true → p (i + n) a ≡ true → all_i p i (set l n a) ≡ true
unfolding all_i
alli_set p i [] n a e h = refl
alli_set p i (b ∷ l) zero a e h = and_yes _ _ (rw add-zero at h) (both (p i b) (all_i p (suc i) l) e).1
alli_set p i (b ∷ l) (suc n) a e h =
    let w = both (p i b) (all_i p (suc i) l) e in
    and_yes _ _ w.0 (alli_set p (suc i) l n a w.1 (rw (add-suc, ← suc-add) at h))

module _ {A : Type 0} (p : ℕ → A → Bool) (l : List A) (n : ℕ) where
  pub alli_next : (d : A) → n < length l → p n (get_or l n d) ≡ true → all_i p n (drop n l) ≡ all_i p (n + 1) (drop (n + 1) l)
  unfolding all_i
  alli_next d h e = rw (add-one, drop-cons l n d h, e)

  pub alli_stop : (d : A) → n < length l → p n (get_or l n d) ≡ false → all_i p n (drop n l) ≡ false
  unfolding all_i
  alli_stop d h e = rw (drop-cons l n d h, e)

  pub alli_end : length l ≤ n → all_i p n (drop n l) ≡ true
  unfolding all_i
  alli_end h = rw (drop_of_length-le l h)
