-- A loop that fills or changes a list place by place makes what `map_i` makes.
-- The loop's invariant is `cur ≡ over n new old`: the first n elements are new already, the others old still.
use mathlib.Core.Path.{◌≡◌, refl, ap, sym, ◌∙◌}
use mathlib.Core.List.{List, [], ◌∷◌, ◌++◌, append-nil}
use Prim.Native.Nat.{ℕ, zero, suc, ◌+◌, ◌≤◌, ◌<◌}
use native.Mathlib.Nat.{add-zero, add-suc, suc-add, zero-add, le_of_suc-le-suc, not-suc-le-zero}
use native.Mathlib.Numerals.{add-one}
use native.Mathlib.Omega.{arith}
use lib.ListN.{length, get_or, take, drop, set, length-take, get_or-eq_default, drop_of_length-le}
use lib.Seq.{take_all, set-get_or}
use Rattle.laws.specs.Base.{map_i, tabulate}

module _ {A : Type 0} where
  -- a list in which the first n are new already
  unfoldable pub over : ℕ → List A → List A → List A
  over n new old = take n new ++ drop n old

  pub over_get : (n : ℕ) (new old : List A) (d : A) → n ≤ length new → get_or (over n new old) n d ≡ get_or old n d
  unfolding over
  over_get zero new old d h = refl
  over_get (suc n) [] old d h = absurd (not-suc-le-zero h)
  over_get (suc n) (x ∷ new) [] d h = rw append-nil (get_or-eq_default (take n new) d (rw length-take (omega arith)))
  over_get (suc n) (x ∷ new) (y ∷ old) d h = over_get n new old d (le_of_suc-le-suc h)

  pub over_set : (n : ℕ) (new old : List A) (d : A) → n < length new → n < length old → set (over n new old) n (get_or new n d) ≡ over (n + 1) new old
  unfolding over
  over_set n new old d p q = rw add-one (go n new old p q)
    where
      go : (n : ℕ) (new old : List A) → n < length new → n < length old → set (over n new old) n (get_or new n d) ≡ over (suc n) new old
      go n [] old p q = absurd (not-suc-le-zero p)
      go n (x ∷ new) [] p q = absurd (not-suc-le-zero q)
      go zero (x ∷ new) (y ∷ old) p q = refl
      go (suc n) (x ∷ new) (y ∷ old) p q = ap (λ (r : List A). x ∷ r) (go n new old (le_of_suc-le-suc p) (le_of_suc-le-suc q))

  pub over_all : (n : ℕ) (new old : List A) → length new ≡ n → over n new old ≡ new ++ drop n old
  unfolding over
  over_all n new old h = rw (take_all n new (omega arith))

module _ {A B : Type 0} (f : ℕ → A → B) where
  pub length-map_i : (i : ℕ) (l : List A) → length (map_i f i l) ≡ length l
  unfolding map_i
  length-map_i i [] = refl
  length-map_i i (a ∷ l) = ap suc (length-map_i (suc i) l)

  -- what stands at a place depends on the place and on the element there alone
  pub get_or-map_i : (i n : ℕ) (l : List A) (d : A) (e : B) → n < length l → get_or (map_i f i l) n e ≡ f (i + n) (get_or l n d)
  unfolding map_i
  get_or-map_i i n [] d e h = absurd (not-suc-le-zero h)
  get_or-map_i i zero (a ∷ l) d e h = rw add-zero
  get_or-map_i i (suc n) (a ∷ l) d e h = rw (add-suc, ← suc-add) (get_or-map_i (suc i) n l d e (le_of_suc-le-suc h))

  -- a turn of a loop that fills a list in order; after the last turn; where the old list is as long
  pub over_turn : (l : List A) (n : ℕ) (d : A) (cur old : List B) (r : B) → n < length l → n < length old
      → cur ≡ over n (map_i f 0 l) old → r ≡ f n (get_or l n d) → set cur n r ≡ over (n + 1) (map_i f 0 l) old
  over_turn l n d cur old r p q e h =
      let g : r ≡ get_or (map_i f 0 l) n r = h ∙ sym (get_or-map_i 0 n l d r p ∙ rw zero-add) in
      ap (λ (x : B). set cur n x) g ∙ rw e (over_set n (map_i f 0 l) old r (rw length-map_i p) q)

  pub over_done : (l : List A) (cur old : List B) (n : ℕ) → length l ≡ n → cur ≡ over n (map_i f 0 l) old → cur ≡ map_i f 0 l ++ drop n old
  over_done l cur old n h e = e ∙ over_all n (map_i f 0 l) old (length-map_i 0 l ∙ h)

  pub over_whole : (l : List A) (cur old : List B) (n : ℕ) → length l ≡ n → length old ≡ n → cur ≡ over n (map_i f 0 l) old → cur ≡ map_i f 0 l
  over_whole l cur old n h k e = let z : length old ≤ n = omega arith in over_done l cur old n h e ∙ rw (drop_of_length-le old z, append-nil)

  -- places at which the old list has what the new one would have may be passed over
  over_step : (l : List A) (n : ℕ) (d : A) (old : List B) (e : B) → n < length l → n < length old → f n (get_or l n d) ≡ get_or old n e
      → over n (map_i f 0 l) old ≡ over (n + 1) (map_i f 0 l) old
  over_step l n d old e p q same =
      let cur = over n (map_i f 0 l) old in
      let here : get_or cur n e ≡ f n (get_or l n d) = over_get n (map_i f 0 l) old e (rw length-map_i (omega arith)) ∙ sym same in
      sym (set-get_or cur n e) ∙ over_turn l n d cur old (get_or cur n e) p q refl here

  pub over_skip : (l : List A) (d : A) (old : List B) (e : B) (n m : ℕ) → n + m ≤ length l → n + m ≤ length old
      → ((j : ℕ) → n ≤ j → j < n + m → f j (get_or l j d) ≡ get_or old j e) → over n (map_i f 0 l) old ≡ over (n + m) (map_i f 0 l) old
  over_skip l d old e n zero p q same = rw add-zero
  over_skip l d old e n (suc m) p q same =
      let next : n + m + 1 ≡ n + suc m = omega arith in
      over_skip l d old e n m (omega arith) (omega arith) (λ j a b. same j a (omega arith))
      ∙ rw next at (over_step l (n + m) d old e (omega arith) (omega arith) (same (n + m) (omega arith) (omega arith)))

-- the same where the list is changed in place
module _ {A : Type 0} (f : ℕ → A → A) (l : List A) where
  pub over_read : (n : ℕ) (d : A) (cur : List A) → n < length l → cur ≡ over n (map_i f 0 l) l → get_or cur n d ≡ get_or l n d
  over_read n d cur p e = rw e (over_get n (map_i f 0 l) l d (rw length-map_i (omega arith)))

-- a loop that fills a list with f of each place
module _ {A : Type 0} (f : ℕ → A) where
  pub length_tabulate : (i n : ℕ) → length (tabulate f i n) ≡ n
  unfolding tabulate
  length_tabulate i zero = refl
  length_tabulate i (suc n) = ap suc (length_tabulate (suc i) n)

  pub get_d_tabulate : (i m n : ℕ) (d : A) → n < m → get_or (tabulate f i m) n d ≡ f (i + n)
  unfolding tabulate
  get_d_tabulate i zero n d h = absurd (not-suc-le-zero h)
  get_d_tabulate i (suc m) zero d h = rw add-zero
  get_d_tabulate i (suc m) (suc n) d h = rw (add-suc, ← suc-add) (get_d_tabulate (suc i) m n d (le_of_suc-le-suc h))

  pub fill_turn : (m n : ℕ) (cur old : List A) (r : A) → n < m → n < length old → cur ≡ over n (tabulate f 0 m) old → r ≡ f n
      → set cur n r ≡ over (n + 1) (tabulate f 0 m) old
  fill_turn m n cur old r p q e h =
      let g : r ≡ get_or (tabulate f 0 m) n r = h ∙ sym (get_d_tabulate 0 m n r p ∙ rw zero-add) in
      ap (λ (x : A). set cur n x) g ∙ rw e (over_set n (tabulate f 0 m) old r (rw length_tabulate p) q)

  pub fill_done : (m : ℕ) (cur old : List A) → length old ≡ m → cur ≡ over m (tabulate f 0 m) old → cur ≡ tabulate f 0 m
  fill_done m cur old k e =
      let z : length old ≤ m = omega arith in
      e ∙ over_all m (tabulate f 0 m) old (length_tabulate 0 m) ∙ rw (drop_of_length-le old z, append-nil)
