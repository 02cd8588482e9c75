-- The turn after m orbit ends: place m % total of the round is in its holder's stretch, and its orbits left are those to the stretch's end.
-- A hand-over searches up from the holder, and from controller 0 where nobody above it has a slot: it stops where the next stretch begins.
use mathlib.Core.Path.{◌≡◌, refl, sym, ◌∙◌}
use mathlib.Core.Logic.{⊎_elim}
use mathlib.Core.Bool.{Bool, true, false}
use mathlib.Core.List.{List}
use Prim.Native.Nat.{ℕ, zero, suc, ◌+◌, ◌-◌, ◌%◌, ◌≤◌, ◌<◌}
use native.Mathlib.Nat.{add-zero, suc-add, zero-add, zero-mod, mod_self, mod-eq_of_lt, suc-mod}
use native.Mathlib.Numerals.{add-one}
use native.Mathlib.Omega.{arith}
use borrow.Author.Tests.{eq-eqb, ne_eqb, lt-ltb, le-ltb}
use lib.ListN.{get_or}
use Rattle.laws.specs.Base.{one}
use Rattle.laws.proofs.Tests.{lt_or_ge}
use Rattle.clock.specs.declared.Turn.{Turn}
use Rattle.clock.specs.Turn.{next_from, takes_over, fallen_of, turned_of, fresh_turn}
use Rattle.slots.specs.Round.{begins, total, holder_after}
use Rattle.slots.proofs.Round.{Place, begins_first, begins_next, begins_up, holder_is, holder_none, place_next}

-- at place p of a round the holder's stretch is on, and ends when its orbits left have passed
pub record At (slots : List ℕ) (p : ℕ) (t : Turn) : Type 0 where
  pub place : Place slots p t.holder
  pub left : t.left + p ≡ begins slots (suc t.holder)

-- after m orbit ends
pub record Keeps (slots : List ℕ) (m : ℕ) (t : Turn) : Type 0 where
  pub none : total slots ≡ 0 → t.holder ≡ 8
  pub some : 0 < total slots → At slots (m % total slots) t

module _ (slots : List ℕ) where
  pub keeps_holder : (m : ℕ) (t : Turn) → Keeps slots m t → t.holder ≡ holder_after slots m
  keeps_holder m t k =
      ⊎_elim
      (λ (h : 0 < total slots). sym (holder_is slots m t.holder (k.some h).place))
      (λ (h : total slots ≤ 0). let e : total slots ≡ 0 = omega arith in k.none e ∙ sym (holder_none slots m e))
      (lt_or_ge 0 (total slots))

  -- ---- the search for the next with a slot

  -- it passes n controllers without one
  passes : (i n m : ℕ) → i + n ≤ 8 → begins slots (i + n) ≡ begins slots i → next_from slots i (n + m) ≡ next_from slots (i + n) m
  unfolding next_from
  passes i zero m h e = rw (zero-add, add-zero)
  passes i (suc n) m h e =
      let on : suc i + n ≡ i + suc n = omega arith in
      let own : i % 8 ≡ i = omega arith in
      let up = begins_up slots (suc i) (i + suc n) (omega arith) in
      let none : get_or slots i 0 ≤ 0 = omega (arith, begins_next slots i) in
      let same : begins slots (suc i + n) ≡ begins slots (suc i) = rw on (omega (arith, begins_next slots i)) in
      rw (suc-add, own, le-ltb 0 (get_or slots i 0) none) (rw on at (passes (suc i) n m (omega arith) same))

  -- it stops at one of the next n if they have one, and that one has its whole stretch before it
  stops : (i n m : ℕ) → i + n ≤ 8 → begins slots i < begins slots (i + n) → At slots (begins slots i) (takes_over slots (next_from slots i (n + m)))
  unfolding next_from takes_over
  stops i zero m h l = let none : begins slots i < begins slots i = rw add-zero at l in absurd (omega arith)
  stops i (suc n) m h l =
      let on : suc i + n ≡ i + suc n = omega arith in
      let own : i % 8 ≡ i = omega arith in
      ⊎_elim
      (λ (b : 0 < get_or slots i 0). rw (suc-add, own, lt-ltb 0 (get_or slots i 0) b) (omega (arith, begins_next slots i)))
      (λ (b : get_or slots i 0 ≤ 0).
      let same : begins slots (suc i) ≡ begins slots i = omega (arith, begins_next slots i) in
      rw (suc-add, own, le-ltb 0 (get_or slots i 0) b, ← same) (stops (suc i) n m (omega arith) (rw (on, same) l)))
      (lt_or_ge 0 (get_or slots i 0))

  -- places 8 on are controllers 0 on again
  again : (i m : ℕ) → next_from slots (8 + i) m ≡ next_from slots i m
  unfolding next_from
  again i zero = refl
  again i (suc m) =
      let same : (8 + i) % 8 ≡ i % 8 = omega arith in
      let on : suc (8 + i) ≡ 8 + suc i = omega arith in
      rw (same, on, again (suc i) m)

  -- ---- the fresh turn, and a hand-over

  nobody_found : total slots ≡ 0 → next_from slots 0 8 ≡ 8
  unfolding next_from
  nobody_found e = passes 0 8 0 (omega arith) (e ∙ sym (begins_first slots))

  pub fresh_keeps : Keeps slots 0 (fresh_turn slots)
  unfolding fresh_turn takes_over
  fresh_keeps =
      record {
        none = nobody_found;
        some = λ h. rw zero-mod (rw begins_first at (stops 0 8 0 (omega arith) (rw begins_first h)));
      }

  -- the controllers above the holder h, and then those up to it
  hands_over : (h : ℕ) → h < 8 → 0 < begins slots (suc h) → At slots (begins slots (suc h) % total slots) (takes_over slots (next_from slots (h + 1) 8))
  hands_over h low some =
      let on : suc h + (7 - h) ≡ 8 = omega arith in
      let all : 7 - h + suc h ≡ 8 = omega arith in
      ⊎_elim
      (λ (l : begins slots (suc h) < total slots).
      rw (add-one, mod-eq_of_lt l) (rw all at (stops (suc h) (7 - h) (suc h) (omega arith) (rw on l))))
      (λ (l : total slots ≤ begins slots (suc h)).
      let whole : total slots ≡ begins slots (suc h) = omega (arith, begins_up slots (suc h) 8 low) in
      let skip : next_from slots (suc h) 8 ≡ next_from slots 8 (suc h) = rw (on, all) at (passes (suc h) (7 - h) (suc h) (omega arith) (rw on whole)) in
      let lowest = stops 0 (suc h) 0 (omega arith) (rw (zero-add, begins_first) some) in
      rw (add-one, skip, again 0 (suc h), ← whole, mod_self (total slots)) (rw (add-zero, begins_first) at lowest))
      (lt_or_ge (begins slots (suc h)) (total slots))

  fallen_at : (m : ℕ) (t : Turn) → At slots (m % total slots) t → At slots (suc m % total slots) (fallen_of slots t)
  unfolding fallen_of
  fallen_at m t a =
      let w = a.place in
      ⊎_elim
      (λ (l : 1 < t.left).
      let inside : suc (m % total slots) < total slots = omega (arith, a.left, begins_up slots (suc t.holder) 8 w.low) in
      rw (lt-ltb 1 t.left l, place_next m (total slots) inside) (omega arith))
      (λ (l : t.left ≤ 1).
      let ends : suc (m % total slots) ≡ begins slots (suc t.holder) = omega arith in
      rw (le-ltb 1 t.left l, suc-mod m (total slots), ends) (hands_over t.holder w.low (omega arith)))
      (lt_or_ge 1 t.left)

  ended_keeps : (m : ℕ) (t : Turn) → Keeps slots m t → Keeps slots (suc m) (turned_of slots true t)
  unfolding turned_of
  ended_keeps m t k =
      ⊎_elim
      (λ (h : 0 < total slots).
      let a = k.some h in
      let off : t.holder ≡ 8 → ⊥ = λ e. omega (arith, a.place.low) in
      rw (ne_eqb t.holder 8 off) (record { none = λ e. absurd (omega arith); some = λ z. fallen_at m t a }))
      (λ (h : total slots ≤ 0).
      let e : total slots ≡ 0 = omega arith in
      rw (eq-eqb t.holder 8 (k.none e)) (record { none = k.none; some = λ z. absurd (omega arith) }))
      (lt_or_ge 0 (total slots))

  pub turned_keeps : (ends : Bool) (m : ℕ) (t : Turn) → Keeps slots m t → Keeps slots (m + one ends) (turned_of slots ends t)
  unfolding turned_of
  turned_keeps true m t k = rw add-one (ended_keeps m t k)
  turned_keeps false m t k = rw add-zero k
