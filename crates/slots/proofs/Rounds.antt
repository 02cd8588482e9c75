-- What the arithmetic comes to: each hold is 10 × slot orbits, the slot goes round in rising order, and each has its share.
-- Each is a comparison of places in a round with the ends of stretches; the share is counted over one round from its start, and then slid along.
use mathlib.Core.Path.{◌≡◌, refl, sym, ◌∙◌}
use mathlib.Core.Logic.{inl, inr, ⊎_elim, ⊎_map}
use mathlib.Core.List.{List}
use Prim.Native.Nat.{ℕ, zero, suc, ◌+◌, ◌-◌, ◌%◌, ◌≤◌, ◌<◌, min}
use native.Mathlib.Nat.{add-zero, zero-add, mod-lt, mod-eq_of_lt, mod_self, mod-add-mod, add-mod_right}
use native.Mathlib.Omega.{arith}
use borrow.Author.Tests.{eq-eqb, ne_eqb}
use lib.Dec.{eqb}
use lib.ListN.{get_or}
use Rattle.laws.specs.Base.{one, first_not}
use Rattle.laws.proofs.Tests.{lt_or_ge, same_or_not}
use Rattle.slots.specs.Round.{begins, total, stretch, holder_after}
use Rattle.slots.specs.Rounds.{Holds, Hold, Up, Over, Rises, held_in, Rounds, Sample}
use Rattle.slots.proofs.Round.{Place, begins_next, begins_up, below_total, holder_is, holder_none, holder_place, place_next, place_last}

module _ (slots : List ℕ) where
  -- whoever holds is in its stretch
  placed : (k m : ℕ) → k < 8 → holder_after slots m ≡ k → Place slots (m % total slots) k
  placed k m low e =
      ⊎_elim
      (λ (h : 0 < total slots). rw e at (holder_place slots m h))
      (λ (h : total slots ≤ 0). absurd (omega (arith, holder_none slots m (omega arith))))
      (lt_or_ge 0 (total slots))

  holds : (k : ℕ) → k < 8 → Holds slots k
  holds k low =
      let next = begins_next slots k in
      record { inside = λ m o. holder_is slots m k (omega arith); only = λ m e. let w = placed k m low e in omega arith }

  -- ---- one hold

  -- whoever takes over does so where its stretch begins
  taken : (k m : ℕ) → k < 8 → (holder_after slots m ≡ k → ⊥) → holder_after slots (suc m) ≡ k → suc m % total slots ≡ begins slots k
  taken k m low n e =
      let w = placed k (suc m) low e in
      let inside = mod-lt m {m = total slots} (omega (arith, below_total slots (suc m % total slots) k w)) in
      ⊎_elim
      (λ (h : suc (m % total slots) < total slots).
      let next = place_next m (total slots) h in
      ⊎_elim
      (λ (b : m % total slots < begins slots k). omega arith)
      (λ (b : begins slots k ≤ m % total slots). absurd (n (holder_is slots m k (omega arith))))
      (lt_or_ge (m % total slots) (begins slots k)))
      (λ (h : total slots ≤ suc (m % total slots)). omega (arith, place_last m (total slots) (omega arith)))
      (lt_or_ge (suc (m % total slots)) (total slots))

  hold : (k m : ℕ) → k < 8 → (holder_after slots m ≡ k → ⊥) → holder_after slots (suc m) ≡ k → Hold slots k m
  hold k m low n e = record { lasts = lasts; ends = ends }
    where
      place_after : (d : ℕ) → (suc m + d) % total slots ≡ (begins slots k + d) % total slots
      place_after d = sym (mod-add-mod (suc m) (total slots) d) ∙ rw (taken k m low n e)

      next : begins slots (suc k) ≡ begins slots k + stretch slots k
      next = begins_next slots k

      whole : begins slots (suc k) ≤ total slots
      whole = begins_up slots (suc k) 8 low

      lasts : (d : ℕ) → d < stretch slots k → holder_after slots (suc m + d) ≡ k
      lasts d h =
          let inside : begins slots k + d < total slots = omega (arith, next, whole) in
          let p = place_after d ∙ mod-eq_of_lt inside in
          holder_is slots (suc m + d) k (omega (arith, next))

      -- it would hold on only if its stretch were the whole round, and then it held before
      ends : holder_after slots (suc m + stretch slots k) ≡ k → ⊥
      ends f =
          let w = placed k (suc m + stretch slots k) low f in
          let p = place_after (stretch slots k) in
          ⊎_elim
          (λ (h : begins slots k + stretch slots k < total slots). omega (arith, next, mod-eq_of_lt h))
          (λ (h : total slots ≤ begins slots k + stretch slots k).
          let full : begins slots k + stretch slots k ≡ total slots = omega (arith, next, whole) in
          let first : (begins slots k + stretch slots k) % total slots ≡ 0 = rw full (mod_self (total slots)) in
          n (holder_is slots m k (omega (arith, next, whole, mod-lt m {m = total slots} (omega (arith, whole))))))
          (lt_or_ge (begins slots k + stretch slots k) (total slots))

  -- ---- from one orbit to the next

  -- between two stretches that begin at the same place nobody has a slot
  idle : (j a b : ℕ) → a ≤ j → j < b → begins slots b ≤ begins slots a → get_or slots j 0 ≡ 0
  idle j a b h l e = omega (arith, begins_up slots a j h, begins_up slots (suc j) b l, begins_next slots j)

  module _ (m : ℕ) (some : 0 < total slots) where
    abbrev a : ℕ
    a = holder_after slots m

    abbrev b : ℕ
    b = holder_after slots (suc m)

    slotted : 0 < get_or slots b 0
    slotted = omega (arith, holder_place slots (suc m) some, begins_next slots b)

    up : suc (m % total slots) < total slots → (b ≡ a → ⊥) → Up slots a b
    up h n =
        let w = holder_place slots m some in
        let v = rw (place_next m (total slots) h) at (holder_place slots (suc m) some) in
        let higher : a < b =
        ⊎_elim
        (λ (l : a < b). l)
        (λ (l : b ≤ a). absurd (omega (arith, begins_up slots (suc b) a (omega arith))))
        (lt_or_ge a b) in
        record { has = slotted; higher = higher; skipped = λ j p q. idle j (suc a) b p q (omega arith) }

    over : suc (m % total slots) ≡ total slots → Over slots a b
    over h =
        let w = holder_place slots m some in
        let v = rw (place_last m (total slots) h) at (holder_place slots (suc m) some) in
        record { has = slotted; highest = λ j p q. idle j (suc a) 8 p q (omega arith); lowest = λ j q. idle j 0 b (omega arith) q (omega arith) }

  rises : (m : ℕ) → Rises slots (holder_after slots m) (holder_after slots (suc m))
  rises m =
      ⊎_elim
      (λ (some : 0 < total slots).
      ⊎_elim
      (λ (h : suc (m % total slots) < total slots).
      ⊎_map (λ e. e) (λ n. inl (up m some h n)) (same_or_not (holder_after slots (suc m)) (holder_after slots m)))
      (λ (h : total slots ≤ suc (m % total slots)). inr (inr (over m some (omega (arith, mod-lt m some)))))
      (lt_or_ge (suc (m % total slots)) (total slots)))
      (λ (h : total slots ≤ 0). inl (holder_none slots (suc m) (omega arith) ∙ sym (holder_none slots m (omega arith))))
      (lt_or_ge 0 (total slots))

  -- ---- how many of a round's orbits are whose

  -- the first counted apart
  held_first : (k m n : ℕ) → held_in slots k m (suc n) ≡ one (eqb (holder_after slots m) k) + held_in slots k (suc m) n
  unfolding held_in
  held_first k m zero = rw (add-zero m) (omega arith)
  held_first k m (suc n) =
      let on : suc m + n ≡ m + suc n = omega arith in
      let before = held_first k m n in
      rw on (omega arith)

  -- the last is in the next round what the first was in this one
  held_last : (k m : ℕ) → held_in slots k m (suc (total slots)) ≡ held_in slots k m (total slots) + one (eqb (holder_after slots m) k)
  unfolding held_in holder_after
  held_last k m = rw (add-mod_right m (total slots))

  sliding : (k m : ℕ) → held_in slots k m (total slots) ≡ held_in slots k 0 (total slots)
  sliding k zero = refl
  sliding k (suc m) = omega (arith, sliding k m, held_first k m (total slots), held_last k m)

  module _ (k : ℕ) (low : k < 8) where
    within : (n : ℕ) → n ≤ total slots → held_in slots k 0 n ≡ min n (begins slots (suc k)) - min n (begins slots k)
    unfolding held_in
    within zero h = omega arith
    within (suc n) h =
        let before = within n (omega arith) in
        let place : n % total slots ≡ n = mod-eq_of_lt h in
        let next = begins_next slots k in
        ⊎_elim
        (λ (a : n < begins slots k). rw (zero-add, ne_eqb (holder_after slots n) k (λ e. let w = placed k n low e in omega arith)) (omega arith))
        (λ (a : begins slots k ≤ n).
        ⊎_elim
        (λ (b : n < begins slots (suc k)). rw (zero-add, eq-eqb (holder_after slots n) k (holder_is slots n k (omega arith))) (omega arith))
        (λ (b : begins slots (suc k) ≤ n). rw (zero-add, ne_eqb (holder_after slots n) k (λ e. let w = placed k n low e in omega arith)) (omega arith))
        (lt_or_ge n (begins slots (suc k))))
        (lt_or_ge n (begins slots k))

    share : (m : ℕ) → held_in slots k m (total slots) ≡ stretch slots k
    share m = sliding k m ∙ within (total slots) (omega arith) ∙ omega (arith, begins_next slots k, begins_up slots (suc k) 8 low)

pub rounds : (slots : List ℕ) → Rounds slots
rounds slots = record { holds = holds slots; hold = hold slots; rises = rises slots; share = λ k m low. share slots k low m }

pub sample : Sample
unfolding holder_after begins first_not
sample = record { first = refl; next = refl; last = refl; again = refl; none = refl }
