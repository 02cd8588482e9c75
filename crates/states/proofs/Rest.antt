-- A crossing leaves a resting state as it is, and sends nothing.
-- By cases on which of the eight states it is: at each the move is a numeral, or where the class leads.
use mathlib.Core.Path.{◌≡◌, refl, ◌∙◌}
use mathlib.Core.Bool.{Bool, true, false, ◌||◌}
use Prim.Native.Nat.{ℕ}
use borrow.Author.Tests.{eqb-true}
use lib.Dec.{leb, eqb}
use Rattle.laws.proofs.Bools.{if_has}
use Rattle.settings.specs.declared.names.Schedule.{Schedule}
use Rattle.settings.specs.declared.names.Waits.{Waits}
use Rattle.status.specs.Class.{bad}
use Rattle.states.specs.Moves.{while_running, move_of, entry_wait, moved_of}
use Rattle.states.specs.Support.Rest.{resting}

or_has : (P : Type 0) (a b : Bool) → (a ≡ true → P) → (b ≡ true → P) → a || b ≡ true → P
or_has P true b p q e = p refl
or_has P false b p q e = q e

module _ (at : Schedule) (w : Waits) (k number class : ℕ) where
  abbrev Stays : ℕ → Type 0
  Stays s = moved_of at w k number class s 0 ≡ record { state = s; wait = 0; code = 0 }

  stays_at : (s n : ℕ) → Stays n → eqb s n ≡ true → Stays s
  stays_at s n h e = rw (eqb-true s n e) h

  running_stays : (s : ℕ) → while_running class ≡ s → eqb s 6 || (eqb s 7 || eqb s 8) ≡ true → Stays s
  unfolding moved_of move_of entry_wait
  running_stays s e =
      or_has (Stays s) (eqb s 6) _ (λ z. stays_at s 6 (rw (e ∙ eqb-true s 6 z)) z)
      (or_has (Stays s) (eqb s 7) _ (λ z. stays_at s 7 (rw (e ∙ eqb-true s 7 z)) z) (λ z. stays_at s 8 (rw (e ∙ eqb-true s 8 z)) z))

  disconnected_stays : leb bad class ≡ true → Stays 9
  unfolding moved_of move_of entry_wait
  disconnected_stays e = rw e

  led_stays : (s : ℕ) → eqb s 0 || (eqb s 10 || (eqb s 11 || eqb s 18)) ≡ true → Stays s
  unfolding moved_of move_of entry_wait
  led_stays s =
      or_has (Stays s) (eqb s 0) _ (stays_at s 0 refl)
      (or_has (Stays s) (eqb s 10) _ (stays_at s 10 refl) (or_has (Stays s) (eqb s 11) _ (stays_at s 11 refl) (stays_at s 18 refl)))

pub rest_moved : (at : Schedule) (w : Waits) (k number class s : ℕ) → resting class s ≡ true
    → moved_of at w k number class s 0 ≡ record { state = s; wait = 0; code = 0 }
unfolding resting
rest_moved at w k number class s =
    if_has (λ (t : Bool). t ≡ true → Stays at w k number class s) (eqb s 6 || (eqb s 7 || eqb s 8)) _ _
    (λ o e. running_stays at w k number class s (eqb-true _ s e) o)
    (λ o.
    if_has (λ (t : Bool). t ≡ true → Stays at w k number class s) (eqb s 9) _ _
    (λ z e. stays_at at w k number class s 9 (disconnected_stays at w k number class e) z)
    (λ z. led_stays at w k number class s))
