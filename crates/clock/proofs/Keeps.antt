-- Crossings keep the clock and the turn sound, and a sound clock has room for the next crossing.
-- Each part of a soundness is read from the conjunction and kept by itself; the search finds a holder, since the one before it has a slot.
use mathlib.Core.Path.{◌≡◌, refl}
use mathlib.Core.Logic.{⊎_elim}
use mathlib.Core.Bool.{Bool, true, false, not, ◌&&◌}
use mathlib.Core.List.{List, [], ◌∷◌}
use Prim.Native.Nat.{ℕ, zero, suc, ◌+◌, ◌-◌, ◌*◌, ◌%◌, ◌≤◌, ◌<◌, ◌^◌}
use native.Mathlib.Omega.{arith}
use borrow.Author.Tests.{eq-eqb, ne_eqb, lt-ltb, le-ltb, le-leb, leb-true, ltb-true, eqb-true}
use lib.Dec.{leb, ltb, eqb}
use lib.ListN.{length, get_or, get_or-eq_default}
use Rattle.laws.specs.Base.{all_b}
use Rattle.laws.proofs.Bools.{both, and_yes, if_has, one_le}
use Rattle.laws.proofs.Tests.{lt_or_ge, same_or_not}
use Rattle.clock.specs.declared.Clock.{Clock}
use Rattle.clock.specs.declared.Turn.{Turn}
use Rattle.clock.specs.Clock.{number_of, orbit_ends, next_of, ticked_of, sound_clock}
use Rattle.clock.specs.Turn.{next_from, takes_over, fallen_of, turned_of, fresh_turn, held, sound_turn}
use Rattle.clock.specs.Support.Room.{ClockRoom}
use Rattle.clock.proofs.Found.{Has, None, finds}

-- the parts of the clock's test
record Runs (most orbit : ℕ) (c : Clock) : Type 0 where
  crossings : c.crossings ≤ most
  next : c.next < orbit
  orbits : c.orbits ≤ c.crossings
  errors : c.errors ≤ c.crossings

read : (most orbit : ℕ) (c : Clock) → sound_clock most orbit c ≡ true → Runs most orbit c
unfolding sound_clock
read most orbit c e =
    let x = both (leb c.crossings most) _ e in
    let y = both (ltb c.next orbit) _ x.1 in
    let z = both (leb c.orbits c.crossings) _ y.1 in
    record { crossings = leb-true _ _ x.0; next = ltb-true _ _ y.0; orbits = leb-true _ _ z.0; errors = leb-true _ _ z.1 }

make : (most orbit : ℕ) (c : Clock) → Runs most orbit c → sound_clock most orbit c ≡ true
unfolding sound_clock
make most orbit c r =
    and_yes _ _ (le-leb _ _ r.crossings) (and_yes _ _ (lt-ltb _ _ r.next) (and_yes _ _ (le-leb _ _ r.orbits) (le-leb _ _ r.errors)))

next_below : (orbit number : ℕ) → 0 < orbit → next_of orbit number < orbit
next_below orbit number h =
    if_has (λ (n : ℕ). n < orbit) (ltb (number + 1) orbit) (number + 1) 0 (λ e. ltb-true (number + 1) orbit e) (λ e. h)

pub ticked_sound : (most orbit : ℕ) (c : Clock) (marker : Bool) → 0 < orbit → c.crossings < most → sound_clock most orbit c ≡ true
    → sound_clock most orbit (ticked_of orbit c marker) ≡ true
unfolding ticked_of
ticked_sound most orbit c marker low room e =
    let r = read most orbit c e in
    let ends = one_le (orbit_ends c marker) in
    let errs = one_le (marker && not (eqb c.next 0)) in
    make most orbit _
    (record { crossings = omega arith; next = next_below orbit (number_of c marker) low; orbits = omega arith; errors = omega arith })

pub clock_roomy : (most orbit : ℕ) (c : Clock) → most < 2 ^ 41 → orbit ≤ 2 ^ 31 → sound_clock most orbit c ≡ true → ClockRoom c
clock_roomy most orbit c m o e = let r = read most orbit c e in omega arith

-- a turn with a holder is held: a slot above 0, and 1..10 × slot orbits left
record Holds (slots : List ℕ) (t : Turn) : Type 0 where
  slot : 0 < get_or slots t.holder 0
  low : 1 ≤ t.left
  high : t.left ≤ 10 * get_or slots t.holder 0

holds_read : (slots : List ℕ) (t : Turn) → held slots t ≡ true → Holds slots t
holds_read slots t e =
    let x = both (ltb 0 (get_or slots t.holder 0)) _ e in
    let y = both (leb 1 t.left) _ x.1 in
    record { slot = ltb-true _ _ x.0; low = leb-true _ _ y.0; high = leb-true _ _ y.1 }

holds_sound : (slots : List ℕ) (t : Turn) → t.holder < 8 → Holds slots t → sound_turn slots t ≡ true
unfolding sound_turn
holds_sound slots t b h =
    rw (lt-ltb t.holder 8 b) (and_yes _ _ (lt-ltb _ _ h.slot) (and_yes _ _ (le-leb _ _ h.low) (le-leb _ _ h.high)))

sound_held_lem : (slots : List ℕ) (t : Turn) → t.holder < 8 → sound_turn slots t ≡ true → Holds slots t
unfolding sound_turn
sound_held_lem slots t b e = holds_read slots t (rw (lt-ltb t.holder 8 b) at e)

sound_free : (slots : List ℕ) (t : Turn) → 8 ≤ t.holder → sound_turn slots t ≡ true → t.holder ≡ 8
unfolding sound_turn
sound_free slots t b e = eqb-true t.holder 8 (both (eqb t.holder 8) _ (rw (le-ltb t.holder 8 b) at e)).0

pub holder_most : (slots : List ℕ) (t : Turn) → sound_turn slots t ≡ true → t.holder ≤ 8
holder_most slots t e =
    ⊎_elim
    (λ (b : t.holder < 8). omega arith)
    (λ (b : 8 ≤ t.holder). omega (arith, sound_free slots t b e))
    (lt_or_ge t.holder 8)

-- whoever takes over with a slot holds it
taker_sound : (slots : List ℕ) (k : ℕ) → Has slots k → sound_turn slots (takes_over slots k) ≡ true
unfolding takes_over
taker_sound slots k f =
    let has = f.slot in
    holds_sound slots (record { holder = k; left = 10 * get_or slots k 0 }) f.below (record { slot = has; low = omega arith; high = omega arith })

-- past the holder come seven others and then the holder itself
round : (k : ℕ) → k < 8 → (k + 1 + 7) % 8 ≡ k
round k h = omega arith

fallen_sound : (slots : List ℕ) (t : Turn) → t.holder < 8 → sound_turn slots t ≡ true → sound_turn slots (fallen_of slots t) ≡ true
unfolding fallen_of
fallen_sound slots t b e =
    let h = sound_held_lem slots t b e in
    ⊎_elim
    (λ (l : 1 < t.left).
    let low : 1 ≤ t.left - 1 = omega arith in
    let high : t.left - 1 ≤ 10 * get_or slots t.holder 0 = omega (arith, h.high) in
    rw (lt-ltb 1 t.left l) (holds_sound slots (record { holder = t.holder; left = t.left - 1 }) b (record { slot = h.slot; low = low; high = high })))
    (λ (l : t.left ≤ 1).
    rw (le-ltb 1 t.left l)
    (⊎_elim
    (λ (f : Has slots (next_from slots (t.holder + 1) 8)). taker_sound slots (next_from slots (t.holder + 1) 8) f)
    (λ (n : None slots (t.holder + 1) 8 (next_from slots (t.holder + 1) 8)).
    let own : get_or slots t.holder 0 ≡ 0 = rw (round t.holder b) at (n.empty 7 (omega arith)) in
    let no : ⊥ = omega (arith, h.slot) in
    absurd no)
    (finds slots (t.holder + 1) 8)))
    (lt_or_ge 1 t.left)

pub turned_sound : (slots : List ℕ) (ends : Bool) (t : Turn) → length slots ≡ 8 → sound_turn slots t ≡ true
    → sound_turn slots (turned_of slots ends t) ≡ true
unfolding turned_of
turned_sound slots false t long e = e
turned_sound slots true t long e =
    ⊎_elim
    (λ (n : t.holder ≡ 8). rw (eq-eqb t.holder 8 n) e)
    (λ (n : t.holder ≡ 8 → ⊥). rw (ne_eqb t.holder 8 n) (fallen_sound slots t (below n) e))
    (same_or_not t.holder 8)
  where
    below : (t.holder ≡ 8 → ⊥) → t.holder < 8
    below n =
        ⊎_elim (λ (b : t.holder < 8). b) (λ (b : 8 ≤ t.holder). absurd (n (sound_free slots t b e))) (lt_or_ge t.holder 8)

all_zero : (l : List ℕ) → ((j : ℕ) → j < length l → get_or l j 0 ≡ 0) → all_b (λ s. eqb s 0) l ≡ true
unfolding all_b
all_zero [] h = refl
all_zero (s ∷ l) h = and_yes _ _ (eq-eqb s 0 (h zero (omega arith))) (all_zero l (λ j b. h (suc j) (omega arith)))

-- a search over all eight that finds none has seen all
none_at_all : (slots : List ℕ) (k : ℕ) → length slots ≡ 8 → None slots 0 8 k → sound_turn slots (takes_over slots k) ≡ true
unfolding takes_over sound_turn
none_at_all slots k long n =
    let none = n.nobody in
    let end : 8 ≤ k = omega arith in
    let past : length slots ≤ k = omega arith in
    rw (le-ltb k 8 end, eq-eqb k 8 none, get_or-eq_default slots 0 past) (all_zero slots empty)
  where
    empty : (j : ℕ) → j < length slots → get_or slots j 0 ≡ 0
    empty j b =
        let same : (0 + j) % 8 ≡ j = omega arith in
        let low : j < 8 = omega arith in
        rw same at (n.empty j low)

pub fresh_turn_sound : (slots : List ℕ) → length slots ≡ 8 → sound_turn slots (fresh_turn slots) ≡ true
unfolding fresh_turn
fresh_turn_sound slots long =
    ⊎_elim
    (λ (f : Has slots (next_from slots 0 8)). taker_sound slots (next_from slots 0 8) f)
    (λ (n : None slots 0 8 (next_from slots 0 8)). none_at_all slots (next_from slots 0 8) long n)
    (finds slots 0 8)
