-- The desk's number and holder are the counted ones, by induction on the records.
-- The clock expects the crossings since the last marker modulo the orbit; so both see the same orbits end, and the turn keeps to the round.
use mathlib.Core.Path.{◌≡◌, refl, sym, ◌∙◌}
use mathlib.Core.Logic.{⊎_elim}
use mathlib.Core.Bool.{Bool, true, false}
use mathlib.Core.List.{List}
use Prim.Native.Nat.{ℕ, zero, suc, ◌+◌, ◌%◌, ◌≤◌, ◌<◌}
use native.Mathlib.Nat.{add-zero, zero-mod, mod-lt}
use native.Mathlib.Numerals.{add-one}
use native.Mathlib.Omega.{arith}
use borrow.Author.Tests.{lt-ltb, le-ltb}
use Rattle.laws.specs.Base.{if}
use Rattle.laws.proofs.Tests.{either, lt_or_ge}
use Rattle.settings.specs.declared.Settings.{Settings}
use Rattle.settings.specs.Names.{orbit_of}
use Rattle.settings.proofs.Bounds.{bounded}
use Rattle.clock.specs.Clock.{orbit_ends, next_of, ticked_of}
use Rattle.records.specs.Records.{rec_at, is_crossing, marker_in, crossings_in}
use Rattle.kit.specs.Kit.{slots_of}
use Rattle.daybook.specs.Beam.{handed_over, beam_past, beam_at, number_in, holder_in}
use Rattle.daybook.specs.Whole.{Taken, Crossing}
use Rattle.daybook.proofs.Beams.{number_told, holder_told}
use Rattle.daybook.proofs.Seen.{scene_in}
use Rattle.slots.specs.Orbits.{since_marker, number_by, ends_orbit, orbits_ended, orbit_ends_in, holder_by}
use Rattle.slots.specs.Slots.{Counted, Slots}
use Rattle.slots.proofs.Round.{place_next, place_last}
use Rattle.slots.proofs.Turns.{Keeps, keeps_holder, fresh_keeps, turned_keeps}

-- what the clock expects after the crossing with number x % orbit, and after a crossing with or without a marker
module _ (orbit : ℕ) (some : 0 < orbit) where
  after_number : (x : ℕ) → next_of orbit (x % orbit) ≡ (x + 1) % orbit
  after_number x =
      ⊎_elim
      (λ (h : suc (x % orbit) < orbit). rw (add-one (x % orbit), add-one x, lt-ltb (suc (x % orbit)) orbit h, place_next x orbit h))
      (λ (h : orbit ≤ suc (x % orbit)).
      rw (add-one (x % orbit), add-one x, le-ltb (suc (x % orbit)) orbit h, place_last x orbit (omega (arith, mod-lt x some))))
      (lt_or_ge (suc (x % orbit)) orbit)

  after_crossing : (marker : Bool) (x : ℕ) → next_of orbit (if marker 0 (x % orbit)) ≡ if marker 1 (x + 1) % orbit
  after_crossing true x = rw zero-mod at (after_number 0)
  after_crossing false x = after_number x

module _ (s : Settings) (log : List ℕ) where
  crossings_counted : (i : ℕ) → (beam_at s log i).clock.crossings ≡ crossings_in i log
  unfolding beam_at beam_past ticked_of crossings_in
  crossings_counted zero = refl
  crossings_counted (suc i) =
      ⊎_elim
      (λ (e : is_crossing (rec_at log i) ≡ true). rw (e, crossings_counted i))
      (λ (e : is_crossing (rec_at log i) ≡ false). rw (e, crossings_counted i, add-zero))
      (either (is_crossing (rec_at log i)))

  module _ (some : 0 < orbit_of s) where
    expected : (i : ℕ) → (beam_at s log i).clock.next ≡ since_marker log i % orbit_of s
    unfolding beam_at beam_past ticked_of since_marker
    expected zero = sym (zero-mod (orbit_of s))
    expected (suc i) =
        ⊎_elim
        (λ (e : is_crossing (rec_at log i) ≡ true). rw (e, expected i) (after_crossing (orbit_of s) some (marker_in (rec_at log i)) (since_marker log i)))
        (λ (e : is_crossing (rec_at log i) ≡ false). rw e (expected i))
        (either (is_crossing (rec_at log i)))

    number_counted : (i : ℕ) → number_in s log i ≡ number_by s log i
    unfolding number_in number_by
    number_counted i = rw (expected i)

    -- a crossing ends an orbit by the clock where it does so by the log
    ends_counted : (i : ℕ) → is_crossing (rec_at log i) ≡ true → orbit_ends (beam_at s log i).clock (marker_in (rec_at log i)) ≡ ends_orbit s log i
    unfolding number_by
    ends_counted i e = rw (e, expected i, crossings_counted i)

    handed : (i : ℕ) → Keeps (slots_of s) (orbits_ended s log i) (beam_at s log i).turn → is_crossing (rec_at log i) ≡ true
        → Keeps (slots_of s) (orbit_ends_in s log i) (handed_over s (beam_at s log i) (rec_at log i))
    unfolding orbits_ended
    handed i k e =
        rw (← ends_counted i e)
        (turned_keeps (slots_of s) (orbit_ends (beam_at s log i).clock (marker_in (rec_at log i))) (orbits_ended s log i) (beam_at s log i).turn k)

    keeps : (i : ℕ) → Keeps (slots_of s) (orbits_ended s log i) (beam_at s log i).turn
    unfolding beam_at beam_past orbits_ended
    keeps zero = fresh_keeps (slots_of s)
    keeps (suc i) =
        ⊎_elim
        (λ (e : is_crossing (rec_at log i) ≡ true). rw e (rw e at (handed i (keeps i) e)))
        (λ (e : is_crossing (rec_at log i) ≡ false). rw (e, add-zero) (keeps i))
        (either (is_crossing (rec_at log i)))

    holder_counted : (i : ℕ) → is_crossing (rec_at log i) ≡ true → holder_in s log i ≡ holder_by s log i
    unfolding holder_in
    holder_counted i e = keeps_holder (slots_of s) (orbit_ends_in s log i) (handed_over s (beam_at s log i) (rec_at log i)) (handed i (keeps i) e)

pub slots : Slots
slots s log i some e = record { number = number_counted s log some i; holder = holder_counted s log some i e }

-- ---- a crossing of a log that was accepted: what all eight see is the counted number and holder

module _ {s : Settings} {log buffer : List ℕ} (t : Taken s log buffer) {i : ℕ} (c : Crossing log i) where
  -- settings that pass the checks have an orbit of 64 crossings or more
  counted : Counted s log i
  counted = slots s log i (omega (arith, bounded s t.checks)) c.kind

  pub number_seen : (scene_in s log i).number ≡ number_by s log i
  number_seen = number_told s log i ∙ counted.number

  pub holder_seen : (scene_in s log i).holder ≡ holder_by s log i
  holder_seen = holder_told s log i ∙ counted.holder
