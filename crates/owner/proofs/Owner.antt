-- One trigger, one owner: a row's trigger bits are what each controller's crossing sent, and only the holder's can send.
-- What a trigger says of its crossing is a law of one controller; at most one is sent, since every other controller than the holder sends none.
use mathlib.Core.Path.{◌≡◌, refl, sym, ◌∙◌}
use mathlib.Core.Logic.{inl, inr, ⊎_elim}
use mathlib.Core.Bool.{Bool, true, false, ◌&&◌, ◌||◌, false≢true}
use mathlib.Core.List.{List}
use Prim.Native.Nat.{ℕ, zero, suc, ◌+◌, ◌≤◌, ◌<◌}
use native.Mathlib.Omega.{arith}
use borrow.Author.Tests.{eqb-true}
use lib.Dec.{eqb}
use lib.ListN.{get_or}
use Rattle.laws.specs.Base.{one}
use Rattle.laws.proofs.Bools.{or_true, one_le}
use Rattle.laws.proofs.Tests.{either, same_or_not}
use Rattle.settings.specs.declared.Settings.{Settings}
use Rattle.ptc.proofs.Triggers.{SentIs, CalIs, sent_is, cal_is, never_both}
use Rattle.records.specs.Records.{rec_at, asked_in}
use Rattle.kit.specs.Kit.{slots_of, plan_of}
use Rattle.daybook.specs.Row.{row_at, sent_in, cal_in, sends_in, triggers_of}
use Rattle.daybook.specs.Whole.{Taken, Crossing, whole}
use Rattle.daybook.proofs.Seen.{scene_in, ptc_in, class_in, sent_told, cal_told, runs_told}
use Rattle.slots.specs.Orbits.{orbit_ends_in, holder_by}
use Rattle.slots.specs.Rounds.{OwnOrbit}
use Rattle.slots.proofs.Slots.{number_seen, holder_seen}
use Rattle.slots.proofs.Rounds.{rounds}
use Rattle.owner.specs.Owned.{Rightful, Owner}

-- ---- at most one of the eight, where one alone may send

sum_below : (row : List ℕ) (h : ℕ)
    → ((k : ℕ) → k < 8 → one (sent_in row k) + one (cal_in row k) ≤ 1)
    → ((k : ℕ) → k < 8 → (k ≡ h → ⊥) → one (sent_in row k) + one (cal_in row k) ≡ 0)
    → (n : ℕ) → n ≤ 8 → (n ≤ h → triggers_of row n ≡ 0) × (triggers_of row n ≤ 1)
unfolding triggers_of
sum_below row h once none zero le = (λ p. refl, omega arith)
sum_below row h once none (suc n) le =
    let before = sum_below row h once none n (omega arith) in
    ⊎_elim
    (λ (e : n ≡ h). (λ (p : suc n ≤ h). absurd (omega arith), omega (arith, before.0 (omega arith), once n le)))
    (λ (e : n ≡ h → ⊥). let z = none n le e in (λ (p : suc n ≤ h). omega (arith, before.0 (omega arith), z), omega (arith, before.1, z)))
    (same_or_not n h)

apart_sum : (a b : Bool) → a && b ≡ false → one a + one b ≤ 1
apart_sum true true e = absurd (false≢true (sym e))
apart_sum true false e = omega arith
apart_sum false b e = omega (arith, one_le b)

pub silent_sum : (a b : Bool) → a || b ≡ false → one a + one b ≡ 0
silent_sum true b e = absurd (false≢true (sym e))
silent_sum false true e = absurd (false≢true (sym e))
silent_sum false false e = refl

module _ {s : Settings} {log buffer : List ℕ} (t : Taken s log buffer) {i : ℕ} (c : Crossing log i) (k : ℕ) (low : k < 8) where
  abbrev row : List ℕ
  row = row_at (whole s log buffer).rows i

  -- ---- what the bits of the row say of controller k

  pub sent_says : sent_in row k ≡ true → SentIs (plan_of s k) (scene_in s log i) k (class_in s log i k) (asked_in (get_or (rec_at log i) 2 0) k) (ptc_in s log i k)
  sent_says e =
      sent_is (plan_of s k) (scene_in s log i) k (class_in s log i k) (asked_in (get_or (rec_at log i) 2 0) k) (ptc_in s log i k) (sym (sent_told t c k low) ∙ e)

  pub cal_says : cal_in row k ≡ true → CalIs (plan_of s k) (scene_in s log i) k (class_in s log i k) (asked_in (get_or (rec_at log i) 2 0) k) (ptc_in s log i k)
  cal_says e =
      cal_is (plan_of s k) (scene_in s log i) k (class_in s log i k) (asked_in (get_or (rec_at log i) 2 0) k) (ptc_in s log i k) (sym (cal_told t c k low) ∙ e)

  holds_it : eqb k (scene_in s log i).holder ≡ true → k ≡ holder_by s log i
  holds_it e = eqb-true k (scene_in s log i).holder e ∙ holder_seen t c

  own_orbit : k ≡ holder_by s log i → OwnOrbit (slots_of s) k (orbit_ends_in s log i)
  own_orbit e = ((rounds (slots_of s)).holds k low).only (orbit_ends_in s log i) (sym e)

  of_request : sent_in row k ≡ true → Rightful s log (whole s log buffer).rows i k
  of_request e =
      let w = sent_says e in
      let own = holds_it w.own in
      record {
        holds = own;
        orbit = own_orbit own;
        runs = runs_told t c k low ∙ w.runs;
        place = inl (rw (number_seen t c) at w.outside);
        asked = λ q. w.requested;
      }

  of_calibration : cal_in row k ≡ true → Rightful s log (whole s log buffer).rows i k
  of_calibration e =
      let w = cal_says e in
      let own = holds_it w.own in
      record {
        holds = own;
        orbit = own_orbit own;
        runs = runs_told t c k low ∙ w.runs;
        place = inr e;
        asked = λ q. (sent_says q).requested;
      }

  rightful_here : sends_in row k ≡ true → Rightful s log (whole s log buffer).rows i k
  rightful_here e = ⊎_elim of_request of_calibration (or_true (sent_in row k) (cal_in row k) e)

  -- ---- never both kinds, and none but the holder's

  one_kind : one (sent_in row k) + one (cal_in row k) ≤ 1
  one_kind =
      apart_sum (sent_in row k) (cal_in row k)
      (rw (sent_told t c k low, cal_told t c k low)
      (never_both (plan_of s k) (scene_in s log i) k (class_in s log i k) (asked_in (get_or (rec_at log i) 2 0) k) (ptc_in s log i k)))

  none_else : (k ≡ holder_by s log i → ⊥) → one (sent_in row k) + one (cal_in row k) ≡ 0
  none_else n =
      ⊎_elim
      (λ (e : sends_in row k ≡ true). absurd (n (rightful_here e).holds))
      (silent_sum (sent_in row k) (cal_in row k))
      (either (sends_in row k))

pub one_at_most : {s : Settings} {log buffer : List ℕ} (t : Taken s log buffer) {i : ℕ} → Crossing log i
    → triggers_of (row_at (whole s log buffer).rows i) 8 ≤ 1
one_at_most {s} {log} {buffer} t {i} c =
    (sum_below (row_at (whole s log buffer).rows i) (holder_by s log i) (one_kind t c) (none_else t c) 8 (omega arith)).1

pub owner : Owner
owner s log buffer t = record { one_at_most = λ i c. one_at_most t c; rightful = λ i k c low e. rightful_here t c k low e }
