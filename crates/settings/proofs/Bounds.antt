-- What settings that pass the check satisfy: the ranges of the lines that steps count with, and that a controller's numbers are distinct.
-- No line is out of range, so each has the range that is computed from the table; no relation fails, so each of their tests is true.
use mathlib.Core.Path.{◌≡◌, refl, sym, ◌∙◌}
use mathlib.Core.Logic.{⊎_elim}
use mathlib.Core.Bool.{Bool, true, not, ◌&&◌}
use mathlib.Core.List.{List, [], ◌∷◌}
use Prim.Native.Nat.{ℕ, zero, suc, ◌+◌, ◌-◌, ◌*◌, ◌%◌, ◌≤◌, ◌<◌}
use native.Mathlib.Nat.{le_of_suc-le-suc, not-suc-le-zero}
use native.Mathlib.Omega.{arith}
use borrow.Author.Tests.{leb-true, ltb-true, eqb-false, not-true}
use lib.Dec.{leb, ltb, eqb, lit<}
use lib.ListN.{length, get_or, take, drop, length-take, get_or-eq_default}
use lib.Seq.{get_or-take, get_or-drop}
use Rattle.answer.specs.Told.{DONE}
use Rattle.laws.specs.Base.{all_b}
use Rattle.laws.proofs.Bools.{both}
use Rattle.laws.proofs.Tests.{lt_or_ge}
use Rattle.laws.proofs.All.{all_get}
use Rattle.text.specs.declared.Range.{Range}
use Rattle.text.specs.Lines.{ranges_of, within}
use Rattle.text.proofs.Tables.{in_range_at}
use Rattle.keys.specs.Settings.{value_lines}
use Rattle.keys.specs.Support.Lines.{nowhere}
use Rattle.settings.specs.declared.Settings.{Settings}
use Rattle.settings.specs.Names.{after, orbit_of, rules_of, waits_of, slot_of, times_at, schedule_of, times_of}
use Rattle.settings.specs.Relations.{absent, distinct, cycle_in_order, low_fits}
use Rattle.settings.specs.Check.{out_of_range, checked}
use Rattle.settings.specs.Support.Stamps.{Fits}
use Rattle.settings.proofs.Ranges.{ranged}
use Rattle.settings.proofs.Passed.{passed, Holding, holding}

-- ---- what the ranges and the relations say

pub record Bounded (s : Settings) : Type 0 where
  pub orbit_low : 64 ≤ orbit_of s
  pub orbit_high : orbit_of s ≤ 4096
  pub spacing : (rules_of s).spacing ≤ 7
  pub second : 1 ≤ (rules_of s).second.period
  pub second_high : (rules_of s).second.period ≤ 63
  pub third : 64 ≤ (rules_of s).third.period
  pub third_high : (rules_of s).third.period ≤ 176
  pub fourth : 1 ≤ (rules_of s).fourth.period
  pub fourth_high : (rules_of s).fourth.period ≤ 2047
  pub settle_resync : (waits_of s).settle.resync ≤ 255
  pub settle_hard : (waits_of s).settle.hard ≤ 255
  pub recover_resync : (waits_of s).recover.resync ≤ 255
  pub recover_hard : (waits_of s).recover.hard ≤ 255
  pub slot : (k : ℕ) → k < 8 → slot_of s k ≤ 255

-- each low limit is within its normal limit
pub record Ordered (s : Settings) : Type 0 where
  pub second : (rules_of s).second.low ≤ (rules_of s).second.norm
  pub third : (rules_of s).third.low ≤ (rules_of s).third.norm
  pub fourth : (rules_of s).fourth.low ≤ (rules_of s).fourth.norm

-- ---- of lists

part : {A : Type 0} (from count : ℕ) (l : List A) (d : A) (k : ℕ) → k < count → get_or (take count (drop from l)) k d ≡ get_or l (from + k) d
part from count l d k h = get_or-take count (drop from l) k d h ∙ get_or-drop from l k d

each_apart : (l : List ℕ) → distinct l ≡ true → (i j : ℕ) → i < j → j < length l → get_or l i 0 ≡ get_or l j 0 → ⊥
unfolding all_b
each_apart [] e i j less h = absurd (not-suc-le-zero h)
each_apart (x ∷ l) e zero (suc j) less h =
    let w = both (absent x l) (distinct l) e in
    eqb-false x _ (not-true (eqb x (get_or l j 0)) (all_get (λ y. not (eqb x y)) l j 0 w.0 (le_of_suc-le-suc h)))
each_apart (x ∷ l) e (suc i) (suc j) less h = each_apart l (both (absent x l) (distinct l) e).1 i j (le_of_suc-le-suc less) (le_of_suc-le-suc h)
each_apart (x ∷ l) e i zero less h = absurd (not-suc-le-zero less)

-- the part of the values that is lent of a controller has its eleven numbers
pub eleven : (k : ℕ) → 38 + 11 * k - (27 + 11 * k) ≡ 11
eleven k = omega arith

-- ---- the ranges of the slots and of the schedules

abbrev slot_ranges : List Range
slot_ranges = take 8 (drop 19 (ranges_of value_lines))

abbrev byte : Range → Bool
byte r = leb r.high 255

slots : length slot_ranges ≡ 8
unfolding value_lines
slots = refl

all_bytes : all_b byte slot_ranges ≡ true
unfolding value_lines all_b
all_bytes = refl

abbrev range_of : ℕ → Range
range_of n = get_or (ranges_of value_lines) n nowhere

slot_high : (k : ℕ) → k < 8 → (range_of (19 + k)).high ≤ 255
slot_high k h = rw (← part 19 8 (ranges_of value_lines) nowhere k h) (leb-true _ _ (all_get byte slot_ranges k nowhere all_bytes (omega (arith, slots))))

abbrev time_ranges : List Range
time_ranges = take 88 (drop 27 (ranges_of value_lines))

abbrev number : Range → Bool
number r = leb r.high 4095

times : length time_ranges ≡ 88
unfolding value_lines
times = refl

all_numbers : all_b number time_ranges ≡ true
unfolding value_lines all_b
all_numbers = refl

time_high : (n : ℕ) → n < 88 → (range_of (27 + n)).high ≤ 4095
time_high n h = rw (← part 27 88 (ranges_of value_lines) nowhere n h) (leb-true _ _ (all_get number time_ranges n nowhere all_numbers (omega (arith, times))))

-- ---- settings whose values are in range

module _ (s : Settings) (ok : out_of_range s ≡ 0) where
  pub line_at : (n : ℕ) → n < 147 → within (range_of n) (after s n) ≡ true
  unfolding out_of_range
  line_at n h = in_range_at (ranges_of value_lines) s.values 2 (lit< tt) ok n nowhere (omega (arith, ranged))

  line : (n : ℕ) → n < 147 → ((range_of n).low ≤ after s n) × (after s n ≤ (range_of n).high)
  line n h =
      let w = both (leb (range_of n).low (after s n)) (leb (after s n) (range_of n).high) (line_at n h) in
      (leb-true _ _ w.0, leb-true _ _ w.1)

  -- the numbers of all eight schedules have a place in a table of 4,096; past the end of a list there is 0
  pub times_fit : (k : ℕ) → k < 8 → Fits (times_of s k)
  times_fit k low i =
      ⊎_elim
      (λ (h : i < 11).
      let w = line (27 + 11 * k + i) (omega arith) in
      let here : 27 + (11 * k + i) ≡ 27 + 11 * k + i = omega arith in
      let most = rw here at (time_high (11 * k + i) (omega arith)) in
      rw (part (27 + 11 * k) 11 s.values 0 i h) (omega arith))
      (λ (h : 11 ≤ i).
      let past : length (times_of s k) ≤ i = omega (arith, length-take 11 (drop (27 + 11 * k) s.values)) in
      rw (get_or-eq_default (times_of s k) 0 past) (lit< tt))
      (lt_or_ge i 11)

-- ---- settings that pass the check

module _ (s : Settings) (ok : checked s ≡ DONE) where
  within_line : (n : ℕ) → n < 147 → ((range_of n).low ≤ after s n) × (after s n ≤ (range_of n).high)
  within_line = line s (passed s ok).inside

  slot_most : (k : ℕ) → k < 8 → slot_of s k ≤ 255
  slot_most k h = let w = within_line (19 + k) (omega arith) in let most = slot_high k h in omega arith

  pub bounded : Bounded s
  unfolding value_lines
  bounded =
      record {
        orbit_low = (within_line 0 (lit< tt)).0;
        orbit_high = (within_line 0 (lit< tt)).1;
        spacing = (within_line 3 (lit< tt)).1;
        second = (within_line 4 (lit< tt)).0;
        second_high = (within_line 4 (lit< tt)).1;
        third = (within_line 7 (lit< tt)).0;
        third_high = (within_line 7 (lit< tt)).1;
        fourth = (within_line 10 (lit< tt)).0;
        fourth_high = (within_line 10 (lit< tt)).1;
        settle_resync = (within_line 15 (lit< tt)).1;
        settle_hard = (within_line 16 (lit< tt)).1;
        recover_resync = (within_line 17 (lit< tt)).1;
        recover_hard = (within_line 18 (lit< tt)).1;
        slot = slot_most;
      }

  holds : Holding s
  holds = holding s (passed s ok).related

  pub ordered : Ordered s
  ordered =
      let rules = rules_of s in
      let a = both (low_fits rules.second) (low_fits rules.third && low_fits rules.fourth) holds.limits in
      let b = both (low_fits rules.third) (low_fits rules.fourth) a.1 in
      record { second = leb-true _ _ a.0; third = leb-true _ _ b.0; fourth = leb-true _ _ b.1 }

  module _ (k : ℕ) where
    own : k % 8 < 8
    own = omega arith

    -- at_cal lies after another number, so it is no value past the end of a short list
    times_long : 10 < length (times_of s (k % 8))
    times_long =
        ⊎_elim
        (λ (h : 10 < length (times_of s (k % 8))). h)
        (λ (h : length (times_of s (k % 8)) ≤ 10).
        let none : after s (times_at k + 10) ≡ 0 = sym (part (times_at k) 11 s.values 0 10 (lit< tt)) ∙ get_or-eq_default (times_of s (k % 8)) 0 h in
        let at = schedule_of s k in
        let twice : k % 8 % 8 ≡ k % 8 = omega arith in
        let order : cycle_in_order at ≡ true = rw twice at (holds.order (k % 8) own) in
        let later = ltb-true at.te at.cal (both (ltb at.wte at.te) (ltb at.te at.cal) order).1 in
        absurd (omega (arith, none, later)))
        (lt_or_ge 10 (length (times_of s (k % 8))))

    -- no two of a controller's eleven numbers are the same
    pub times_apart : (i j : ℕ) → i < j → j < 11 → after s (times_at k + i) ≡ after s (times_at k + j) → ⊥
    times_apart i j less h e =
        let first = part (times_at k) 11 s.values 0 i (omega arith) in
        let second = part (times_at k) 11 s.values 0 j h in
        each_apart (times_of s (k % 8)) (holds.apart (k % 8) own) i j less (omega (arith, times_long)) (first ∙ e ∙ sym second)
