-- The counts stay sound through a crossing: every count is within the crossings done, and the three sums of the report agree.
-- The conjunction is read as a record of facts, each step is arithmetic over it, and the record makes the conjunction again.
use mathlib.Core.Path.{◌≡◌}
use mathlib.Core.Bool.{Bool, true, false}
use Prim.Native.Nat.{ℕ, ◌+◌, ◌*◌, ◌≤◌}
use native.Mathlib.Omega.{arith}
use borrow.Author.Rules.{rules}
use lib.Dec.{eqb, ltb}
use Rattle.laws.proofs.Tests.{tests}
use Rattle.laws.specs.Base.{one}
use Rattle.settings.specs.declared.names.Gap.{Gap}
use Rattle.counts.specs.declared.ByRule.{ByRule}
use Rattle.counts.specs.declared.Counts.{Counts}
use Rattle.counts.specs.declared.Lost.{Lost}
use Rattle.counts.specs.declared.Calibrations.{Calibrations}
use Rattle.counts.specs.Counts.{CAL, ruled, fate_of, ruled_to, lost_to, requested_of, calibrated_of, counted_of, no_counts}
use Rattle.counts.specs.Sound.{within_counts, rules_sum, lost_sum, sound_counts}

pub record RulesWithin (m : ℕ) (r : ByRule) : Type 0 where
  pub first : r.first ≤ m
  pub second : r.second ≤ m
  pub third : r.third ≤ m
  pub fourth : r.fourth ≤ m

pub record LostWithin (m : ℕ) (l : Lost) : Type 0 where
  pub state : l.state ≤ m
  pub slot : l.slot ≤ m
  pub gap : l.gap ≤ m
  pub cal : l.cal ≤ m
  pub throttle : l.throttle ≤ m
  pub ruled : RulesWithin m l.rules

pub record CalWithin (m : ℕ) (c : Calibrations) : Type 0 where
  pub requested : c.requested ≤ m
  pub accepted : c.accepted ≤ m
  pub lost : c.lost ≤ m

pub record CountsWithin (m : ℕ) (c : Counts) : Type 0 where
  pub requested : c.requested ≤ m
  pub accepted : c.accepted ≤ m
  pub losses : LostWithin m c.lost
  pub calibrations : CalWithin m c.cal

pub within_read : (m : ℕ) (c : Counts) → within_counts m c ≡ true → CountsWithin m c
unfolding within_counts
within_read m c e = record {
  requested = grind arith;
  accepted = grind arith;
  losses = record {
    state = grind arith;
    slot = grind arith;
    gap = grind arith;
    cal = grind arith;
    throttle = grind arith;
    ruled = grind arith;
  };
  calibrations = grind arith;
}

-- sent and five losses sum up to at most six times m, the four rules to four times
pub lost_most : (m : ℕ) (c : Counts) → within_counts m c ≡ true → c.accepted + lost_sum c.lost ≤ 6 * m
lost_most m c e = omega (arith, within_read m c e)

pub rules_most : (m : ℕ) (c : Counts) → within_counts m c ≡ true → rules_sum c.lost.rules ≤ 4 * m
rules_most m c e = omega (arith, within_read m c e)

pub cal_most : (m : ℕ) (c : Counts) → within_counts m c ≡ true → c.cal.accepted + c.cal.lost ≤ 2 * m
cal_most m c e = omega (arith, within_read m c e)

-- r requests, of which s were sent
pub record Requests (m r s : ℕ) (l : Lost) : Type 0 where
  pub requested : r ≤ m
  pub accepted : s ≤ m
  pub lost : LostWithin m l
  pub balance : r ≡ s + lost_sum l
  pub throttled : l.throttle ≡ rules_sum l.rules

pub record Cals (m : ℕ) (c : Calibrations) : Type 0 where
  pub within : CalWithin m c
  pub balance : c.requested ≡ c.accepted + c.lost

-- the facts behind the test
pub record Balanced (m : ℕ) (c : Counts) : Type 0 where
  pub requests : Requests m c.requested c.accepted c.lost
  pub cals : Cals m c.cal

pub counts_read : (m : ℕ) (c : Counts) → sound_counts m c ≡ true → Balanced m c
unfolding sound_counts within_counts
counts_read m c e = record {
  requests = record {
    requested = grind arith;
    accepted = grind arith;
    lost = record {
      state = grind arith;
      slot = grind arith;
      gap = grind arith;
      cal = grind arith;
      throttle = grind arith;
      ruled = grind arith;
    };
    balance = grind arith;
    throttled = grind arith;
  };
  cals = record { within = grind arith; balance = grind arith };
}

counts_make : (m : ℕ) (c : Counts) → Balanced m c → sound_counts m c ≡ true
unfolding sound_counts within_counts
counts_make m c b = search (rules, tests)

-- ---- a request's fate

-- a request is sent only where no rule refuses
pub ruled_free : (rule : ℕ) → eqb (ruled rule) 0 ≡ eqb rule 0
ruled_free rule = grind arith

-- and a rule's cause names it
pub ruled_names : (rule r : ℕ) → rule ≤ 4 → 1 ≤ r → ruled rule ≡ CAL + r → rule ≡ r
ruled_names rule r few some e = grind arith

-- a fate is one of nine: sent, one of four causes, or one of the four rules
pub record Once (n : ℕ) : Type 0 where
  pub one_of : one (eqb n 0) + (one (eqb n 1) + (one (eqb n 2) + (one (eqb n 3) + (one (eqb n 4) + one (ltb CAL n))))) ≡ 1
  pub rule_of_lem : one (ltb CAL n) ≡ one (eqb n 5) + (one (eqb n 6) + (one (eqb n 7) + one (eqb n 8)))

pub fate_once : (g : Gap) (number s : ℕ) (own busy : Bool) (rule : ℕ) → Once (fate_of g number s own busy rule)
unfolding fate_of
fate_once g number s own busy rule = record { one_of = grind arith; rule_of_lem = grind arith }

module _ (m : ℕ) where
  request_keeps : (asked : Bool) (fate : ℕ) (c : Counts) → Once fate → Requests m c.requested c.accepted c.lost
      → let r = requested_of asked fate c in Requests (m + 1) r.requested r.accepted r.lost
  unfolding requested_of lost_to ruled_to
  request_keeps true fate c o s = omega arith
  request_keeps false fate c o s = omega arith

  cal_keeps : (asks free : Bool) (c : Calibrations) → Cals m c → Cals (m + 1) (calibrated_of asks free c)
  unfolding calibrated_of
  cal_keeps true true c s = omega arith
  cal_keeps true false c s = omega arith
  cal_keeps false free c s = omega arith

  pub counted_sound : (asked : Bool) (fate : ℕ) (asks free : Bool) (c : Counts) → Once fate → sound_counts m c ≡ true
      → sound_counts (m + 1) (counted_of asked fate asks free c) ≡ true
  counted_sound asked fate asks free c o e =
      let b = counts_read m c e in
      counts_make (m + 1) (counted_of asked fate asks free c)
      (record { requests = request_keeps asked fate c o b.requests; cals = cal_keeps asks free c.cal b.cals })

  pub none_sound : sound_counts m no_counts ≡ true
  none_sound = counts_make m no_counts (omega arith)
