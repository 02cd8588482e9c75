-- Rules 1 to 4 as instances of the window fact: what `free` allowed is what each rule keeps, under normal limits and under low ones.
-- The ring's count is the list's, so a rule that allowed a mark is the clause of `Kept` for it.
use mathlib.Core.Path.{◌≡◌, sym, ◌∙◌}
use mathlib.Core.Bool.{Bool, true, false}
use mathlib.Core.List.{List, ◌∷◌}
use Prim.Native.Nat.{ℕ, ◌+◌, ◌-◌, ◌≤◌, ◌<◌}
use native.Mathlib.Omega.{arith}
use borrow.Author.Tests.{leb-true}
use lib.ListN.{get_or, drop}
use Rattle.laws.proofs.All.{all_get}
use Rattle.settings.specs.declared.names.Rule.{Rule}
use Rattle.settings.specs.declared.names.Rules.{Rules}
use Rattle.throttle.specs.Marks.{among}
use Rattle.throttle.specs.Rules.{rules_list, spacing_rule, limit_of, allows, refused_by, free}
use Rattle.throttle.specs.Windows.{count_of, Kept, Tells, allows_after, refused_after}
use Rattle.throttle.proofs.Refuser.{refuser_same, refuser_none}
use Rattle.throttle.proofs.Windows.{window, window_low, tells_count}

-- a rule as the window fact has it, and checked settings have it
pub record Plain (r : Rule) : Type 0 where
  pub some : 0 < r.period
  pub near : r.period ≤ 2047
  pub order : r.low ≤ r.norm

-- a free trigger is allowed by each of the four rules
pub free_allows : (r : Rules) (ws : List ℕ) (n : ℕ) (warn : Bool) → free r ws n warn ≡ true
    → (k : ℕ) → k < 4 → allows ws n warn (get_or (rules_list r) k (spacing_rule r)) ≡ true
free_allows r ws n warn e k h =
    all_get (allows ws n warn) (rules_list r) k (spacing_rule r) (sym (refuser_none (allows ws n warn) 1 (rules_list r) (omega arith)) ∙ e) h

-- ---- the rules over a ring are the rules over a list that tells the same

allows_told : (ws : List ℕ) (n : ℕ) (ms : List ℕ) → Tells ws n ms → (warn : Bool) (r : Rule) → r.period ≤ 2047 → allows ws n warn r ≡ allows_after ms warn r
unfolding allows
allows_told ws n ms t warn r h = rw (tells_count ws n ms t (r.period - 1) (omega (arith, h)))

-- no period is longer than the ring
pub record Near (r : Rules) : Type 0 where
  pub one : (spacing_rule r).period ≤ 2047
  pub two : r.second.period ≤ 2047
  pub three : r.third.period ≤ 2047
  pub four : r.fourth.period ≤ 2047

-- the same rule refuses
pub refused_told : (r : Rules) → Near r → (ws : List ℕ) (n : ℕ) (ms : List ℕ) → Tells ws n ms → (warn : Bool) → refused_by r ws n warn ≡ refused_after r ms warn
refused_told r near ws n ms t warn =
    refuser_same (allows ws n warn) (allows_after ms warn) 1 (rules_list r) (
      allows_told ws n ms t warn (spacing_rule r) near.one,
      (
        allows_told ws n ms t warn r.second near.two,
        (allows_told ws n ms t warn r.third near.three, (allows_told ws n ms t warn r.fourth near.four, tt)),
      ),
    )

-- ---- what a rule keeps

module _ (r : Rule) (plain : Plain r) (ws : List ℕ) (n : ℕ) (ms : List ℕ) (tells : Tells ws n ms) (warn : Bool) where
  counted : allows ws n warn r ≡ true → count_of (r.period - 1) ms + 1 ≤ limit_of r warn
  unfolding allows
  counted e =
      let same = tells_count ws n ms tells (r.period - 1) (omega (arith, plain.near)) in
      rw same at (leb-true (among ws n (r.period - 1) + 1) (limit_of r warn) e)

  -- a mark that the rule allowed joins what the rule keeps
  pub kept_on : (x : ℕ) → x ≤ 1 → (x ≡ 1 → allows ws n warn r ≡ true) → Kept (r.period - 1) r.norm ms → Kept (r.period - 1) r.norm (x ∷ ms)
  kept_on x bit free kept = (bit, (λ (e : x ≡ 1). omega (arith, counted (free e), limit_le warn)), kept)
    where
      limit_le : (w : Bool) → limit_of r w ≤ r.norm
      limit_le true = plain.order
      limit_le false = omega arith

-- over the whole list, no stretch of the rule's period holds more than its normal limit
pub rule_window : (r : Rule) → Plain r → (ms : List ℕ) → Kept (r.period - 1) r.norm ms → (from : ℕ) → count_of r.period (drop from ms) ≤ r.norm
rule_window r plain ms kept from =
    let e : r.period - 1 + 1 ≡ r.period = omega (arith, plain.some) in
    rw e at (window (r.period - 1) r.norm ms kept from)

-- the period that ends with a trigger sent under warning holds at most the low limit
pub rule_low : (r : Rule) → Plain r → (ws : List ℕ) (n : ℕ) (ms : List ℕ) → Tells ws n ms → allows ws n true r ≡ true → count_of r.period (1 ∷ ms) ≤ r.low
rule_low r plain ws n ms tells e =
    let p : r.period - 1 + 1 ≡ r.period = omega (arith, plain.some) in
    rw p at (window_low (r.period - 1) r.low ms (counted r plain ws n ms tells true e))
