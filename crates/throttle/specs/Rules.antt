-- Document 01, "Throttle": the four rules, each a period of crossings and the triggers that it may hold, this crossing's among them.
use Rattle.std.specs.Prelude.{ℕ, suc, ◌+◌, ◌-◌, ◌^◌, ◌<◌, Bool, List, [], ◌∷◌, leb, eqb}
use Rattle.laws.specs.Base.{if}
use Rattle.settings.specs.declared.names.Rule.{Rule}
use Rattle.settings.specs.declared.names.Rules.{Rules}
use Rattle.throttle.specs.Marks.{among}

-- rule 1 reads as period r1_gap + 1 with both limits 1
abbrev pub spacing_rule : Rules → Rule
spacing_rule r = record { period = r.spacing + 1; norm = 1; low = 1 }

abbrev pub rules_list : Rules → List Rule
rules_list r = spacing_rule r ∷ r.second ∷ r.third ∷ r.fourth ∷ []

-- READY uses normal limits, WARN low ones
abbrev pub limit_of : Rule → Bool → ℕ
limit_of r warn = if warn r.low r.norm

-- after n crossings: the triggers of the period - 1 crossings before, plus this one, do not exceed the limit
unfoldable pub allows : (ws : List ℕ) (n : ℕ) (warn : Bool) (r : Rule) → Bool
allows ws n warn r = leb (among ws n (r.period - 1) + 1) (limit_of r warn)

-- the number of the first rule that fails the test, the list's first being number n; 0 where none fails
unfoldable pub refuser : (Rule → Bool) → ℕ → List Rule → ℕ
refuser allow n [] = 0
refuser allow n (r ∷ rules) = if (allow r) (refuser allow (suc n) rules) n

-- document 02, P5: the throttle's answer is the first refusing rule, 1 to 4; 0 says free
abbrev pub refused_by : (r : Rules) (ws : List ℕ) (n : ℕ) (warn : Bool) → ℕ
refused_by r ws n warn = refuser (allows ws n warn) 1 (rules_list r)

-- a trigger is free: not refused by any of the four rules
abbrev pub free : (r : Rules) (ws : List ℕ) (n : ℕ) (warn : Bool) → Bool
free r ws n warn = eqb (refused_by r ws n warn) 0

-- what of checked settings the arithmetic needs
pub record Sensible (r : Rules) : Type 0 where
  pub spacing : r.spacing + 1 < 2 ^ 32
  pub second : 0 < r.second.period
  pub third : 0 < r.third.period
  pub fourth : 0 < r.fourth.period
