-- What each way through the four rules says of the first that refuses: its number, and 0 where none does.
-- By opening the list of rules as far as it was looked at.
use mathlib.Core.Path.{◌≡◌, sym, ◌∙◌}
use mathlib.Core.Bool.{Bool, true, false, false≢true}
use mathlib.Core.List.{List}
use Prim.Native.Nat.{ℕ, ◌+◌, ◌-◌, ◌≤◌}
use native.Mathlib.Omega.{arith}
use borrow.Author.Tests.{lt-leb}
use Rattle.settings.specs.declared.names.Rule.{Rule}
use Rattle.settings.specs.declared.names.Rules.{Rules}
use Rattle.throttle.specs.Marks.{among}
use Rattle.throttle.specs.Rules.{rules_list, spacing_rule, limit_of, allows, refuser, refused_by}
use Rattle.throttle.proofs.Refuser.{refuser_most, refuser_fails}

-- no trigger at all is within a limit of 0
pub closed : (ws : List ℕ) (n : ℕ) (warn : Bool) (rule : Rule) → limit_of rule warn ≡ 0 → allows ws n warn rule ≡ false
unfolding allows
closed ws n warn rule e = rw (e, lt-leb (among ws n (rule.period - 1) + 1) 0 (omega arith))

module _ (r : Rules) (ws : List ℕ) (n : ℕ) (warn : Bool) where
  -- four rules
  pub one_of_four : refused_by r ws n warn ≤ 4
  one_of_four = omega (arith, refuser_most (allows ws n warn) 1 (rules_list r) (omega arith))

  pub first_refuses : allows ws n warn (spacing_rule r) ≡ false → 1 ≡ refused_by r ws n warn
  unfolding refuser
  first_refuses e = rw e

  module _ (first : allows ws n warn (spacing_rule r) ≡ true) where
    pub first_passes : refused_by r ws n warn ≡ 1 → ⊥
    first_passes e = false≢true (sym (refuser_fails (allows ws n warn) 1 (rules_list r) (spacing_rule r) 0 (omega arith) e) ∙ first)

    pub second_refuses : allows ws n warn r.second ≡ false → 2 ≡ refused_by r ws n warn
    unfolding refuser
    second_refuses e = rw (first, e)

    module _ (second : allows ws n warn r.second ≡ true) where
      pub third_refuses : allows ws n warn r.third ≡ false → 3 ≡ refused_by r ws n warn
      unfolding refuser
      third_refuses e = rw (first, second, e)

      module _ (third : allows ws n warn r.third ≡ true) where
        pub fourth_refuses : allows ws n warn r.fourth ≡ false → 4 ≡ refused_by r ws n warn
        unfolding refuser
        fourth_refuses e = rw (first, second, third, e)

        pub none_refuses : allows ws n warn r.fourth ≡ true → 0 ≡ refused_by r ws n warn
        unfolding refuser
        none_refuses e = rw (first, second, third, e)
