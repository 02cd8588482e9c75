-- `settings::Settings::test_relations` meets its contract: the tests in their order, of which the first that fails decides.
-- Each way out opens the definition as far as the tests that led there.
use mathlib.Core.Path.{◌≡◌, sym, ◌∙◌}
use mathlib.Core.Bool.{true, false}
use Prim.Native.Nat.{ℕ}
use lib.Dec.{ltb}
use Rattle.answer.specs.Told.{DONE, RELATION}
use Rattle.laws.specs.Base.{first_not}
use Rattle.settings.specs.declared.Settings.{Settings}
use Rattle.settings.specs.Names.{orbit_of, gap_of, schedule_of, rules_of, times_of}
use Rattle.settings.specs.Relations.{below, distinct, gap_inside, cycle_in_order, lows_fit, relation, related}
use Rattle.settings.proofs.Found.{is_place, no_place}
use Rattle.settings.proofs.Settings.test_relations.Goals as goal

abbrev late : Settings → ℕ
late s = first_not (λ k. below (orbit_of s) (times_of s k)) 8 0

abbrev doubled : Settings → ℕ
doubled s = first_not (λ k. distinct (times_of s k)) 8 0

abbrev disordered : Settings → ℕ
disordered s = first_not (λ k. cycle_in_order (schedule_of s k)) 8 0

module _ (s : Settings) where
  first : gap_inside (gap_of s) (orbit_of s) ≡ false → RELATION 1 0 ≡ related (relation s)
  unfolding relation
  first e = rw e

  module _ (one : gap_inside (gap_of s) (orbit_of s) ≡ true) where
    second : ltb (late s) 8 ≡ true → RELATION 2 (late s) ≡ related (relation s)
    unfolding relation
    second e = rw (one, e)

    module _ (two : ltb (late s) 8 ≡ false) where
      third : ltb (doubled s) 8 ≡ true → RELATION 3 (doubled s) ≡ related (relation s)
      unfolding relation
      third e = rw (one, two, e)

      module _ (three : ltb (doubled s) 8 ≡ false) where
        fourth : ltb (disordered s) 8 ≡ true → RELATION 4 (disordered s) ≡ related (relation s)
        unfolding relation
        fourth e = rw (one, two, three, e)

        module _ (four : ltb (disordered s) 8 ≡ false) where
          fifth : lows_fit (rules_of s) ≡ false → RELATION 5 0 ≡ related (relation s)
          unfolding relation
          fifth e = rw (one, two, three, four, e)

          none : lows_fit (rules_of s) ≡ true → DONE ≡ related (relation s)
          unfolding relation
          none e = rw (one, two, three, four, e)

pub returns-then-not-is_inside : goal.returns-then-not-is_inside
returns-then-not-is_inside c =
    first c.args.self.now (rw (c.gap.ensures, c.orbit.ensures) at (sym c.is_inside.ensures) ∙ c.if-not-is_inside.true)

pub returns-in-Some : goal.returns-in-Some
returns-in-Some c =
    let one = rw (c.gap.ensures, c.orbit.ensures) at (sym c.is_inside.ensures) ∙ c.if-not-is_inside.false in
    let found = is_place _ _ c.first_late.ensures _ c.in-Some.is in
    rw (← found.1) (second c.args.self.now one found.0)

pub returns-in-Some-first_doubled : goal.returns-in-Some-first_doubled
returns-in-Some-first_doubled c =
    let one = rw (c.gap.ensures, c.orbit.ensures) at (sym c.is_inside.ensures) ∙ c.if-not-is_inside.false in
    let two = no_place _ _ c.first_late.ensures c.in_default.not-Some in
    let found = is_place _ _ c.first_doubled.ensures _ c.in-Some-first_doubled.is in
    rw (← found.1) (third c.args.self.now one two found.0)

pub returns-in-Some-first_disordered : goal.returns-in-Some-first_disordered
returns-in-Some-first_disordered c =
    let one = rw (c.gap.ensures, c.orbit.ensures) at (sym c.is_inside.ensures) ∙ c.if-not-is_inside.false in
    let two = no_place _ _ c.first_late.ensures c.in_default.not-Some in
    let three = no_place _ _ c.first_doubled.ensures c.in_default-first_doubled.not-Some in
    let found = is_place _ _ c.first_disordered.ensures _ c.in-Some-first_disordered.is in
    rw (← found.1) (fourth c.args.self.now one two three found.0)

pub returns-then-not-lows_fit : goal.returns-then-not-lows_fit
returns-then-not-lows_fit c =
    let one = rw (c.gap.ensures, c.orbit.ensures) at (sym c.is_inside.ensures) ∙ c.if-not-is_inside.false in
    let two = no_place _ _ c.first_late.ensures c.in_default.not-Some in
    let three = no_place _ _ c.first_doubled.ensures c.in_default-first_doubled.not-Some in
    let four = no_place _ _ c.first_disordered.ensures c.in_default-first_disordered.not-Some in
    fifth c.args.self.now one two three four (rw c.rules.ensures at (sym c.lows_fit.ensures) ∙ c.if-not-lows_fit.true)

pub returns : goal.returns
returns c =
    let one = rw (c.gap.ensures, c.orbit.ensures) at (sym c.is_inside.ensures) ∙ c.if-not-is_inside.false in
    let two = no_place _ _ c.first_late.ensures c.in_default.not-Some in
    let three = no_place _ _ c.first_doubled.ensures c.in_default-first_doubled.not-Some in
    let four = no_place _ _ c.first_disordered.ensures c.in_default-first_disordered.not-Some in
    none c.args.self.now one two three four (rw c.rules.ensures at (sym c.lows_fit.ensures) ∙ c.if-not-lows_fit.false)
