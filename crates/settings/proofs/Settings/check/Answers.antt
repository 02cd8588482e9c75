-- `settings::Settings::check` meets its contract: the first fault by its number, ranges before relations.
-- Each way is one law of the check.
use mathlib.Core.Path.{refl, ◌∙◌}
use native.Mathlib.Omega.{arith}
use Rattle.settings.proofs.Found.{is_line, no_line}
use Rattle.settings.proofs.Ranges.{range_told, relation_told}
use Rattle.settings.proofs.Settings.check.Goals as goal

pub returns-in-Some : goal.returns-in-Some
returns-in-Some c =
    let w = is_line _ _ c.first_out.ensures _ c.in-Some.is in
    rw (← w.1) (range_told c.args.self.now _ refl w.0)

pub test_relations-requires : goal.test_relations-requires
test_relations-requires c =
    let none = no_line _ _ c.first_out.ensures c.in_default.not-Some in
    omega arith

pub returns : goal.returns
returns c =
    c.test_relations.ensures ∙ relation_told c.args.self.now _ refl (no_line _ _ c.first_out.ensures c.in_default.not-Some) _ refl
