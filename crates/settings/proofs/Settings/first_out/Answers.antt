-- `settings::Settings::first_out` meets its contract: the ranges that are left decide as all do.
-- A turn is the law of one line; the first value out of range ends the loop with its line.
use mathlib.Core.Path.{refl, sym, ◌∙◌}
use Prim.Native.Nat.{◌+◌}
use native.Mathlib.Omega.{arith}
use borrow.Author.Rules.{rules}
use Rattle.settings.specs.Check.{out_of_range}
use Rattle.settings.proofs.Found.{line_here, line_nowhere}
use Rattle.settings.proofs.Ranges.{range_here, range_later, range_none}
use Rattle.settings.proofs.Settings.first_out.Goals as goal

pub loop-n-init : goal.loop-n-init
loop-n-init c = refl

pub returns-then-not-holds : goal.returns-then-not-holds
unfolding out_of_range
returns-then-not-holds c =
    let out = range_here _ _ (search rules) (omega arith) _ c.range.ensures.0 (sym c.holds.ensures ∙ c.if-not-holds.true) in
    line_here (c.loop-n.n + 2) _ (omega arith) (c.loop-n.invariant ∙ out)

pub loop-n-preserved : goal.loop-n-preserved
loop-n-preserved c =
    c.loop-n.invariant ∙ range_later _ _ (search rules) (omega arith) _ c.range.ensures.0 (sym c.holds.ensures ∙ c.if-not-holds.false)

pub returns : goal.returns
unfolding out_of_range
returns c = line_nowhere _ (c.loop-n.invariant ∙ range_none _ _ _ (omega arith))
