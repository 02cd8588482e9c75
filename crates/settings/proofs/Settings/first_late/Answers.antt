-- `settings::Settings::first_late` meets its contract: a loop that stops at the first controller whose numbers are not all below the orbit.
-- The laws of `first_not`, with what the calls ensure.
use mathlib.Core.Path.{sym, ◌∙◌}
use native.Mathlib.Omega.{arith}
use Rattle.laws.proofs.First.{first_start, first_next}
use Rattle.settings.proofs.Found.{found_here, found_none}
use Rattle.settings.proofs.Settings.first_late.Goals as goal

pub loop-k-init : goal.loop-k-init
loop-k-init c = first_start _ _

pub returns-then-not-are_below : goal.returns-then-not-are_below
returns-then-not-are_below c =
    found_here _ _ c.loop-k.invariant (omega arith) (rw (c.times.ensures, c.orbit.ensures) at (sym c.are_below.ensures) ∙ c.if-not-are_below.true)

pub loop-k-preserved : goal.loop-k-preserved
loop-k-preserved c =
    first_next _ 8 _ (omega arith) (rw (c.times.ensures, c.orbit.ensures) at (sym c.are_below.ensures) ∙ c.if-not-are_below.false) c.loop-k.invariant

pub returns : goal.returns
returns c = found_none _ _ c.loop-k.invariant (omega arith)
