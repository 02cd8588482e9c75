-- `settings::Settings::first_disordered` meets its contract: a loop that stops at the first controller whose cycle is out of order.
-- The laws of `first_not`, with what the two calls ensure.
use mathlib.Core.Path.{sym, ap, ◌∙◌}
use native.Mathlib.Omega.{arith}
use Rattle.laws.proofs.First.{first_start, first_next}
use Rattle.settings.proofs.Found.{found_here, found_none}
use Rattle.settings.specs.Relations.{cycle_in_order}
use Rattle.settings.proofs.Settings.first_disordered.Goals as goal

pub loop-k-init : goal.loop-k-init
loop-k-init c = first_start _ _

pub returns-then-not-cycle_in_order : goal.returns-then-not-cycle_in_order
returns-then-not-cycle_in_order c =
    found_here _ _ c.loop-k.invariant (omega arith) (sym (c.cycle_in_order.ensures ∙ ap cycle_in_order c.schedule.ensures) ∙ c.if-not-cycle_in_order.true)

pub loop-k-preserved : goal.loop-k-preserved
loop-k-preserved c =
    first_next _ 8 _ (omega arith) (sym (c.cycle_in_order.ensures ∙ ap cycle_in_order c.schedule.ensures) ∙ c.if-not-cycle_in_order.false) c.loop-k.invariant

pub returns : goal.returns
returns c = found_none _ _ c.loop-k.invariant (omega arith)
