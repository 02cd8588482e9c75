-- `clock::next_with_slot` meets its contract: the search over those that are left finds what the whole search does.
-- A turn, a find and the end are laws of the search.
use mathlib.Core.Path.{refl, sym, ◌∙◌}
use native.Mathlib.Omega.{arith}
use Rattle.clock.proofs.Found.{goes_on, stops, ends}
use Rattle.clock.proofs.next_with_slot.Goals as goal

pub loop-left-init : goal.loop-left-init
loop-left-init c = (refl, refl)

pub returns-then-slots-k-gt0 : goal.returns-then-slots-k-gt0
returns-then-slots-k-gt0 c =
    let slots = c.args.slots.now in
    sym (c.loop-left.invariant.1 ∙ stops slots c.loop-left.i c.loop-left.left c.loop-left-test.true c.if-slots-k-gt0.true)

pub loop-left-preserved : goal.loop-left-preserved
loop-left-preserved c =
    let slots = c.args.slots.now in
    (omega arith, c.loop-left.invariant.1 ∙ goes_on slots c.loop-left.i c.loop-left.left c.loop-left-test.true c.if-slots-k-gt0.false)

pub returns : goal.returns
returns c =
    let slots = c.args.slots.now in
    sym (c.loop-left.invariant.1 ∙ ends slots c.loop-left.i c.loop-left.left c.loop-left-test.false)
