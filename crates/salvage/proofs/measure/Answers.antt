-- `salvage::measure` meets its contract: before a turn both lengths are those of the parts so far, the list's at most the greatest number.
-- A turn is one part more (`parts_on`, `list_on`).
use native.Mathlib.Omega.{arith}
use lib.ListN.{length-append}
use Rattle.records.proofs.Chunks.{start, turn}
use Rattle.salvage.specs.Mending.{salvaged_parts}
use Rattle.salvage.specs.Changes.{changes_over, list_text}
use Rattle.salvage.proofs.Turns.{parts_on, list_on, inside}
use Rattle.salvage.proofs.measure.Goals as goal

pub loop-i-init : goal.loop-i-init
unfolding salvaged_parts changes_over list_text
loop-i-init c =
    let from = c.enumerate-i-items.ensures in
    let s = start 24 c.args.log.now _ _ _ c.chunks.ensures.size c.chunks.ensures.rest from.source from.count c.into_iter-i-iterator.ensures.into_iter_gives in
    (s.0, rw s.1 (omega arith), rw s.1, omega arith, rw s.1)

pub loop-i-preserved : goal.loop-i-preserved
loop-i-preserved c =
    let l = c.loop-i in
    let t = turn 24 c.args.log.now _ _ _ _ _ l.invariant.0 c.next.ensures.steps c.in-Some.is in
    let kept = c.kept_length.ensures in (
      t.left,
      inside c.args.first _ _ _ _ _ t,
      rw (parts_on c.args.first _ _ _ _ _ t, length-append) (omega (arith, l.invariant.2, kept.kept)),
      omega (arith, l.invariant.3, kept.short, t.place, t.on),
      rw (list_on c.args.first _ _ _ _ _ t, length-append) (omega (arith, l.invariant.4, c.put_changes-n.ensures.laid.0, c.saturating_add.ensures)),
    )
