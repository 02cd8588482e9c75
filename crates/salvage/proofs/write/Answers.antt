-- `salvage::write` meets its contract: before a turn what the parts so far give is laid at the front of either buffer.
-- A turn is one part more (`parts_on`, `list_on`); what all parts need bounds what those so far do.
use native.Mathlib.Omega.{arith}
use Rattle.records.proofs.Chunks.{start, turn}
use Rattle.salvage.specs.Mending.{salvaged_parts}
use Rattle.salvage.specs.Changes.{changes_over, list_text}
use Rattle.salvage.proofs.Laws.{laid_none, laid_on, front_is}
use Rattle.salvage.proofs.Turns.{parts_on, list_on, inside, parts_room, list_room}
use Rattle.salvage.proofs.write.Goals as goal

pub loop-i-init : goal.loop-i-init
unfolding salvaged_parts changes_over list_text
loop-i-init c =
    let from = c.enumerate-i-items.ensures in
    let s = start 24 c.args.log.now _ _ _ c.chunks.ensures.size c.chunks.ensures.rest from.source from.count c.into_iter-i-iterator.ensures.into_iter_gives in
    (s.0, rw s.1 (omega arith), rw s.1 (laid_none _ _), rw s.1 (laid_none _ _))

pub put_part-kept-requires : goal.put_part-kept-requires
put_part-kept-requires c =
    let t = turn 24 c.args.log.now _ _ _ _ _ c.loop-i.invariant.0 c.next.ensures.steps c.in-Some.is in
    omega (arith, c.requires.log_room, parts_room c.args.first _ _ _ _ _ t, c.loop-i.invariant.2.0, c.loop-i.auto.salvaged)

pub put_bytes-list-requires : goal.put_bytes-list-requires
put_bytes-list-requires c =
    let t = turn 24 c.args.log.now _ _ _ _ _ c.loop-i.invariant.0 c.next.ensures.steps c.in-Some.is in
    let entries = front_is _ _ _ _ c.put_changes-n.ensures.laid in
    rw entries (omega (arith, c.requires.list_room, list_room c.args.first _ _ _ _ _ t, c.loop-i.invariant.3.0, c.loop-i.auto.changes))

pub loop-i-preserved : goal.loop-i-preserved
loop-i-preserved c =
    let l = c.loop-i in
    let t = turn 24 c.args.log.now _ _ _ _ _ l.invariant.0 c.next.ensures.steps c.in-Some.is in
    let entries = front_is _ _ _ _ c.put_changes-n.ensures.laid in (
      t.left,
      inside c.args.first _ _ _ _ _ t,
      rw (parts_on c.args.first _ _ _ _ _ t) (laid_on _ _ _ _ _ _ _ _ (omega (arith, c.requires.log_room, parts_room c.args.first _ _ _ _ _ t)) l.invariant.2 c.put_part-kept.ensures),
      rw (list_on c.args.first _ _ _ _ _ t) (laid_on _ _ _ _ _ _ _ _ (omega (arith, c.requires.list_room, list_room c.args.first _ _ _ _ _ t)) l.invariant.3 (rw entries at c.put_bytes-list.ensures)),
    )
