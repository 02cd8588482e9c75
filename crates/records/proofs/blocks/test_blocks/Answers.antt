-- `records::test_blocks` meets its contract: none of the blocks before a turn was refused, and their crossings are counted.
-- A turn and a refusal are each one law of the blocks.
use mathlib.Core.Path.{◌∙◌}
use Rattle.answer.proofs.Told.{is_err_told}
use Rattle.records.proofs.Chunks.{start, turn}
use Rattle.records.proofs.Testing.{none_gone, gone_until, gone_on}
use Rattle.records.proofs.Listed.{crossings_listed}
use Rattle.records.proofs.blocks.test_blocks.Goals as goal

pub loop-i-init : goal.loop-i-init
loop-i-init c =
    let from = c.enumerate-i-items.ensures in
    let s = start 1536 c.args.log.now _ _ _ c.chunks.ensures.size c.chunks.ensures.rest from.source from.count c.into_iter-i-iterator.ensures.into_iter_gives in
    (s.0, rw s.1 (none_gone _ _ _ c.requires))

pub returns-then-refused : goal.returns-then-refused
returns-then-refused c =
    let t = turn 1536 c.args.log.now _ _ _ _ _ c.loop-i.invariant.0 c.next.ensures.steps c.in-Some.is in
    gone_until _ _ _ _ _ _ _ _ t c.loop-i.invariant.1 _ c.test_block-answer.ensures (rw (is_err_told, ← c.if-refused.ensures.value))

pub loop-i-preserved : goal.loop-i-preserved
loop-i-preserved c =
    let t = turn 1536 c.args.log.now _ _ _ _ _ c.loop-i.invariant.0 c.next.ensures.steps c.in-Some.is in
    let counted = c.crossings_in-crossings.ensures ∙ crossings_listed c.in-Some.block.now _ c.as_chunks.ensures.front in
    (t.left, gone_on _ _ _ _ _ _ _ _ t c.loop-i.invariant.1 _ c.test_block-answer.ensures (rw (is_err_told, ← c.if-refused.ensures.value)) _ counted)
