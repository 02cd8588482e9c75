-- `report::put_block` meets its contract: the lines of the block's values are laid.
-- Which lines these are is the law of a block.
use mathlib.Core.Path.{sym, ap, ◌∙◌}
use native.Mathlib.Omega.{arith}
use lib.ListN.{length}
use Rattle.report.proofs.Laws.{block_is}
use Rattle.report.proofs.put_block.Goals as goal

pub put_lines-requires : goal.put_lines-requires
put_lines-requires c =
    let a = c.args in
    omega (arith, ap length (block_is a.s.now a.k a.ptc.now (sym c.has_block.ensures ∙ c.if-not-has_block.false) _ c.block_values.ensures))

pub returns : goal.returns
returns c =
    let a = c.args in
    rw (block_is a.s.now a.k a.ptc.now (sym c.has_block.ensures ∙ c.if-not-has_block.false) _ c.block_values.ensures) c.put_lines.ensures
