-- `report::block_length` meets its contract: the lines of the block's values, which the law of a block tells.
-- Seventeen lines are not long.
use mathlib.Core.Path.{sym, ap, ◌∙◌}
use native.Mathlib.Omega.{arith}
use lib.ListN.{length}
use Rattle.report.proofs.Laws.{block_is}
use Rattle.report.proofs.block_length.Goals as goal

pub returns : goal.returns
returns c =
    let a = c.args in
    omega (arith, ap length (block_is a.s.now a.k a.ptc.now (sym c.has_block.ensures ∙ c.if-not-has_block.false) _ c.block_values.ensures))
