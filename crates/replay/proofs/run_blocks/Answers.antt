-- `replay::run_blocks` meets its contract: a log without a block leaves everything as it was, any other is tested first and then run.
-- That this is what its blocks do in turn is the law `tested_first`.
use mathlib.Core.Path.{sym, ◌∙◌}
use borrow.Author.Rules.{rules}
use Rattle.replay.proofs.TestedFirst.{empty_log, tested_first}
use Rattle.replay.proofs.run_blocks.Goals as goal

pub returns-then-is_empty : goal.returns-then-is_empty
returns-then-is_empty c = let a = c.args in sym (empty_log a.board.now a.log.now a.rows.now (search rules))

pub returns : goal.returns
returns c =
    let a = c.args in
    c.blocks-2.ensures ∙ tested_first a.board.now a.log.now a.rows.now c.eight.ensures.0 c.eight.ensures.1 (search rules)
