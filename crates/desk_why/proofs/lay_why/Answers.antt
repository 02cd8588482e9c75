-- The answer's lines are laid, and where a log is refused the block's line behind them. All of them fit the buffer.
use Rattle.std.proofs.Common.{arith}
use Rattle.answer.specs.Told.{told}
use Rattle.desk_why.proofs.Laws.{block_laid}
use Rattle.desk_why.proofs.lay_why.Goals as goal

pub returns : goal.returns
returns c =
    let w = c.put_answer-n in
    let v = c.put_block in
    let laid =
    block_laid (told c.args.a) c.args.block c.args.text.now _ _ w.ensures.0 w.ensures.1 c.args.refuses c.if-not-refuses.false _ _
    (omega (arith, w.ensures.2, c.requires)) v.ensures.0 v.ensures.1 in
    (omega (arith, w.ensures.2, w.auto.out, v.ensures.2, v.auto.out, c.requires), laid.0, laid.1)
