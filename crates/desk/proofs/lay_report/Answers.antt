-- What was written is the report, which fits: both parts are laws of the laid text.
use Rattle.desk.proofs.Laws.{laid_long, laid_are}
use Rattle.desk.proofs.lay_report.Goals as goal

pub returns : goal.returns
returns c =
    let w = c.write in
    let n = c.text_length in (
      laid_long c.args.board.now c.requires.0 c.args.text.now _ c.requires.1 w.result w.ensures n.result n.ensures,
      laid_are c.args.board.now c.requires.0 c.args.text.now _ c.requires.1 w.result w.ensures n.result n.ensures,
    )
