-- What was read out is what is printed of the files: both parts are the law of the laid read-out.
use Rattle.desk_history.proofs.Laws.{laid_long, laid_are}
use Rattle.desk_history.proofs.lay_history.Goals as goal

pub returns : goal.returns
returns c =
    let w = c.read in
    let n = c.read_length in (
      laid_long c.args.input c.args.store.now c.requires.0 c.args.out.now _ c.requires.1 w.result w.ensures n.result n.ensures,
      laid_are c.args.input c.args.store.now c.requires.0 c.args.out.now _ c.requires.1 w.result w.ensures n.result n.ensures,
    )
