-- What was written is the text of the settings, which fits: both parts are laws of the laid text.
use Rattle.desk_edition.proofs.Laws.{laid_long, laid_are}
use Rattle.desk_edition.proofs.lay_text.Goals as goal

pub returns : goal.returns
returns c =
    let w = c.write_text in
    let n = c.text_length in (
      laid_long c.args.s.now c.requires.0 c.args.text.now _ c.requires.1 w.result w.ensures n.result n.ensures,
      laid_are c.args.s.now c.requires.0 c.args.text.now _ c.requires.1 w.result w.ensures n.result n.ensures,
    )
