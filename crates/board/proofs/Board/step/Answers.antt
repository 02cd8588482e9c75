-- `board::Board::step` meets its contract: byte 0 tells a crossing from a command.
-- Each way is the call that it makes.
use borrow.Author.Tests.{eq-eqb, ne_eqb}
use Rattle.board.proofs.Turn.{watches_obeyed}
use Rattle.board.proofs.Board.step.Goals as goal

pub cross-requires : goal.cross-requires
cross-requires c = (c.requires, eq-eqb _ _ c.if-rec-eq0.true)

pub obey-requires : goal.obey-requires
obey-requires c = (c.requires.made, c.requires.long, c.requires.formed, ne_eqb _ _ c.if-rec-eq0.false)

pub returns : goal.returns
returns c =
    let e = c.obey.ensures in
    (e.0, e.1, watches_obeyed _ _ _ c.args.watch.now c.args.rec.now (ne_eqb _ _ c.if-rec-eq0.false) e.0 c.requires.watched)
