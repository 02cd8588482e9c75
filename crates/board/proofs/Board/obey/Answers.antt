-- `board::Board::obey` meets its contract: the controller that the record names is changed as the command says.
-- The laws of a command, with what the call ensures.
use native.Mathlib.Omega.{arith}
use Rattle.board.proofs.Turn.{named, obeyed}
use Rattle.board.proofs.Board.obey.Goals as goal

pub bounds-self-rec : goal.bounds-self-rec
bounds-self-rec c =
    let a = c.args in
    let naming = named a.self.now a.kit.now a.rec.now c.requires.0 c.requires.2 c.requires.3 in
    omega (arith, naming)

pub returns : goal.returns
returns c =
    let a = c.args in
    obeyed a.self.now a.kit.now a.rec.now c.requires.0 c.requires.2 c.requires.3 _ _ _ c.command-taken.ensures.ptc c.command-taken.ensures.taken c.command_row.ensures
