-- `board::Board::run` meets its contract: before record i the board is the one after the records before it.
-- A turn is one record more.
use Rattle.board.proofs.Turn.{Stands}
use Rattle.board.proofs.Board.run.Given as goal

abbrev pub invariant-loop-i : goal.invariant-loop-i
invariant-loop-i l = Stands l.initial.self l.log l.initial.rows l.kit l.self l.rows l.watch l.i
