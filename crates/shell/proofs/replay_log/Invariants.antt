-- The board so far is that of the pieces before, and the last step goes on from it.
use Rattle.std.proofs.Common.{◌≡◌, length}
use Rattle.shell.proofs.Laws.{SoFar}
use Rattle.shell.proofs.replay_log.Given as goal

abbrev pub invariant-loop : goal.invariant-loop
invariant-loop g l = (length l.piece ≡ 61440) × (length l.rows ≡ 30720) × SoFar l.fn.board l.board
