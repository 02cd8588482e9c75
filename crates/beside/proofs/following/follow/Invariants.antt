-- `beside::follow` meets its contract: after i records the store is that of their changes, and the follower stands where the board does.
-- A turn is the law of a crossing or of a command (`Turns`).
use Rattle.beside.proofs.Turns.{Stands}
use Rattle.beside.proofs.following.follow.Given as goal

abbrev pub invariant-loop-i : goal.invariant-loop-i
invariant-loop-i l = Stands l.fn.input l.fn.board l.fn.store l.log l.store.words l.pen l.seen l.i
