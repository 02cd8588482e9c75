-- `board::Board::cross` meets its contract: a loop goes over the controllers that are due.
-- Before controller k the first k are what the crossing makes of them.
use mathlib.Core.Path.{◌≡◌}
use Prim.Native.Nat.{◌-◌}
use Rattle.still.proofs.Acting.{Acting}
use Rattle.board.specs.Crossing.{with_ptcs}
use Rattle.board.proofs.Turn.{plans_in}
use Rattle.board.proofs.Board.cross.Given as goal

abbrev pub invariant-loop-k : goal.invariant-loop-k
invariant-loop-k l =
    (l.self ≡ with_ptcs l.initial.self l.self.ptcs)
    × (Acting (plans_in l.kit) l.scene l.sight.classes l.sight.requests l.sight.due l.initial.self.ptcs l.initial.watch.shown l.k l.self.ptcs l.bytes l.watch.shown l.calm)

abbrev pub decreases-loop-k : goal.decreases-loop-k
decreases-loop-k l = 8 - l.k
