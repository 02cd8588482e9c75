-- `report::put_blocks` meets its contract: the blocks that are left, laid from here, make what all of them make.
-- A turn is the law that lays one block; at the end nothing is left to lay.
use mathlib.Core.Path.{◌≡◌}
use Prim.Native.Nat.{◌+◌}
use lib.ListN.{length}
use Rattle.text.specs.Bytes.{put}
use Rattle.report.proofs.Laws.{Rest}
use Rattle.report.proofs.put_blocks.Given as goal

abbrev pub invariant-loop-k : goal.invariant-loop-k
invariant-loop-k l =
    (length l.out ≡ length l.initial.out)
    × (l.place + length (Rest l.s l.ptcs l.k) ≡ l.at + length (Rest l.s l.ptcs 0))
    × (put l.out l.place (Rest l.s l.ptcs l.k) ≡ put l.initial.out l.at (Rest l.s l.ptcs 0))
