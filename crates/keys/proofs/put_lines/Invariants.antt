-- `keys::put_lines` meets its contract: the lines that are left, laid from here, make what all of them make.
-- A turn is the law that lays one line; at the end nothing is left to lay.
use mathlib.Core.Path.{◌≡◌}
use Prim.Native.Nat.{◌+◌}
use lib.ListN.{length}
use Rattle.text.specs.Bytes.{put}
use Rattle.keys.proofs.Writing.{Left}
use Rattle.keys.proofs.put_lines.Given as goal

abbrev pub invariant-loop-n : goal.invariant-loop-n
invariant-loop-n l =
    (length l.out ≡ length l.initial.out)
    × (l.place + length (Left l.first l.values l.n) ≡ l.at + length (Left l.first l.values 0))
    × (put l.out l.place (Left l.first l.values l.n) ≡ put l.initial.out l.at (Left l.first l.values 0))
