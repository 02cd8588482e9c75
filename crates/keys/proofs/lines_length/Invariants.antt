-- `keys::lines_length` meets its contract: the sum so far and the length of what is left make the whole length.
-- A turn takes one line's length over; no line is long, so the sum fits.
use mathlib.Core.Path.{◌≡◌}
use Prim.Native.Nat.{◌+◌, ◌*◌, ◌≤◌}
use lib.ListN.{length}
use Rattle.keys.specs.Keys.{line_most}
use Rattle.keys.proofs.Writing.{Left}
use Rattle.keys.proofs.lines_length.Given as goal

abbrev pub invariant-loop-n : goal.invariant-loop-n
invariant-loop-n l =
    (l.sum ≤ line_most * l.n) × (l.sum + length (Left l.first l.values l.n) ≡ length (Left l.first l.values 0))
