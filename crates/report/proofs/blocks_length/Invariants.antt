-- `report::blocks_length` meets its contract: the sum so far and the length of the blocks that are left make the whole length.
-- A turn takes one block's length over; no block is long, so the sum fits.
use mathlib.Core.Path.{◌≡◌}
use Prim.Native.Nat.{◌+◌, ◌*◌, ◌≤◌}
use lib.ListN.{length}
use Rattle.report.proofs.Laws.{Rest}
use Rattle.report.proofs.blocks_length.Given as goal

abbrev pub invariant-loop-k : goal.invariant-loop-k
invariant-loop-k l = (l.sum ≤ 131072 * l.k) × (l.sum + length (Rest l.s l.ptcs l.k) ≡ length (Rest l.s l.ptcs 0))
