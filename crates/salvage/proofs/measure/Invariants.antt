-- `salvage::measure` meets its contract: before a turn both lengths are those of the parts so far, the list's at most the greatest number.
-- A turn is one part more (`parts_on`, `list_on`).
use mathlib.Core.Path.{◌≡◌}
use Prim.Native.Nat.{◌*◌, ◌≤◌, min}
use lib.ListN.{length}
use Rattle.std.specs.Iterator.Adapters.{enumerate_count}
use Rattle.records.proofs.Chunks.{Left}
use Rattle.salvage.specs.Mending.{parts_in}
use Rattle.salvage.specs.Salvage.{MOST}
use Rattle.salvage.proofs.Turns.{parts_to, list_to}
use Rattle.salvage.proofs.measure.Given as goal

abbrev pub invariant-loop-i : goal.invariant-loop-i
invariant-loop-i l =
    Left 24 l.log l.i-iterator
    × (enumerate_count l.i-iterator ≤ parts_in l.log)
    × (l.needed.log ≡ length (parts_to l.i-iterator l.log))
    × (l.needed.log ≤ 24 * enumerate_count l.i-iterator)
    × (l.needed.list ≡ min (length (list_to l.i-iterator l.first l.log)) MOST)
