-- `salvage::write` meets its contract: before a turn what the parts so far give is laid at the front of either buffer.
-- A turn is one part more (`parts_on`, `list_on`); what all parts need bounds what those so far do.
use Prim.Native.Nat.{◌≤◌}
use Rattle.std.specs.Iterator.Adapters.{enumerate_count}
use Rattle.records.proofs.Chunks.{Left}
use Rattle.salvage.specs.Laid.{Laid}
use Rattle.salvage.specs.Mending.{parts_in}
use Rattle.salvage.proofs.Turns.{parts_to, list_to}
use Rattle.salvage.proofs.write.Given as goal

abbrev pub invariant-loop-i : goal.invariant-loop-i
invariant-loop-i l =
    Left 24 l.log l.i-iterator
    × (enumerate_count l.i-iterator ≤ parts_in l.log)
    × Laid l.initial.salvaged 0 (parts_to l.i-iterator l.log) l.kept l.salvaged
    × Laid l.initial.changes 0 (list_to l.i-iterator l.first l.log) l.list l.changes
