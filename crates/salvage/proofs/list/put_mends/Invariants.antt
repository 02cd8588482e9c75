-- `salvage::put_mends` meets its contract: after k turns the entries of the first k bytes are laid, none longer than 52 bytes.
-- A turn is one byte more (`bytes_next`).
use Prim.Native.Nat.{◌*◌, ◌≤◌}
use Rattle.salvage.specs.Changes.{changes_to, list_text}
use Rattle.salvage.specs.Laid.{Laid}
use Rattle.salvage.proofs.list.put_mends.Given as goal

abbrev pub invariant-loop-k : goal.invariant-loop-k
invariant-loop-k l = Laid l.initial.list 0 (list_text (changes_to l.k l.number l.rec)) l.at l.list × (l.at ≤ 52 * l.k)
