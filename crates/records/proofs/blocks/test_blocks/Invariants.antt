-- `records::test_blocks` meets its contract: none of the blocks before a turn was refused, and their crossings are counted.
-- A turn and a refusal are each one law of the blocks.
use Rattle.std.specs.Iterator.Adapters.{enumerate_count}
use Rattle.records.proofs.Chunks.{Left}
use Rattle.records.proofs.Testing.{Gone}
use Rattle.records.proofs.blocks.test_blocks.Given as goal

abbrev pub invariant-loop-i : goal.invariant-loop-i
invariant-loop-i l = Left 1536 l.log l.i-iterator × Gone l.first l.log l.room (enumerate_count l.i-iterator) l.done
