-- The blocks counted are whole and accepted, and the last step goes on from them.
use Rattle.std.proofs.Common.{◌≡◌, length}
use Rattle.desk_why.proofs.Laws.{Counted}
use Rattle.desk_why.proofs.find.Given as goal

abbrev pub invariant-loop-block : goal.invariant-loop-block
invariant-loop-block g l = (length l.piece ≡ 1536) × (length l.rows ≡ 768) × Counted l.fn.fresh l.board l.block
