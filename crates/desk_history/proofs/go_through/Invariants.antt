-- Board and store so far are those of the pieces before, and the last step goes on from them.
use Rattle.std.proofs.Common.{◌≡◌, length}
use Rattle.desk_history.proofs.Laws.{SoFarBeside}
use Rattle.desk_history.proofs.go_through.Given as goal

abbrev pub invariant-loop : goal.invariant-loop
invariant-loop g l = (length l.piece ≡ 61440) × (length l.rows ≡ 30720) × SoFarBeside l.fn.input l.fn.fresh l.board l.store
