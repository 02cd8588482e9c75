-- `records::put_row` meets its contract: after k turns the first k bytes are the row's, the others old still.
-- A turn is the law of `over` at one place.
use mathlib.Core.Path.{◌≡◌}
use mathlib.Core.List.{◌++◌}
use lib.ListN.{take, drop}
use Rattle.records.proofs.rows.put_row.Given as goal

abbrev pub invariant-loop-k : goal.invariant-loop-k
invariant-loop-k l = l.rows ≡ take l.k l.fn.row ++ drop l.k l.initial.rows
