-- `records::put_row` meets its contract: after k turns the first k bytes are the row's, the others old still.
-- A turn is the law of `over` at one place.
use native.Mathlib.Omega.{arith}
use Rattle.laws.proofs.Over.{over, over_set}
use Rattle.records.proofs.rows.put_row.Goals as goal

pub loop-k-preserved : goal.loop-k-preserved
unfolding over
loop-k-preserved c =
    rw c.loop-k.invariant (over_set c.loop-k.k c.args.row c.args.rows.now 0 (omega (arith, c.loop-k-test.true)) (omega (arith, c.requires, c.loop-k.auto.k-end)))
