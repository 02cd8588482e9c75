-- After j bytes the lanes are those of the GTFE code and of the first j bytes.
-- A turn is the definition's own step.
use Rattle.std.proofs.Common.{◌≡◌}
use Rattle.lanes.specs.Support.Lanes.{lanes_of}
use Rattle.lanes.proofs.lanes.Given as goal

abbrev pub invariant-loop-j : goal.invariant-loop-j
invariant-loop-j l = l.all ≡ lanes_of l.t l.codes l.j
