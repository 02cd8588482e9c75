-- Below 8 the lane is in the word: the shift loses nothing, eight bits at most 56 places up.
-- From 8 on there is none.
use Rattle.std.proofs.Common.{◌*◌, arith, lt-ltb, shl_exact}
use Rattle.lanes.specs.Support.Lanes.{in_lane}
use Rattle.lanes.proofs.in_lane.Goals as goal

pub returns-then-k-lt8 : goal.returns-then-k-lt8
unfolding in_lane
returns-then-k-lt8 c = let a = c.args in rw (lt-ltb a.k 8 c.if-k-lt8.true) (shl_exact 8 (8 * a.k) 64 (omega arith) (omega arith))
