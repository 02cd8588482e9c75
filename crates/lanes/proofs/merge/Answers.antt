-- Each call of the closure answers the class in its lane.
-- A call leaves the closure as it was, so what is made is the table of these.
use Rattle.std.proofs.Common.{rules}
use Rattle.status.proofs.Tabulated.{tabulated}
use Rattle.lanes.specs.Support.Lanes.{class_in, lane_classes}
use Rattle.lanes.proofs.merge.Goals as goal

pub returns : goal.returns
unfolding lane_classes
returns c = rw (← c.lanes-all.ensures) (tabulated (class_in c.lanes-all.result) (λ i y q k. search rules) 0 c.from_fn.ensures.items)
