-- Each call of the closure answers the entry of its place.
-- A call leaves the closure as it was, so what is made is the table of these.
use Rattle.std.proofs.Common.{rules}
use Rattle.status.proofs.Tabulated.{tabulated}
use Rattle.lanes.specs.Support.Lanes.{entry_of, table_of}
use Rattle.lanes.proofs.table.Goals as goal

pub returns : goal.returns
unfolding table_of
returns c = let m = c.args.m in tabulated (entry_of m.owners m.ranks) (λ i y q k. search rules) 0 c.from_fn.ensures.items
