-- Each call of the closure answers what its place counts.
use Rattle.std.proofs.Common.{rules}
use Rattle.status.specs.Support.Merger.{rank_at}
use Rattle.status.proofs.Tabulated.{tabulated}
use Rattle.status.proofs.ranks.Goals as goal

pub returns : goal.returns
returns c = tabulated (rank_at c.args.ignores) (λ i y q k. search rules) 0 c.from_fn.ensures.items
