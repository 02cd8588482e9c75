-- Each call of the closure answers the owner of its input.
use Rattle.std.proofs.Common.{rules}
use Rattle.status.specs.Support.Merger.{owner_of}
use Rattle.status.proofs.Tabulated.{tabulated}
use Rattle.status.proofs.owners.Goals as goal

pub returns : goal.returns
returns c = tabulated (owner_of c.args.s) (λ i y q k. search rules) 0 c.from_fn.ensures.items
