-- `salvage::mended` meets its contract: each call of `from_fn` gives what `mend` gives of the record's byte there.
-- So does `map_i`.
use lib.ListN.{get_or}
use Rattle.std.proofs.Common.{rules}
use Rattle.salvage.specs.Mending.{mend, mended}
use Rattle.salvage.proofs.Laws.{made_map}
use Rattle.salvage.proofs.mending.mended.Goals as goal

pub returns : goal.returns
unfolding mended
returns c =
    let rec = c.args.rec.now in
    made_map _ _ (mend (get_or rec 0 0)) rec c.from_fn.result 24 c.requires c.from_fn.ensures.items (λ i y q k. search rules)
