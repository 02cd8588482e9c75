-- `records::carries` meets its contract: a byte of 16 or more is one that `all_b` stops at.
-- `any` answers as std's test of a list, and that as the definition.
use Rattle.std.proofs.Common.{◌∙◌, leb, rules, tests}
use Rattle.std.proofs.lemmas.Iterator.{YieldsList-from_slice}
use Rattle.std.proofs.lemmas.Iterator.Search.{any_from_yields_List}
use Rattle.records.specs.Rows.{carries}
use Rattle.records.proofs.Listed.{any_listed}
use Rattle.records.proofs.rows.carries.Goals as goal

pub returns : goal.returns
unfolding carries
returns c =
    any_from_yields_List (leb 16) _ _ c.any.result c.any.ensures.ran (YieldsList-from_slice c.args.bytes c.iter.ensures.rest) (λ x b q k. search (rules, tests))
    ∙ any_listed c.args.bytes
