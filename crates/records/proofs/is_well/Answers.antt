-- `records::is_well` meets its contract: the patterns are the tests of the two definitions, and the reserved bytes decide as `all_b` does.
-- A record of no pattern fails one test of each.
use Rattle.std.proofs.Common.{◌≡◌, ◌∙◌, arith, rules, tests, eqb, drop, length-drop}
use lib.Seq.{take_all}
use Rattle.std.specs.List.{list_all}
use Rattle.std.proofs.lemmas.Iterator.{YieldsList-from_slice}
use Rattle.std.proofs.lemmas.Iterator.Search.{all_from_yields_List}
use Rattle.laws.proofs.All.{list_all-all_b}
use Rattle.records.proofs.Listed.{reserved_decide}
use Rattle.records.proofs.is_well.Goals as goal

pub returns-in-1 : goal.returns-in-1
returns-in-1 c =
    let rec = c.args.rec.now in
    let reserved : c.all.result ≡ list_all (λ b. eqb b 0) (drop 3 rec) = all_from_yields_List (λ b. eqb b 0) _ _ c.all.result c.all.ensures.ran (YieldsList-from_slice (drop 3 rec) (c.iter.ensures.rest ∙ take_all 21 (drop 3 rec) (grind (arith, length-drop)))) (λ x b q k. search (rules, tests)) in
    reserved ∙ list_all-all_b _ _ ∙ reserved_decide rec (omega arith) (omega arith) (omega arith) (omega arith)
