-- `records::crossings_in` meets its contract: the sum fits, since no record adds more than 1.
-- There are no more records than numbers.
use Rattle.std.proofs.Common.{arith, rules, tests, ◌^◌, length, ◌≤◌}
use Rattle.std.proofs.lemmas.Iterator.{YieldsList-from_slice}
use Rattle.std.proofs.lemmas.Iterator.Adapters.{fits_from_length, at_most_from_yields_List}
use Rattle.records.proofs.crossings_in.Goals as goal

pub sum-requires-clause-fits : goal.sum-requires-clause-fits
sum-requires-clause-fits c =
    let few : length c.args.records.now ≤ 18446744073709551615 = omega (arith, c.iter.ensures.len, c.iter.ensures.bound) in
    fits_from_length _ _ 18446744073709551615 (2 ^ 64) (at_most_from_yields_List (YieldsList-from_slice c.args.records.now cc) few) c.map.ensures.closure (omega arith) (λ x r q k. search (rules, tests))
