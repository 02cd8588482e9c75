-- `records::test_block` meets its contract: each early return is the first test of the definition that fails.
-- The list of the records has the first ill-formed one and the crossings of the log.
use Rattle.std.proofs.Common.{arith}
use Rattle.std.proofs.lemmas.Bool.Decides.{nat_tests}
use Rattle.records.specs.Refusal.{refusal_of}
use Rattle.records.proofs.Listed.{some_ill, none_ill, crossings_listed}
use Rattle.records.proofs.test_block.Goals as goal

pub returns-in-Some : goal.returns-in-Some
unfolding refusal_of
returns-in-Some c =
    let ill = some_ill c.args.log.now _ c.as_chunks.ensures.front _ c.first_ill.ensures _ c.in-Some.is in
    grind (arith, nat_tests)

pub returns-then-done-crossings_in-gt-LIFETIME : goal.returns-then-done-crossings_in-gt-LIFETIME
unfolding refusal_of
returns-then-done-crossings_in-gt-LIFETIME c =
    let formed = none_ill c.args.log.now _ c.as_chunks.ensures.front _ c.first_ill.ensures c.in_default.is in
    let crossings = crossings_listed c.args.log.now _ c.as_chunks.ensures.front in
    grind (arith, nat_tests)

pub returns : goal.returns
unfolding refusal_of
returns c =
    let formed = none_ill c.args.log.now _ c.as_chunks.ensures.front _ c.first_ill.ensures c.in_default.is in
    let crossings = crossings_listed c.args.log.now _ c.as_chunks.ensures.front in
    grind (arith, nat_tests)
