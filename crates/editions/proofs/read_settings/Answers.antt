-- `editions::read_settings` meets its contract: the edition, then its lines, then the relations of the values that they give.
-- Each way is one law of reading, at the edition that the text opens.
use native.Mathlib.Omega.{arith}
use Rattle.editions.proofs.Reading.{reading, refused_is, related_is, done_is}
use Rattle.editions.proofs.read_settings.Goals as goal

pub returns-in_err-numbers : goal.returns-in_err-numbers
returns-in_err-numbers c = grind (arith, refused_is c.args.text.now c.in_ok-edition.edition)

pub returns-in_err-test_relations : goal.returns-in_err-test_relations
returns-in_err-test_relations c = grind (arith, related_is c.args.text.now c.in_ok-edition.edition)

pub returns-then-stopped : goal.returns-then-stopped
returns-then-stopped c = grind (arith, reading, done_is c.args.text.now c.in_ok-edition.edition)

pub returns-else-stopped : goal.returns-else-stopped
returns-else-stopped c = grind (arith, reading, done_is c.args.text.now c.in_ok-edition.edition)
