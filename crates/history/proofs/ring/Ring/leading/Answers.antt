-- `history::Ring::leading` meets its contract: the words behind the first three, as long as they are changes.
-- The chain's list, call by call, and the count of its words.
use Rattle.std.proofs.Common.{◌∙◌, refl, leb, drop, rules}
use borrow.Author.Tests.{tests}
use Rattle.std.proofs.lemmas.List.Folds.{length-prefix_len}
use Rattle.std.proofs.lemmas.Iterator.Adapters.{YieldsList-from_skip}
use Rattle.std.proofs.lemmas.Iterator.Consumers.{YieldsList-from_first, YieldsList-at, count_from_yields_List}
use Rattle.std.proofs.lemmas.Iterator.Search.{YieldsList-from_take_while}
use Rattle.history.specs.Support.Ring.{in_use}
use Rattle.history.proofs.Scans.{leading_prefix}
use Rattle.history.proofs.ring.Ring.leading.Goals as goal

pub returns : goal.returns
returns c =
    let words = drop 3 (in_use c.args.self) in
    let all = YieldsList-from_first (λ x. x) in_use (in_use c.args.self) refl in
    let behind = YieldsList-from_skip 3 (YieldsList-at c.skip.ensures.source all) c.skip.ensures.count in
    let leads = YieldsList-at c.take_while.ensures.source behind in
    count_from_yields_List _ _ c.count.ensures.ran (YieldsList-from_take_while _ (leb 4096) leads c.take_while.ensures.closure c.take_while.ensures.done (λ x b q k. search (rules, tests)))
    ∙ length-prefix_len (leb 4096) words
    ∙ leading_prefix words
