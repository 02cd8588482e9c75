-- `kit::slots_of` meets its contract: each place holds its controller's slot.
-- By what the call at that place ensures.
use borrow.Author.Rules.{rules}
use Rattle.kit.proofs.Tables.{tabulated}
use Rattle.settings.specs.Names.{slot_of}
use Rattle.kit.proofs.slots_of.Goals as goal

pub returns : goal.returns
returns c =
    let made = c.from_fn.ensures.items in
    tabulated (slot_of c.args.s) 8 c.from_fn.result made.long (λ k h. let w = made.at k 0 h in search rules)
