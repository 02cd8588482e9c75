-- `clock::Turn::fresh` meets its contract: the lowest controller with a slot takes over.
-- What the two calls ensure, one in the other.
use mathlib.Core.Path.{ap, ◌∙◌}
use Rattle.clock.specs.Turn.{takes_over, fresh_turn}
use Rattle.clock.proofs.Turn.fresh.Goals as goal

pub returns : goal.returns
unfolding fresh_turn
returns c = c.taken_over.ensures ∙ ap (takes_over c.args.slots.now) c.next_with_slot.ensures
