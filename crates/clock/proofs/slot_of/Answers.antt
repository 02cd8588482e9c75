-- `clock::slot_of` meets its contract: the controller's slot, or 0 past the last.
-- Past the end of the array the definition reads 0 too.
use mathlib.Core.Path.{sym}
use lib.ListN.{get_or-eq_default}
use Rattle.clock.proofs.slot_of.Goals as goal

pub returns : goal.returns
returns c = sym (get_or-eq_default c.args.slots.now 0 c.if-i-all.false)
