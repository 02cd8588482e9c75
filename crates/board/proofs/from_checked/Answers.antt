-- `board::from_checked` meets its contract: the parts of a fresh board, each written out or as its call ensures it.
-- Settings that pass the check have slots that the turn can count with.
use Rattle.board.specs.Fresh.{fresh_board}
use Rattle.kit.proofs.Settled.{slot_room}
use Rattle.board.proofs.from_checked.Goals as goal

pub fresh-requires : goal.fresh-requires
fresh-requires c = rw c.slots_of.ensures (slot_room c.args.settings c.requires)

pub returns : goal.returns
unfolding fresh_board
returns c = rw (c.fresh-3.ensures, c.fresh-2.ensures, c.fresh.ensures, c.slots_of.ensures)
