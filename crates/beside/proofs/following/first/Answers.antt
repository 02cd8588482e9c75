-- `beside::first` meets its contract: the two codes are those that the board holds of the input.
-- A sound board's GTFE codes are nibbles.
use borrow.Author.Rules.{rules}
use Rattle.steady.proofs.Laws.{carried_low, believed_low}
use Rattle.board.proofs.Settled.{sound_parts_lem}
use Rattle.beside.proofs.following.first.Goals as goal

pub code_at-requires : goal.code_at-requires
code_at-requires c = (search rules, carried_low _ (sound_parts_lem _ c.requires.0).held, c.requires.1)

pub code_at-requires-2 : goal.code_at-requires-2
code_at-requires-2 c = (search rules, believed_low _ (sound_parts_lem _ c.requires.0).held, c.requires.1)
