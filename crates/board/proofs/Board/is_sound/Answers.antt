-- `board::Board::is_sound` meets its contract: a board is sound where its six parts are.
-- That is what the call on the parts answers.
use Rattle.board.specs.Sound.{sound_board}
use Rattle.board.proofs.Board.is_sound.Goals as goal

pub returns : goal.returns
unfolding sound_board
returns c = c.is_sound.ensures
