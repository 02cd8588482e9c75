-- `board::Board::test_block` meets its contract: BOARD for a board that is not sound, else what the records are refused for.
-- A sound board's clock is within its life, which the count of crossings asks.
use mathlib.Core.Path.{sym, ◌∙◌}
use Rattle.board.specs.Block.{answer_of}
use Rattle.board.proofs.Settled.{sound_life}
use Rattle.board.proofs.Board.test_block.Goals as goal

pub returns-then-not-is_sound : goal.returns-then-not-is_sound
unfolding answer_of
returns-then-not-is_sound c = rw (sym c.is_sound.ensures ∙ c.if-not-is_sound.true)

pub test_block-requires : goal.test_block-requires
test_block-requires c = sound_life _ (sym c.is_sound.ensures ∙ c.if-not-is_sound.false)

pub returns : goal.returns
unfolding answer_of
returns c = rw (sym c.is_sound.ensures ∙ c.if-not-is_sound.false) c.test_block.ensures
