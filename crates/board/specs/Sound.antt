-- Document 01, "Sound": of a whole board.
use Rattle.std.specs.Prelude.{Bool}
use Rattle.soundness.specs.Sound.{sound_parts}
use Rattle.board.specs.declared.Board.{Board}

unfoldable pub sound_board : Board → Bool
sound_board b = sound_parts b.settings b.clock b.turn b.ptcs b.held b.marks
