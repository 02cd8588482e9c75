-- Document 01, "One crossing, in order", step 1: a fresh board. "Numbers a caller may get back": RANGE by line order, RELATION.
use Rattle.std.specs.Prelude.{replicate}
use Rattle.laws.specs.Base.{if}
use Rattle.answer.specs.Told.{Told, told, succeeded}
use Rattle.settings.specs.declared.Settings.{Settings}
use Rattle.settings.specs.Check.{checked}
use Rattle.settings.specs.Standard.{standard}
use Rattle.steady.specs.Held.{fresh_held}
use Rattle.clock.specs.Clock.{fresh_clock}
use Rattle.clock.specs.Turn.{fresh_turn}
use Rattle.board.specs.declared.Board.{Board}
use Rattle.board.specs.declared.Made.{Made}
use Rattle.kit.specs.Kit.{slots_of}
use Rattle.ptc.specs.Fresh.{fresh_ptc}

-- it expects 0; the lowest controller with a slot holds it; every controller in state 0, waits and counts 0, no cycle and no marks.
-- Document 02, P1: it believes 0
unfoldable pub fresh_board : Settings → Board
fresh_board s = record {
  settings = s;
  clock = fresh_clock;
  turn = fresh_turn (slots_of s);
  ptcs = replicate 8 fresh_ptc;
  held = fresh_held;
  marks = replicate 32 0;
}

-- what making one gives back
pub record MadeOut : Type 0 where
  pub answer : Told
  pub board : Board

abbrev pub made_out : Made → MadeOut
made_out m = record { answer = told m.answer; board = m.board }

-- a refused one is the board made from the standard values
unfoldable pub fresh_of : Settings → MadeOut
fresh_of s =
    let a = checked s in
    record { answer = a; board = if (succeeded a) (fresh_board s) (fresh_board standard) }
