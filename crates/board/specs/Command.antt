-- Document 01, "Records and rows": a command record, which changes one controller at most, and its row.
use Rattle.std.specs.Prelude.{ℕ, List, get_or, set}
use Rattle.ptc.specs.Fresh.{fresh_ptc}
use Rattle.ptc.specs.Command.{Commanded, commanded_of}
use Rattle.records.specs.Rows.{command_row}
use Rattle.kit.specs.View.{View, view_of}
use Rattle.board.specs.declared.Board.{Board}
use Rattle.board.specs.Crossing.{with_ptcs}

-- byte 1 = controller, byte 2 = command
unfoldable pub command_by : View → Board → List ℕ → Commanded
command_by v b rec = commanded_of v.waits (get_or rec 2 0) (get_or b.ptcs (get_or rec 1 0) fresh_ptc)

abbrev pub command_in : Board → List ℕ → Commanded
command_in b = command_by (view_of b.settings) b

unfoldable pub commanded_by : View → Board → List ℕ → Board
commanded_by v b rec = with_ptcs b (set b.ptcs (get_or rec 1 0) (command_by v b rec).ptc)

abbrev pub board_commanded : Board → List ℕ → Board
board_commanded b = commanded_by (view_of b.settings) b

unfoldable pub command_row_by : View → Board → List ℕ → List ℕ
command_row_by v b rec = command_row (command_by v b rec).taken

abbrev pub row_commanded : Board → List ℕ → List ℕ
row_commanded b = command_row_by (view_of b.settings) b
