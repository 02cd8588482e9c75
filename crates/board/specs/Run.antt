-- The records of a block, one after the other: the board after them, and their rows.
use Rattle.std.specs.Prelude.{ℕ, zero, suc, List, [], ◌++◌}
use Rattle.laws.specs.Base.{if}
use Rattle.records.specs.Records.{rec_at, is_crossing}
use Rattle.kit.specs.View.{View, view_of}
use Rattle.board.specs.declared.Board.{Board}
use Rattle.board.specs.Crossing.{crossed_by, crossing_row_by}
use Rattle.board.specs.Command.{commanded_by, command_row_by}

-- by a view, and by the board's own settings
abbrev pub stepped_by : View → Board → List ℕ → Board
stepped_by v b rec = if (is_crossing rec) (crossed_by v b rec) (commanded_by v b rec)

unfoldable pub stepped : Board → List ℕ → Board
stepped b = stepped_by (view_of b.settings) b

abbrev pub row_by : View → Board → List ℕ → List ℕ
row_by v b rec = if (is_crossing rec) (crossing_row_by v b rec) (command_row_by v b rec)

unfoldable pub row_of : Board → List ℕ → List ℕ
row_of b = row_by (view_of b.settings) b

-- the board after the first n records
unfoldable pub ran : ℕ → Board → List ℕ → Board
ran zero b log = b
ran (suc n) b log = stepped (ran n b log) (rec_at log n)

-- their rows, each written from where the last ended
unfoldable pub rows_of : ℕ → Board → List ℕ → List ℕ
rows_of zero b log = []
rows_of (suc n) b log = rows_of n b log ++ row_of (ran n b log) (rec_at log n)
