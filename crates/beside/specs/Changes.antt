-- Document 02, P6: the changes of input x's believed code over the records of a block.
use Rattle.std.specs.Prelude.{ℕ, zero, suc, List, [], ◌++◌}
use Rattle.laws.specs.Base.{if}
use Rattle.settings.specs.Names.{orbit_of}
use Rattle.status.specs.Codes.{code_at}
use Rattle.clock.specs.Clock.{number_of, ticked_of}
use Rattle.records.specs.Records.{rec_at, is_crossing, marker_in}
use Rattle.board.specs.declared.Board.{Board}
use Rattle.board.specs.Crossing.{held_in}
use Rattle.board.specs.Run.{ran}
use Rattle.history.specs.declared.keep.Change.{Change}
use Rattle.follower.specs.Change.{change_for}

-- the believed code after this crossing's step 2 differs from the one before it; the orbit count is the one that step 1 leaves
unfoldable pub change_in : (x : ℕ) → Board → List ℕ → List Change
change_in x b rec =
    change_for (ticked_of (orbit_of b.settings) b.clock (marker_in rec)).orbits (number_of b.clock (marker_in rec))
    (code_at b.held.believed x) (code_at (held_in b rec).believed x)

-- over the first n records: a command changes no code
unfoldable pub changes_over : (x n : ℕ) → Board → List ℕ → List Change
changes_over x zero b log = []
changes_over x (suc n) b log = changes_over x n b log ++ if (is_crossing (rec_at log n)) (change_in x (ran n b log) (rec_at log n)) []
