-- One input through a crossing, by the clock and the two codes that the board holds of it; `first` is the row's first byte.
use Rattle.std.specs.Prelude.{ℕ, ◌%◌, Bool, List, eqb}
use Rattle.laws.specs.Base.{if}
use Rattle.steady.specs.Steady.{steady}
use Rattle.clock.specs.Clock.{number_of, ticked_of}
use Rattle.history.specs.declared.keep.Change.{Change}
use Rattle.follower.specs.declared.Follower.{Follower}
use Rattle.follower.specs.Change.{change_for}

-- the change, by the orbit count that step 1 leaves
unfoldable pub change_seen : (orbit : ℕ) (f : Follower) (marker : Bool) (now : ℕ) → List Change
change_seen orbit f marker now =
    change_for (ticked_of orbit f.clock marker).orbits (number_of f.clock marker) f.believed (steady f.carried f.believed now)

-- controller 0's code 8 sets the orbit count to 0, as in `clock_of`
unfoldable pub next_follower : (orbit : ℕ) (f : Follower) (marker : Bool) (now first : ℕ) → Follower
next_follower orbit f marker now first =
    let t = ticked_of orbit f.clock marker in
    record {
      clock = record { crossings = t.crossings; next = t.next; orbits = if (eqb (first % 16) 8) 0 t.orbits; errors = t.errors };
      carried = now;
      believed = steady f.carried f.believed now;
    }
