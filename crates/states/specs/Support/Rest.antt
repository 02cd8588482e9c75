-- Document 01, "States": the states that a crossing leaves as they are, whatever its number, while the merged class is the same.
use Rattle.std.specs.Prelude.{ℕ, Bool, ◌||◌, leb, eqb}
use Rattle.laws.specs.Base.{if}
use Rattle.status.specs.Class.{bad}
use Rattle.states.specs.Moves.{while_running}

-- 6, 7, 8 where the class leads to that same state; 9 while disconnected or bad; 0, 10, 11 and 18, which only a command leaves
unfoldable pub resting : ℕ → ℕ → Bool
resting class s =
    if (eqb s 6 || (eqb s 7 || eqb s 8)) (eqb (while_running class) s)
    (if (eqb s 9) (leb bad class)
    (eqb s 0 || (eqb s 10 || (eqb s 11 || eqb s 18))))
