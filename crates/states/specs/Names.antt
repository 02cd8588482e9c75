-- Document 01, "States": the states that other rules name, and the status that a state shows.
use Rattle.std.specs.Prelude.{ℕ, Bool, ◌||◌, eqb}
use Rattle.laws.specs.Base.{if}

abbrev pub READY : ℕ
READY = 7

abbrev pub WARN : ℕ
WARN = 8

-- the states in which triggers are taken
abbrev pub running : ℕ → Bool
running s = eqb s READY || eqb s WARN

-- status out: 0 gives 10; 7 gives 8; 8 gives 1; 9 gives 0; 10 gives 2; 11 and 18 give 12; the others 4
unfoldable pub status_of : ℕ → ℕ
status_of s =
    if (eqb s 0) 10
    (if (eqb s 7) 8
    (if (eqb s 8) 1
    (if (eqb s 9) 0
    (if (eqb s 10) 2
    (if (eqb s 11) 12
    (if (eqb s 18) 12
    4))))))
