-- Document 01, "One crossing, in order", step 1: whose slot it is after so many orbits, by arithmetic and with no hand-over. A round is the
-- eight controllers' stretches, one after the other from controller 0 up; when it is over, the next one begins.
use Rattle.std.specs.Prelude.{ℕ, zero, suc, ◌+◌, ◌*◌, ◌%◌, List, leb, eqb, get_or}
use Rattle.laws.specs.Base.{if, first_not}

-- how many orbits of a round are controller k's
abbrev pub stretch : List ℕ → ℕ → ℕ
stretch slots k = 10 * get_or slots k 0

-- how many orbits of a round come before controller k's; its own are those from begins k up to, not including, begins (k + 1)
unfoldable pub begins : List ℕ → ℕ → ℕ
begins slots zero = 0
begins slots (suc k) = begins slots k + stretch slots k

-- the orbits of a round
abbrev pub total : List ℕ → ℕ
total slots = begins slots 8

-- after m orbits: the first controller whose stretch is not over at place m % total of the round; 8, none, where all slots are 0
unfoldable pub holder_after : List ℕ → ℕ → ℕ
holder_after slots m = if (eqb (total slots) 0) 8 (first_not (λ k. leb (begins slots (suc k)) (m % total slots)) 8 0)
