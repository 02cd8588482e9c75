-- A board whose eight controllers are all at rest, and which of them a crossing has to look at then.
use Rattle.std.specs.Prelude.{ℕ, ◌+◌, ◌/◌, ◌^◌, Bool, ◌&&◌, List, eqb}
use Rattle.std.specs.Int.Count.{count_trailing_zeros}
use Rattle.laws.specs.Base.{if}
use Rattle.kit.specs.Support.Laid.{plain_in}

-- the controllers that are looked at, a bit for each: those that ask, where no other can move or send
unfoldable pub due_of : (still : Bool) (busy : List ℕ) (number requests : ℕ) → ℕ
due_of still busy number requests = if (still && plain_in busy number) requests 255

-- the first bit from bit k on, or 8
unfoldable pub next_due : (due k : ℕ) → ℕ
next_due due k = let rest = due / 2 ^ k in if (eqb rest 0) 8 (k + count_trailing_zeros 64 rest)
