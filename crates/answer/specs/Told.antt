-- Document 01, "Numbers a caller may get back": each refusal's number and what it carries. Every contract speaks by these names.
use Rattle.std.specs.Prelude.{Bool, List, [], ◌∷◌, ℕ, zero, suc, eqb, Result, Ok, Err}
use Rattle.answer.specs.declared.Refusal.{Refusal}
use Rattle.answer.specs.declared.Refusal.TheVariants.{Text, Range, Relation, Board, Length, Room, Record, Life, Store}

-- what a call answers
abbrev pub Answer : Type 0
Answer = Result (Unit {0}) Refusal

-- what a caller is told: the number of the table, 0 for a success, and the values that it carries
pub record Told : Type 0 where
  pub number : ℕ
  pub carries : List ℕ

abbrev pub DONE : Told
DONE = record { number = 0; carries = [] }

abbrev pub TEXT : ℕ → Told
TEXT line = record { number = 1; carries = line ∷ [] }

abbrev pub RANGE : ℕ → Told
RANGE line = record { number = 2; carries = line ∷ [] }

-- document 02, P2: the controller too, 0 for relations 1 and 5
abbrev pub RELATION : (which controller : ℕ) → Told
RELATION which controller = record { number = 3; carries = which ∷ controller ∷ [] }

abbrev pub BOARD : Told
BOARD = record { number = 4; carries = [] }

abbrev pub LENGTH : Told
LENGTH = record { number = 5; carries = [] }

abbrev pub ROOM : ℕ → Told
ROOM needed = record { number = 6; carries = needed ∷ [] }

abbrev pub RECORD : ℕ → Told
RECORD index = record { number = 7; carries = index ∷ [] }

abbrev pub LIFE : Told
LIFE = record { number = 8; carries = [] }

-- document 02, P6
abbrev pub STORE : Told
STORE = record { number = 9; carries = [] }

-- the code's refusal and its answer, as the table has them
abbrev pub told_refusal : Refusal → Told
told_refusal (Text line) = TEXT line
told_refusal (Range line) = RANGE line
told_refusal (Relation which controller) = RELATION which controller
told_refusal Board = BOARD
told_refusal Length = LENGTH
told_refusal (Room needed) = ROOM needed
told_refusal (Record index) = RECORD index
told_refusal Life = LIFE
told_refusal Store = STORE

abbrev pub told : Answer → Told
told (Ok done) = DONE
told (Err refusal) = told_refusal refusal

abbrev pub succeeded : Told → Bool
succeeded t = eqb t.number 0

-- refusals in order: the first fault by its number, counted from 1; where there is none (0), what comes later decides
abbrev pub unless : (ℕ → Told) → ℕ → Told → Told
unless refusal zero later = later
unless refusal (suc n) later = refusal (suc n)
