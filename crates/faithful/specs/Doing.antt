-- Document 02, P7: what a list of changes says of a log, and doing it. Nothing here knows how the list was made.
use Rattle.std.specs.Prelude.{ℕ, zero, suc, ◌+◌, ◌*◌, ◌≤◌, ◌<◌, ◌≡◌, Bool, false, ◌&&◌, ◌||◌, List, [], ◌∷◌, ◌++◌, eqb, length, get_or}
use Rattle.laws.specs.Base.{if, map_i}
use Rattle.records.specs.Records.{rec_at}
use Rattle.salvage.specs.Mending.{parts_in}
use Rattle.salvage.specs.Changes.{Change, mends, drops}

-- ---- doing what it says

-- byte k of record n, which was b
abbrev pub byte_after : List Change → (n k b : ℕ) → ℕ
byte_after [] n k b = b
byte_after (mends number byte was becomes ∷ cs) n k b = byte_after cs n k (if (eqb number n && eqb byte k) becomes b)
byte_after (drops number was ∷ cs) n k b = byte_after cs n k b

abbrev pub is_dropped : List Change → (n : ℕ) → Bool
is_dropped [] n = false
is_dropped (mends number byte was becomes ∷ cs) n = is_dropped cs n
is_dropped (drops number was ∷ cs) n = eqb number n || is_dropped cs n

-- part n; and the first n parts of a log whose records are numbered from `first` on
unfoldable pub part_after : List Change → (n : ℕ) → List ℕ → List ℕ
part_after cs n part = if (is_dropped cs n) [] (map_i (byte_after cs n) 0 part)

unfoldable pub parts_after : ℕ → List Change → (first : ℕ) → List ℕ → List ℕ
parts_after zero cs first log = []
parts_after (suc n) cs first log = parts_after n cs first log ++ part_after cs (first + n) (rec_at log n)

abbrev pub log_after : List Change → (first : ℕ) → List ℕ → List ℕ
log_after cs first log = parts_after (parts_in log) cs first log

-- ---- what it says

abbrev pub number_of : Change → ℕ
number_of (mends number byte was becomes) = number
number_of (drops number was) = number

-- `byte=`, `was=`
abbrev pub byte_of : Change → ℕ
byte_of (mends number byte was becomes) = byte
byte_of (drops number was) = 0

abbrev pub was_of : Change → ℕ
was_of (mends number byte was becomes) = was
was_of (drops number was) = was

-- a mended byte has another value afterwards
abbrev pub Moves : Change → Type 0
Moves (mends number byte was becomes) = becomes ≡ was → ⊥
Moves (drops number was) = Unit {0}

-- what it says was there was there, in part i
pub record Found (first : ℕ) (log : List ℕ) (c : Change) : Type 0 where
  pub i : ℕ
  pub number : number_of c ≡ first + i
  pub byte : byte_of c < 24
  pub inside : 24 * i + byte_of c < length log
  pub was : get_or log (24 * i + byte_of c) 0 ≡ was_of c
  pub moves : Moves c

abbrev pub AllFound : (first : ℕ) → List ℕ → List Change → Type 0
AllFound first log [] = Unit {0}
AllFound first log (c ∷ cs) = Found first log c × AllFound first log cs

-- in rising order of the records and of the bytes of a record, none twice: each stands at `from` or after it
abbrev pub place_of : Change → ℕ
place_of c = 24 * number_of c + byte_of c

abbrev pub Rising : (from : ℕ) → List Change → Type 0
Rising from [] = Unit {0}
Rising from (c ∷ cs) = (from ≤ place_of c) × Rising (suc (place_of c)) cs
