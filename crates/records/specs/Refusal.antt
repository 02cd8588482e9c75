-- Document 01, "Numbers a caller may get back": what a block of records is refused for, once its board is sound.
use Rattle.std.specs.Prelude.{ℕ, ◌+◌, ◌*◌, ◌/◌, ◌%◌, ◌≤◌, ◌≡◌, List, leb, eqb, length}
use Rattle.laws.specs.Base.{if}
use Rattle.answer.specs.Told.{Told, DONE, LENGTH, ROOM, RECORD, LIFE}
use Rattle.records.specs.Records.{first_ill, crossings_in}

-- a board's life in crossings, 2^40 − 1
abbrev pub LIFETIME : ℕ
LIFETIME = 1099511627775

-- how many records a block has
abbrev pub records_in : List ℕ → ℕ
records_in log = length log / 24

-- LENGTH, ROOM, RECORD, LIFE, in that order; done is the crossings done, room the length of the rows buffer
unfoldable pub refusal_of : (done : ℕ) (log : List ℕ) (room : ℕ) → Told
refusal_of done log room =
    let n = records_in log in
    if (eqb (length log % 24) 0)
    (if (leb (12 * n) room)
    (if (eqb (first_ill n log) n)
    (if (leb (done + crossings_in n log) LIFETIME) DONE LIFE)
    (RECORD (first_ill n log)))
    (ROOM (12 * n)))
    LENGTH

-- what a block that is not refused has
pub record Ready (done : ℕ) (log : List ℕ) (room : ℕ) : Type 0 where
  pub whole : length log ≡ 24 * records_in log
  pub space : 12 * records_in log ≤ room
  pub formed : first_ill (records_in log) log ≡ records_in log
  pub life : done + crossings_in (records_in log) log ≤ LIFETIME
