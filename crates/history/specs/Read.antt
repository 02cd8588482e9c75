-- Document 02, P6: the read-out, for each retained change its orbit count, crossing number and code in 4, 2 and 1 bytes, little-endian.
-- Refusals: STORE, then ROOM.
use Rattle.std.specs.Prelude.{ℕ, zero, suc, ◌/◌, ◌%◌, List, [], ◌∷◌, ◌++◌, leb, length}
use Rattle.laws.specs.Base.{if}
use Rattle.answer.specs.Told.{Answer, Told, told, DONE, ROOM, STORE}
use Rattle.text.specs.Bytes.{put}
use Rattle.history.specs.declared.Store.{Store}
use Rattle.history.specs.declared.keep.Change.{Change}
use Rattle.history.specs.Scan.{start, read}
use Rattle.history.specs.Store.{kept, sound_store}

-- n bytes, the lowest first
abbrev pub little : (n value : ℕ) → List ℕ
little zero value = []
little (suc n) value = value % 256 ∷ little n (value / 256)

unfoldable pub bytes_of : Change → List ℕ
bytes_of c = little 4 c.orbit ++ (little 2 c.number ++ little 1 c.code)

unfoldable pub bytes_of_all : List Change → List ℕ
bytes_of_all [] = []
bytes_of_all (c ∷ cs) = bytes_of c ++ bytes_of_all cs

-- the retained changes, oldest first
abbrev pub changes_in : Store → List Change
changes_in s = read start (kept s)

abbrev pub read_bytes : Store → List ℕ
read_bytes s = bytes_of_all (changes_in s)

-- how many bytes; 0 for a store that is refused
unfoldable pub read_length : Store → ℕ
read_length s = if (sound_store s) (length (read_bytes s)) 0

-- what reading gives back, and the buffer after it
pub record ReadOut : Type 0 where
  pub answer : Told
  pub buffer : List ℕ

abbrev pub read_out : Answer → List ℕ → ReadOut
read_out a buffer = record { answer = told a; buffer = buffer }

unfoldable pub read_of : Store → List ℕ → ReadOut
read_of s out =
    let text = read_bytes s in
    if (sound_store s)
    (if (leb (length text) (length out)) (record { answer = DONE; buffer = put out 0 text }) (record { answer = ROOM (length text); buffer = out }))
    (record { answer = STORE; buffer = out })
