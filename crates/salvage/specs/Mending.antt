-- Document 02, P7: what is kept of a log, and how a kept record is mended.
use Rattle.std.specs.Prelude.{ℕ, zero, suc, ◌+◌, ◌/◌, ◌%◌, Bool, ◌&&◌, ◌||◌, List, [], ◌++◌, leb, ltb, eqb, length, get_or}
use Rattle.laws.specs.Base.{if, map_i}
use Rattle.records.specs.Records.{rec_at, is_crossing}

-- the parts of a log: its records, and a tail shorter than 24 bytes as the last. `rec_at log n` is part n
abbrev pub parts_in : List ℕ → ℕ
parts_in log = (length log + 23) / 24

-- a command of known controller and command
unfoldable pub known_command : List ℕ → Bool
known_command rec = eqb (get_or rec 0 0) 1 && (leb (get_or rec 1 0) 7 && (leb 1 (get_or rec 2 0) && leb (get_or rec 2 0) 6))

-- a record of unknown kind, controller or command is dropped; a tail shorter than 24 bytes is dropped
unfoldable pub is_kept : List ℕ → Bool
is_kept part = eqb (length part) 24 && (is_crossing part || known_command part)

-- a marker byte above 1 becomes its lowest bit; a high nibble in the GTFE byte is cleared
abbrev pub in_crossing : (k b : ℕ) → ℕ
in_crossing k b = if (eqb k 1) (b % 2) (if (eqb k 3) (b % 16) b)

-- reserved bytes of a command are cleared
abbrev pub in_command : (k b : ℕ) → ℕ
in_command k b = if (ltb k 3) b 0

-- what byte k of a kept record of this kind becomes
unfoldable pub mend : (kind k b : ℕ) → ℕ
mend kind k b = if (eqb kind 0) (in_crossing k b) (in_command k b)

unfoldable pub mended : List ℕ → List ℕ
mended rec = map_i (mend (get_or rec 0 0)) 0 rec

-- what is written of a part, and of the first n parts of a log
unfoldable pub salvaged_part : List ℕ → List ℕ
salvaged_part part = if (is_kept part) (mended part) []

unfoldable pub salvaged_parts : ℕ → List ℕ → List ℕ
salvaged_parts zero log = []
salvaged_parts (suc n) log = salvaged_parts n log ++ salvaged_part (rec_at log n)

abbrev pub salvaged_log : List ℕ → List ℕ
salvaged_log log = salvaged_parts (parts_in log) log
