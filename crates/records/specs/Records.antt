-- Document 01, "Records and rows": what a record is, what it says, and when it is well formed.
use Rattle.std.specs.Prelude.{ℕ, zero, suc, ◌+◌, ◌*◌, ◌/◌, ◌%◌, ◌^◌, Bool, ◌&&◌, ◌||◌, List, leb, eqb, get_or, take, drop}
use Rattle.laws.specs.Base.{one, all_b, first_not}

-- a record is 24 bytes: the one that i others stand before
abbrev pub rec_at : List ℕ → ℕ → List ℕ
rec_at log i = take 24 (drop (24 * i) log)

-- byte 0 tells a crossing from a command
abbrev pub is_crossing : List ℕ → Bool
is_crossing rec = eqb (get_or rec 0 0) 0

-- crossing: byte 1 = orbit marker
abbrev pub marker_in : List ℕ → Bool
marker_in rec = eqb (get_or rec 1 0) 1

-- byte 2 = requests, bit n for controller n
unfoldable pub asked_in : (requests k : ℕ) → Bool
asked_in requests k = eqb (requests / 2 ^ k % 2) 1

-- byte 3 = GTFE code, then partition codes and aTTS codes
abbrev pub codes_in : List ℕ → List ℕ
codes_in rec = drop 3 rec

-- byte 0 = 0; byte 1 = orbit marker 0 or 1; byte 3 = GTFE code 0..15
unfoldable pub well_crossing : List ℕ → Bool
well_crossing rec = eqb (get_or rec 0 0) 0 && (leb (get_or rec 1 0) 1 && leb (get_or rec 3 0) 15)

-- byte 0 = 1; byte 1 = controller 0..7; byte 2 = command 1..6; the rest 0
unfoldable pub well_command : List ℕ → Bool
well_command rec =
    eqb (get_or rec 0 0) 1
    && (leb (get_or rec 1 0) 7
    && (leb 1 (get_or rec 2 0)
    && (leb (get_or rec 2 0) 6
    && all_b (λ b. eqb b 0) (drop 3 rec))))

-- anything else is ill-formed
unfoldable pub well : List ℕ → Bool
well rec = well_crossing rec || well_command rec

-- the index of the first ill-formed of n records, or n
abbrev pub first_ill : ℕ → List ℕ → ℕ
first_ill n log = first_not (λ i. well (rec_at log i)) n 0

-- how many of the first n records are crossings
unfoldable pub crossings_in : ℕ → List ℕ → ℕ
crossings_in zero log = 0
crossings_in (suc n) log = crossings_in n log + one (is_crossing (rec_at log n))
