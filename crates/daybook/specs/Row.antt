-- Document 01, "Records and rows": what a row says.
use Rattle.std.specs.Prelude.{ℕ, zero, suc, ◌+◌, ◌*◌, ◌/◌, ◌%◌, ◌^◌, Bool, ◌||◌, List, eqb, get_or, take, drop}
use Rattle.laws.specs.Base.{one}

-- 12 bytes for each record
abbrev pub row_at : List ℕ → ℕ → List ℕ
row_at rows i = take 12 (drop (12 * i) rows)

-- byte k for controller k: bits 0–3 the command code sent or 0
abbrev pub code_in : List ℕ → ℕ → ℕ
code_in row k = get_or row k 0 % 16

-- bit 4: a request sent as trigger
abbrev pub sent_in : List ℕ → ℕ → Bool
sent_in row k = eqb (get_or row k 0 / 16 % 2) 1

-- bit 5: a calibration trigger sent
abbrev pub cal_in : List ℕ → ℕ → Bool
cal_in row k = eqb (get_or row k 0 / 32 % 2) 1

-- a trigger of either kind
abbrev pub sends_in : List ℕ → ℕ → Bool
sends_in row k = sent_in row k || cal_in row k

-- triggers of both kinds that the first n controllers sent
unfoldable pub triggers_of : List ℕ → ℕ → ℕ
triggers_of row zero = 0
triggers_of row (suc k) = triggers_of row k + (one (sent_in row k) + one (cal_in row k))

-- that all eight together sent
abbrev pub triggers_in : List ℕ → ℕ
triggers_in row = triggers_of row 8

-- then four bytes of status codes, an even controller in the low nibble
abbrev pub status_in : List ℕ → ℕ → ℕ
status_in row k = get_or row (8 + k / 2) 0 / 16 ^ (k % 2) % 16

-- the status is ready, or warning
abbrev pub ready_in : List ℕ → ℕ → Bool
ready_in row k = eqb (status_in row k) 8

abbrev pub warns_in : List ℕ → ℕ → Bool
warns_in row k = eqb (status_in row k) 1

abbrev pub runs_in : List ℕ → ℕ → Bool
runs_in row k = ready_in row k || warns_in row k

-- a command's row: byte 0 is 0xF0 where it was taken
abbrev pub taken_in : List ℕ → Bool
taken_in row = eqb (get_or row 0 0) 240
