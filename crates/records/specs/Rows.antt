-- Document 01, "Records and rows": the 12 bytes that answer a record.
use Rattle.std.specs.Prelude.{ℕ, ◌+◌, ◌*◌, ◌%◌, Bool, not, List, [], ◌∷◌, ◌++◌, ltb, eqb, get_or, replicate}
use Rattle.laws.specs.Base.{if, one, all_b}

-- byte n for controller n: bits 0–3 the command code sent or 0, bit 4 a request sent as trigger, bit 5 a calibration trigger sent
unfoldable pub row_byte : (code : ℕ) (sent cal : Bool) → ℕ
row_byte code sent cal = code + (16 * one sent + 32 * one cal)

-- status codes, as in a record: an even controller has the low nibble
unfoldable pub packed : List ℕ → List ℕ
packed [] = []
packed (a ∷ []) = a ∷ []
packed (a ∷ b ∷ l) = (a + 16 * b) ∷ packed l

-- crossing: a byte for each controller, then four bytes of status codes
unfoldable pub crossing_row : List ℕ → List ℕ → List ℕ
crossing_row bytes shown = bytes ++ packed shown

-- command: byte 0 is 0xF0 taken or 0xF1 not taken, the rest 0
unfoldable pub command_row : Bool → List ℕ
command_row taken = if taken 240 241 ∷ replicate 11 0

-- the crossing carried a trigger, of either kind and of any controller
unfoldable pub carries : List ℕ → Bool
carries bytes = not (all_b (λ b. ltb b 16) bytes)

-- controller 0 sent code 8
abbrev pub clears_orbit : List ℕ → Bool
clears_orbit bytes = eqb (get_or bytes 0 0 % 16) 8
