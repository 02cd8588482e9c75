-- A crossing's row read back: the code, the triggers and the status of each controller are what was packed into it.
-- A controller's byte is one of the first eight; its status is a nibble of the last four, found by computing at each of the eight places.
use mathlib.Core.Path.{◌≡◌, refl}
use mathlib.Core.Bool.{Bool, true, false}
use mathlib.Core.List.{List}
use Prim.Native.Nat.{ℕ, zero, suc, ◌+◌, ◌*◌, ◌/◌, ◌%◌, ◌^◌, ◌<◌}
use native.Mathlib.Omega.{arith}
use borrow.Author.Tests.{eq-eqb, ne_eqb}
use lib.Dec.{eqb}
use lib.ListN.{length, get_or, get_or-append}
use Rattle.records.specs.Rows.{row_byte, packed, crossing_row, command_row}
use Rattle.records.proofs.Laws.{row_made}
use Rattle.daybook.specs.Row.{status_in, taken_in}

-- bits 4 and 5 of a byte
pub byte_sent : (c : ℕ) (s t : Bool) → c < 16 → eqb (row_byte c s t / 16 % 2) 1 ≡ s
unfolding row_byte
byte_sent c true true h = eq-eqb (row_byte c true true / 16 % 2) 1 (omega arith)
byte_sent c true false h = eq-eqb (row_byte c true false / 16 % 2) 1 (omega arith)
byte_sent c false true h = ne_eqb (row_byte c false true / 16 % 2) 1 (omega arith)
byte_sent c false false h = ne_eqb (row_byte c false false / 16 % 2) 1 (omega arith)

pub byte_cal : (c : ℕ) (s t : Bool) → c < 16 → eqb (row_byte c s t / 32 % 2) 1 ≡ t
unfolding row_byte
byte_cal c true true h = eq-eqb (row_byte c true true / 32 % 2) 1 (omega arith)
byte_cal c true false h = ne_eqb (row_byte c true false / 32 % 2) 1 (omega arith)
byte_cal c false true h = eq-eqb (row_byte c false true / 32 % 2) 1 (omega arith)
byte_cal c false false h = ne_eqb (row_byte c false false / 32 % 2) 1 (omega arith)

module _ (bytes shown : List ℕ) (b : length bytes ≡ 8) where
  pub row_byte_lem : (k : ℕ) → k < 8 → get_or (crossing_row bytes shown) k 0 ≡ get_or bytes k 0
  unfolding crossing_row
  row_byte_lem k h = get_or-append bytes (packed shown) 0 k (omega (arith, b))

low_nibble : (a c : ℕ) → a < 16 → (a + 16 * c) / 16 ^ 0 % 16 ≡ a
low_nibble a c h = omega arith

high_nibble : (a c : ℕ) → a < 16 → c < 16 → (a + 16 * c) / 16 ^ 1 % 16 ≡ c
high_nibble a c h l = omega arith

-- the status of each of the eight
module _ (bytes shown : List ℕ) (b : length bytes ≡ 8) (s : length shown ≡ 8) (low : (j : ℕ) → get_or shown j 0 < 16) where
  pub row_status : (k : ℕ) → k < 8 → status_in (crossing_row bytes shown) k ≡ get_or shown k 0
  row_status zero h = rw (row_made bytes shown b s) (low_nibble _ _ (low 0))
  row_status (suc zero) h = rw (row_made bytes shown b s) (high_nibble _ _ (low 0) (low 1))
  row_status (suc (suc zero)) h = rw (row_made bytes shown b s) (low_nibble _ _ (low 2))
  row_status (suc (suc (suc zero))) h = rw (row_made bytes shown b s) (high_nibble _ _ (low 2) (low 3))
  row_status (suc (suc (suc (suc zero)))) h = rw (row_made bytes shown b s) (low_nibble _ _ (low 4))
  row_status (suc (suc (suc (suc (suc zero))))) h = rw (row_made bytes shown b s) (high_nibble _ _ (low 4) (low 5))
  row_status (suc (suc (suc (suc (suc (suc zero)))))) h = rw (row_made bytes shown b s) (low_nibble _ _ (low 6))
  row_status (suc (suc (suc (suc (suc (suc (suc zero))))))) h = rw (row_made bytes shown b s) (high_nibble _ _ (low 6) (low 7))
  row_status (suc (suc (suc (suc (suc (suc (suc (suc k)))))))) h = absurd (omega arith)

pub row_taken : (taken : Bool) → taken_in (command_row taken) ≡ taken
unfolding command_row
row_taken true = refl
row_taken false = refl
