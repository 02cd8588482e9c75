-- Laws of a record's codes: byte j has those of inputs j + j and j + j + 1, and each is below 16.
-- The byte and the nibble of an input are plain arithmetic.
use mathlib.Core.Path.{◌≡◌}
use mathlib.Core.List.{List}
use Prim.Native.Nat.{ℕ, ◌+◌, ◌/◌, ◌%◌, ◌<◌}
use native.Mathlib.Omega.{arith}
use lib.ListN.{get_or}
use Rattle.status.specs.Codes.{code_at, Coded}

module _ (codes : List ℕ) (j : ℕ) (inside : j < 20) where
  pub even_code : code_at codes (j + j) ≡ get_or codes (1 + j) 0 % 16
  unfolding code_at
  even_code = grind arith

  pub odd_code : code_at codes (j + j + 1) ≡ get_or codes (1 + j) 0 / 16
  unfolding code_at
  odd_code = grind arith

pub code_low : (codes : List ℕ) → Coded codes → (i : ℕ) → code_at codes i < 16
unfolding code_at
code_low codes good i = grind (arith, good.gtfe, good.bytes (1 + i / 2))
