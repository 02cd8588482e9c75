-- Document 01, "Records and rows": the codes of a record, its bytes 3 to 23, by input.
use Rattle.std.specs.Prelude.{ℕ, ◌+◌, ◌/◌, ◌%◌, ◌<◌, ◌≡◌, List, eqb, length, get_or}
use Rattle.laws.specs.Base.{if}

-- inputs 2k and 2k + 1, partitions first and then aTTS, share a byte: the even one has the low nibble. The GTFE code has its own.
unfoldable pub code_at : List ℕ → ℕ → ℕ
code_at codes i =
    if (eqb i 40) (get_or codes 0 0)
    (let b = get_or codes (1 + i / 2) 0 in if (eqb (i % 2) 0) (b % 16) (b / 16))

-- 21 bytes, of which the GTFE code is 0 to 15
pub record Coded (codes : List ℕ) : Type 0 where
  pub long : length codes ≡ 21
  pub gtfe : get_or codes 0 0 < 16
  pub bytes : (n : ℕ) → get_or codes n 0 < 256
