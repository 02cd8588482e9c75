-- Bytes as a number, the lowest first.
use Rattle.std.specs.Prelude.{ℕ, zero, suc, ◌+◌, ◌*◌, List, get_or}

-- four bytes
abbrev pub half_at : List ℕ → ℕ → ℕ
half_at s at = get_or s at 0 + 256 * (get_or s (at + 1) 0 + 256 * (get_or s (at + 2) 0 + 256 * get_or s (at + 3) 0))

-- eight bytes
abbrev pub word_at : List ℕ → ℕ → ℕ
word_at s at = half_at s at + 4294967296 * half_at s (at + 4)

-- n bytes
unfoldable pub number_of : List ℕ → ℕ → ℕ → ℕ
number_of s at zero = 0
number_of s at (suc n) = get_or s at 0 + 256 * number_of s (suc at) n
