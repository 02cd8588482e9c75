-- The numbers of a line that spaces divide.
use Rattle.std.specs.Prelude.{List, ℕ, zero, suc, ◌+◌, ◌-◌, ◌*◌, ◌%◌, ◌^◌, eqb, ltb, length, get_or}
use Rattle.laws.specs.Base.{if, one}

-- how many of the first n bytes are spaces
unfoldable pub spaces_in : ℕ → List ℕ → ℕ
spaces_in zero line = 0
spaces_in (suc n) line = spaces_in n line + one (eqb (get_or line n 0) 32)

-- a number with one digit more, of at most 18; what is no digit changes nothing
unfoldable pub digit_more : ℕ → ℕ → ℕ
digit_more value b = if (ltb b 48) value (if (ltb 57 b) value (value % 10 ^ 17 * 10 + (b - 48)))

-- the digits among the first n bytes that stand after as many spaces and before the next
unfoldable pub number_in : ℕ → List ℕ → ℕ → ℕ
number_in skip line zero = 0
number_in skip line (suc n) = let before = number_in skip line n in if (eqb (spaces_in n line) skip) (digit_more before (get_or line n 0)) before

-- the number after as many spaces of a line
unfoldable pub number_after : ℕ → List ℕ → ℕ
number_after skip line = number_in skip line (length line)
