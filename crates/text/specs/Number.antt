-- Document 01, "Settings text": values are decimal, one to k digits, no leading zero (but `0`), ended by one newline.
use Rattle.std.specs.Prelude.{ℕ, ◌+◌, ◌-◌, ◌*◌, Bool, ◌&&◌, List, [], ◌∷◌, leb, ltb, eqb}
use Rattle.laws.specs.Base.{if}

-- the value, and what follows the newline; or no number stands there
pub data Parsed : Type 0 where
  value : ℕ → List ℕ → Parsed
  none : Parsed

abbrev pub is_digit : ℕ → Bool
is_digit b = leb 48 b && leb b 57

-- its value; 10 for any other byte
abbrev pub digit_of : ℕ → ℕ
digit_of b = if (is_digit b) (b - 48) 10

-- v was read; at most k digits more, then the newline
abbrev pub more : ℕ → ℕ → List ℕ → Parsed
more k v [] = none
more k v (b ∷ t) =
    let on = more (k - 1) (v * 10 + (b - 48)) t in
    if (eqb b 10) (value v t) (if (ltb 0 k && is_digit b) on none)

-- a digit, and then digits only if it is no zero
unfoldable pub number : ℕ → List ℕ → Parsed
number k [] = none
number k (b ∷ t) = if (is_digit b) (more (if (eqb b 48) 0 (k - 1)) (b - 48) t) none
