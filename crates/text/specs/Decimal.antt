-- A number's decimal digits, without leading zeros.
use Rattle.std.specs.Prelude.{ℕ, zero, suc, ◌+◌, ◌/◌, ◌%◌, List, [], ◌∷◌, ◌++◌, ltb}
use Rattle.laws.specs.Base.{if}

-- the first argument bounds the steps: as many as n are always enough
unfoldable pub decimal_of : ℕ → ℕ → List ℕ
decimal_of zero n = (48 + n) ∷ []
decimal_of (suc k) n =
    let more = decimal_of k (n / 10) ++ ((48 + n % 10) ∷ []) in
    if (ltb n 10) ((48 + n) ∷ []) more

unfoldable pub decimal : ℕ → List ℕ
decimal n = decimal_of n n
