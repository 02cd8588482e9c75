-- A record by its first four bytes: of a crossing every code after them is 8, of another kind 0.
use Rattle.std.specs.Prelude.{List, ◌∷◌, ℕ, ◌%◌, eqb, replicate}
use Rattle.laws.specs.Base.{if}

unfoldable pub record_of : (a b c d : ℕ) → List ℕ
record_of a b c d = a % 256 ∷ b % 256 ∷ c % 256 ∷ d % 256 ∷ replicate 20 (if (eqb (a % 256) 0) 136 0)
