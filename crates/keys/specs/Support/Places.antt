-- Keys laid one after the other, each with its `=`, and where each begins.
use Rattle.std.specs.Prelude.{ℕ, ◌+◌, List, [], ◌∷◌, ◌++◌, length, take}
use Rattle.text.specs.Lines.{line_head}

abbrev pub line_heads : List (List ℕ) → List ℕ
line_heads [] = []
line_heads (k ∷ ks) = line_head k ++ line_heads ks

-- where the nth begins
unfoldable pub start_of : List (List ℕ) → ℕ → ℕ
start_of ks n = length (line_heads (take n ks))

-- where each begins, the first at a, and where the last ends
abbrev pub starts_from : ℕ → List (List ℕ) → List ℕ
starts_from a [] = a ∷ []
starts_from a (k ∷ ks) = a ∷ starts_from (a + length (line_head k)) ks
