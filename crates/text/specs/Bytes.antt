-- Bytes: those of a quoted text, a list of them laid into another from a place, and whether a list begins with another.
use Rattle.std.specs.Prelude.{ℕ, ◌+◌, Bool, true, false, ◌&&◌, List, [], ◌∷◌, ◌++◌, eqb, length, take, drop}
use Prim.Native.String.{String}
use Prim.Native.Char.{code}

-- the bytes of a text of plain characters
unfoldable pub bytes : String → List ℕ
bytes String.[] = []
bytes (String.◌∷◌ c s) = code c ∷ bytes s

-- d with s laid over it from place at: what every writer leaves in its buffer
unfoldable pub put : List ℕ → ℕ → List ℕ → List ℕ
put d at s = take at d ++ (s ++ drop (at + length s) d)

-- t begins with k
abbrev pub starts : List ℕ → List ℕ → Bool
starts [] t = true
starts (k ∷ ks) [] = false
starts (k ∷ ks) (b ∷ t) = eqb k b && starts ks t
