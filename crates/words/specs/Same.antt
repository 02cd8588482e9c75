-- Whether the first n bytes of two lists are the same.
use Rattle.std.specs.Prelude.{ℕ, zero, suc, Bool, true, ◌&&◌, List, eqb, get_or}

unfoldable pub same_bytes : ℕ → List ℕ → List ℕ → Bool
same_bytes zero a b = true
same_bytes (suc n) a b = same_bytes n a b && eqb (get_or a n 0) (get_or b n 0)
