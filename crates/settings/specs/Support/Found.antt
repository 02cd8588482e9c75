-- What a search gives in code, of the number that a definition gives: a number that stands for "none" is `None`.
use Rattle.std.specs.Prelude.{ℕ, Option, Some, None, ltb}
use Rattle.laws.specs.Base.{if}

-- a controller, where 8 is none
abbrev pub place_found : ℕ → Option ℕ
place_found k = if (ltb k 8) (Some k) None

-- a line, where 0 is none
abbrev pub line_found : ℕ → Option ℕ
line_found n = if (ltb 0 n) (Some n) None
