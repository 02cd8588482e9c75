-- Laws of one written line: its length, and that it is laid by its key, its number and its newline in turn.
-- `put_append` twice.
use mathlib.Core.Path.{◌≡◌, ◌∙◌}
use mathlib.Core.List.{List, [], ◌∷◌, ◌++◌}
use Prim.Native.Nat.{ℕ, ◌+◌, ◌≤◌}
use native.Mathlib.Omega.{arith}
use lib.ListN.{length, length-append}
use Rattle.text.specs.Bytes.{put}
use Rattle.text.specs.Decimal.{decimal}
use Rattle.text.specs.Lines.{line_text}
use Rattle.text.proofs.Bytes.{put_append, length_put}

pub row_length : (h : List ℕ) (n : ℕ) → length (line_text h n) ≡ length h + length (decimal n) + 1
unfolding line_text
row_length h n = simp length-append (omega arith)

pub put_row : (d : List ℕ) (at : ℕ) (h : List ℕ) (n : ℕ) → at + length (line_text h n) ≤ length d
    → put d at (line_text h n) ≡ put (put (put d at h) (at + length h) (decimal n)) (at + length h + length (decimal n)) (10 ∷ [])
unfolding line_text
put_row d at h n room =
    let fits : at + (length h + length (decimal n) + 1) ≤ length d = omega (arith, row_length h n) in
    let same : length (put d at h) ≡ length d = length_put d at h (omega arith) in
    put_append d at h (decimal n ++ (10 ∷ [])) (omega arith)
    ∙ put_append (put d at h) (at + length h) (decimal n) (10 ∷ []) (omega arith)
