-- A table with the right number at each place is the table of its definition.
-- Two lists of numbers are the same where they agree at each place.
use mathlib.Core.Path.{◌≡◌, sym, ◌∙◌}
use mathlib.Core.List.{List}
use Prim.Native.Nat.{ℕ, ◌<◌}
use native.Mathlib.Nat.{zero-add}
use native.Mathlib.Omega.{arith}
use lib.ListN.{length, get_or}
use Rattle.std.proofs.lemmas.Grind.{same_number_lists}
use Rattle.laws.specs.Base.{tabulate}
use Rattle.laws.proofs.Over.{length_tabulate, get_d_tabulate}

pub tabulated : (f : ℕ → ℕ) (n : ℕ) (l : List ℕ) → length l ≡ n → ((k : ℕ) → k < n → get_or l k 0 ≡ f k) → l ≡ tabulate f 0 n
tabulated f n l long each =
    same_number_lists l (tabulate f 0 n) (long ∙ sym (length_tabulate f 0 n))
    (λ k h. let g : k < n = omega arith in each k g ∙ sym (get_d_tabulate f 0 n k 0 g ∙ rw zero-add))
