-- `keys::ranges::range` meets its contract: the limits told place by place are those of the table of lines.
-- The checker computes the one into the other.
use mathlib.Core.Path.{◌≡◌, refl, sym, ap, ◌∙◌}
use mathlib.Core.List.{List}
use Prim.Native.Nat.{ℕ, ◌<◌}
use native.Mathlib.Nat.{zero-add}
use native.Mathlib.Omega.{arith}
use lib.ListN.{get_or}
use Rattle.laws.specs.Base.{tabulate}
use Rattle.laws.proofs.Over.{get_d_tabulate}
use Rattle.text.specs.declared.Range.{Range}
use Rattle.text.specs.Lines.{ranges_of}
use Rattle.keys.specs.Support.Lines.{lines, line_count, limits_of, nowhere, range_at}
use Rattle.keys.proofs.ranges.range.Goals as goal

told : ℕ → Range
told n = record { low = (limits_of n).0; high = (limits_of n).1; digits = 5 }

same : tabulate told 0 line_count ≡ ranges_of lines
unfolding told tabulate lines
same = refl

ranged : (n : ℕ) → n < line_count → range_at n ≡ told n
unfolding range_at
ranged n h = ap (λ (rs : List Range). get_or rs n nowhere) (sym same) ∙ get_d_tabulate told 0 line_count n nowhere h ∙ ap told (zero-add n)

pub returns : goal.returns
unfolding told
returns c =
    (ap (λ (p : ℕ × ℕ). record { low = p.0; high = p.1; digits = 5 }) c.limits-low.ensures ∙ sym (ranged _ c.requires), omega arith, omega arith)
