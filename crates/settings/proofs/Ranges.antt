-- The loop that tests the ranges: what each turn and each way out says of all values, and what the check tells by it.
-- The walk over any ranges, at those of the newest edition's lines; value n has the range of the line after the edition's and n others.
use mathlib.Core.Path.{◌≡◌, refl, sym, ap, ◌∙◌}
use mathlib.Core.Bool.{true, false}
use mathlib.Core.List.{List, ◌∷◌, ◌++◌}
use Prim.Native.Nat.{ℕ, suc, ◌+◌, ◌≤◌, ◌<◌}
use native.Mathlib.Numerals.{add-one}
use native.Mathlib.Omega.{arith}
use lib.ListN.{length, drop, get_or, get_or-append}
use Rattle.answer.specs.Told.{RANGE}
use Rattle.answer.proofs.Told.{faulty, faultless}
use Rattle.text.specs.declared.Range.{Range}
use Rattle.text.specs.Lines.{ranges_of, within, first_out}
use Rattle.text.proofs.Walk.{out_here, out_later, out_none}
use Rattle.keys.specs.Settings.{opening, value_lines}
use Rattle.keys.specs.Support.Lines.{lines, nowhere, range_at}
use Rattle.settings.specs.declared.Settings.{Settings}
use Rattle.settings.specs.Relations.{Fault, relation, related}
use Rattle.settings.specs.Check.{out_of_range, checked}

pub ranged : length (ranges_of value_lines) ≡ 147
unfolding value_lines
ranged = refl

apart : ranges_of lines ≡ opening.range ∷ (ranges_of value_lines ++ drop 148 (ranges_of lines))
unfolding lines opening value_lines
apart = refl

pub value_range : (n : ℕ) → n < 147 → get_or (ranges_of value_lines) n nowhere ≡ range_at (suc n)
unfolding range_at
value_range n h =
    sym (ap (λ (rs : List Range). get_or rs (suc n) nowhere) apart ∙ get_or-append (ranges_of value_lines) (drop 148 (ranges_of lines)) nowhere n (omega (arith, ranged)))

module _ (vs : List ℕ) (n : ℕ) (long : length vs ≡ 147) (more : n < 147) (r : Range) (is : r ≡ range_at (n + 1)) where
  same : get_or (ranges_of value_lines) n nowhere ≡ r
  same = value_range n more ∙ sym (is ∙ ap range_at (add-one n))

  pub range_here : within r (get_or vs n 0) ≡ false → first_out (drop n (ranges_of value_lines)) (n + 2) (drop n vs) ≡ n + 2
  range_here e = out_here (ranges_of value_lines) vs n (n + 2) nowhere (omega (arith, ranged)) (omega arith) (rw same e)

  pub range_later : within r (get_or vs n 0) ≡ true
      → first_out (drop n (ranges_of value_lines)) (n + 2) (drop n vs) ≡ first_out (drop (n + 1) (ranges_of value_lines)) (n + 1 + 2) (drop (n + 1) vs)
  range_later e =
      let line : suc (n + 2) ≡ n + 1 + 2 = omega arith in
      rw (← line) (out_later (ranges_of value_lines) vs n (n + 2) nowhere (omega (arith, ranged)) (omega arith) (rw same e))

pub range_none : (vs : List ℕ) (n k : ℕ) → 147 ≤ n → first_out (drop n (ranges_of value_lines)) k vs ≡ 0
range_none vs n k done = out_none (ranges_of value_lines) vs n k (omega (arith, ranged))

-- ---- the check

module _ (s : Settings) (n : ℕ) (out : n ≡ out_of_range s) where
  pub range_told : 0 < n → RANGE n ≡ checked s
  unfolding checked
  range_told h = rw (← out) (sym (faulty RANGE _ n h))

  pub relation_told : n ≤ 0 → (f : Fault) → f ≡ relation s → related f ≡ checked s
  unfolding checked
  relation_told none f is = rw (← out, is) (sym (faultless RANGE _ n none))
