-- The values that an edition's lines give are in their ranges, and those of the newest edition are what follows its first number.
-- Each value has the range of the line that gives it; both facts of the tables are known of each edition.
use mathlib.Core.Path.{◌≡◌, refl, sym, ap, ◌∙◌}
use mathlib.Core.Bool.{true}
use mathlib.Core.List.{List, [], ◌∷◌}
use Prim.Native.Nat.{ℕ, ◌<◌}
use native.Mathlib.Nat.{zero-add}
use native.Mathlib.Numerals.{add-one}
use native.Mathlib.Omega.{arith}
use lib.Dec.{eqb, lit<, lit≤}
use lib.ListN.{length, get_or, length-map}
use lib.Seq.{ext_get_or}
use Rattle.laws.specs.Base.{tabulate}
use Rattle.laws.proofs.Bools.{if_has}
use Rattle.laws.proofs.Over.{length_tabulate, get_d_tabulate}
use Rattle.text.specs.declared.Range.{Range}
use Rattle.text.specs.Lines.{ranges_of, within, first_out, all, read_lines}
use Rattle.text.proofs.Tables.{Read, in_range_at, all_in_range, lines_written}
use Rattle.keys.specs.Settings.{newest, value_lines, table_of}
use Rattle.keys.specs.Support.Lines.{nowhere}
use Rattle.settings.specs.declared.Settings.{Settings}
use Rattle.settings.specs.Check.{out_of_range}
use Rattle.settings.specs.Lows.{lows_cleared}
use Rattle.settings.proofs.Passed.{Passed}
use Rattle.settings.proofs.Lows.{lows_pass, lows_long}
use Rattle.editions.specs.Read.{laid_out, warn_blocks, settled}
use Rattle.editions.specs.Support.Tables.{count_of, source_of}
use Rattle.editions.proofs.Known.{Known, known, source_inside}

module _ (e : ℕ) (k : Known e) (ns : List ℕ) (long : length ns ≡ count_of e) (inside : first_out (ranges_of (table_of e)) 1 ns ≡ 0) where
  abbrev value : ℕ → ℕ
  value n = get_or ns (source_of e n) 0

  abbrev range : ℕ → Range
  range n = get_or (ranges_of (table_of e)) (source_of e n) nowhere

  ranges_long : length (ranges_of value_lines) ≡ 147
  ranges_long = ap length (sym k.ranges) ∙ length_tabulate range 0 147

  range_is : (n : ℕ) → n < 147 → get_or (ranges_of value_lines) n nowhere ≡ range n
  range_is n h = ap (λ (rs : List Range). get_or rs n nowhere) (sym k.ranges) ∙ get_d_tabulate range 0 147 n nowhere h ∙ rw zero-add

  value_is : (n : ℕ) → n < 147 → get_or (tabulate value 0 147) n 0 ≡ value n
  value_is n h = get_d_tabulate value 0 147 n 0 h ∙ rw zero-add

  each_in : (n : ℕ) → n < length (ranges_of value_lines) → within (get_or (ranges_of value_lines) n nowhere) (get_or (tabulate value 0 147) n 0) ≡ true
  each_in n h =
      let few : n < 147 = omega (arith, ranges_long) in
      let there : source_of e n < length (ranges_of (table_of e)) = rw (length-map, k.long) (source_inside e k n few) in
      rw (range_is n few, value_is n few) (in_range_at (ranges_of (table_of e)) ns 1 (lit< tt) inside (source_of e n) nowhere there)

  pub laid_inside : out_of_range (laid_out e ns) ≡ 0
  unfolding out_of_range
  laid_inside =
      rw (k.laid ns) (all_in_range (ranges_of value_lines) (tabulate value 0 147) 2 nowhere (length_tabulate value 0 147 ∙ sym ranges_long) each_in)

  pub laid_long : length (laid_out e ns).values ≡ 147
  laid_long = ap length (k.laid ns) ∙ length_tabulate value 0 147

-- so are those of any lines that were read
module _ (e : ℕ) (k : Known e) (t ns : List ℕ) (is : read_lines (table_of e) [] t ≡ all ns []) where
  abbrev pub lines_read : Read (table_of e) [] t ns [] 1
  lines_read = lines_written (table_of e) [] t ns [] 1 is

  pub numbers_long : length ns ≡ count_of e
  numbers_long = ap length lines_read.are ∙ lines_read.long ∙ k.long

  numbers_inside : first_out (ranges_of (table_of e)) 1 ns ≡ 0
  numbers_inside = ap (first_out (ranges_of (table_of e)) 1) lines_read.are ∙ lines_read.inside

  pub read_inside : out_of_range (laid_out e ns) ≡ 0
  read_inside = laid_inside e k ns numbers_long numbers_inside

  pub read_long : length (laid_out e ns).values ≡ 147
  read_long = laid_long e k ns numbers_long numbers_inside

-- ---- where the low limits become 0

module _ (e : ℕ) (ns : List ℕ) where
  pub settled_pass : Passed (laid_out e ns) → Passed (settled e ns)
  unfolding settled
  settled_pass p =
      if_has (λ (s : Settings). Passed s) (eqb (warn_blocks e ns) 1) (lows_cleared (laid_out e ns)) (laid_out e ns) (λ y. lows_pass (laid_out e ns) p) (λ y. p)

  pub settled_long : length (settled e ns).values ≡ length (laid_out e ns).values
  unfolding settled
  settled_long =
      if_has (λ (s : Settings). length s.values ≡ length (laid_out e ns).values) (eqb (warn_blocks e ns) 1) (lows_cleared (laid_out e ns)) (laid_out e ns)
      (λ y. lows_long (laid_out e ns)) (λ y. refl)

-- the newest edition's values follow its first number
pub newest_laid : (v : ℕ) (vs : List ℕ) → length vs ≡ 147 → (laid_out newest (v ∷ vs)).values ≡ vs
newest_laid v vs long =
    let k = known newest (lit< tt) (lit≤ tt) in
    let value : ℕ → ℕ = λ n. get_or (v ∷ vs) (source_of newest n) 0 in
    k.laid (v ∷ vs)
    ∙ ext_get_or 0 (tabulate value 0 147) vs (length_tabulate value 0 147 ∙ sym long)
    (λ n h. let few : n < 147 = rw length_tabulate at h in get_d_tabulate value 0 147 n 0 few ∙ rw (zero-add, add-one))
