-- What is known of each edition: that the code's places and sources are those of its table. A new edition is one more such fact.
-- Each part is computed from the tables.
use mathlib.Core.Path.{◌≡◌, refl, sym, ap, ◌∙◌}
use mathlib.Core.Bool.{true}
use mathlib.Core.List.{List}
use Prim.Native.Nat.{ℕ, zero, suc, ◌≤◌, ◌<◌}
use native.Mathlib.Nat.{zero-add}
use native.Mathlib.Omega.{arith}
use borrow.Author.Tests.{ltb-true}
use lib.Dec.{ltb}
use lib.ListN.{length, get_or}
use Rattle.laws.specs.Base.{all_b, first_not, tabulate}
use Rattle.laws.proofs.First.{first_holds}
use Rattle.laws.proofs.Over.{get_d_tabulate}
use Rattle.text.specs.Lines.{Entry, ranges_of, sensible}
use Rattle.keys.specs.Settings.{newest, value_lines, table_of}
use Rattle.keys.specs.Support.Lines.{lines, line_count, nowhere}
use Rattle.keys.proofs.Lines.{no_entry}
use Rattle.editions.specs.Read.{sources, laid_out}
use Rattle.editions.specs.declared.tables.Edition.{Edition}
use Rattle.editions.specs.declared.tables.Edition.TheVariants.{First, Second, Third}
use Rattle.editions.specs.Support.Tables.{number_of, count_of, place_of, source_of}

pub record Known (e : ℕ) : Type 0 where
  pub long : length (table_of e) ≡ count_of e
  pub some : 0 < count_of e
  pub most : count_of e ≤ 149
  pub inside : first_not (λ n. ltb (place_of e n) line_count) (count_of e) 0 ≡ count_of e
  pub entries : tabulate (λ n. get_or lines (place_of e n) no_entry) 0 (count_of e) ≡ table_of e
  pub good : sensible (ranges_of (table_of e)) ≡ true
  -- the values of the settings: which lines give them, and that these have their ranges
  pub given : first_not (λ n. ltb (source_of e n) (count_of e)) 147 0 ≡ 147
  pub laid : (ns : List ℕ) → (laid_out e ns).values ≡ tabulate (λ n. get_or ns (source_of e n) 0) 0 147
  pub ranges : tabulate (λ n. get_or (ranges_of (table_of e)) (source_of e n) nowhere) 0 147 ≡ ranges_of value_lines

pub known_edition : (e : Edition) → Known (number_of e)
unfolding table_of lines value_lines all_b first_not tabulate sources laid_out
known_edition First =
    record { long = refl; some = omega arith; most = omega arith; inside = refl; entries = refl; good = refl; given = refl; laid = λ ns. refl; ranges = refl }
known_edition Second =
    record { long = refl; some = omega arith; most = omega arith; inside = refl; entries = refl; good = refl; given = refl; laid = λ ns. refl; ranges = refl }
known_edition Third =
    record { long = refl; some = omega arith; most = omega arith; inside = refl; entries = refl; good = refl; given = refl; laid = λ ns. refl; ranges = refl }

pub known : (e : ℕ) → 0 < e → e ≤ newest → Known e
known zero some most = absurd (omega arith)
known (suc zero) some most = known_edition First
known (suc (suc zero)) some most = known_edition Second
known (suc (suc (suc zero))) some most = known_edition Third
known (suc (suc (suc (suc e)))) some most = absurd (omega arith)

module _ (e : ℕ) (k : Known e) (n : ℕ) where
  pub place_inside : n < count_of e → place_of e n < line_count
  place_inside h = ltb-true _ _ (first_holds (λ n. ltb (place_of e n) line_count) (count_of e) k.inside n h)

  pub entry_is : n < count_of e → get_or (table_of e) n no_entry ≡ get_or lines (place_of e n) no_entry
  entry_is h =
      ap (λ (ls : List Entry). get_or ls n no_entry) (sym k.entries) ∙ get_d_tabulate (λ n. get_or lines (place_of e n) no_entry) 0 (count_of e) n no_entry h ∙ rw zero-add

  pub source_inside : n < 147 → source_of e n < count_of e
  source_inside h = ltb-true _ _ (first_holds (λ n. ltb (source_of e n) (count_of e)) 147 k.given n h)
