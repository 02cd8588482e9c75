-- Every name has its key: the line with that key is found in the table, at the place by which the name finds its value.
-- Where the line is, is computed; for the slots, the partitions and the eight schedules by a test over all of them.
use mathlib.Core.Path.{◌≡◌, refl, ap, sym, ◌∙◌}
use mathlib.Core.Bool.{Bool}
use mathlib.Core.List.{List, [], ◌∷◌, ◌++◌}
use Prim.Native.Nat.{ℕ, ◌+◌, ◌*◌, ◌%◌, ◌<◌}
use Prim.Native.String.{String}
use native.Mathlib.Nat.{zero-add, add-zero}
use native.Mathlib.Omega.{arith}
use borrow.Author.Tests.{eqb-true}
use lib.Dec.{eqb, lit<}
use lib.ListN.{length, get_or, drop, length-take, length-drop}
use lib.Seq.{ext_get_or, get_or-take, get_or-drop}
use Rattle.laws.specs.Base.{tabulate, first_not}
use Rattle.laws.proofs.First.{first_holds}
use Rattle.laws.proofs.Over.{length_tabulate, get_d_tabulate}
use Rattle.text.specs.Bytes.{bytes}
use Rattle.text.specs.Decimal.{decimal, decimal_of}
use Rattle.keys.specs.Settings.{value_lines, table_of}
use Rattle.settings.specs.declared.Settings.{Settings}
use Rattle.settings.specs.Names.{after, schedule_at, schedule_of, times_of}
use Rattle.naming.specs.Named.{line_of, value_of, value_of_nth, at_key, at_value, at_values, Retired, NamedByKey}

-- lines of one name, numbered from 0, stand one after the other from a place on
abbrev stands_at : String → ℕ → ℕ → Bool
stands_at key first n = eqb (line_of (bytes key ++ decimal n)) (first + n)

module _ (key : String) (first count : ℕ) (all : first_not (stands_at key first) count 0 ≡ count) (s : Settings) where
  nth_named : (n : ℕ) → n < count → after s (first + n) ≡ value_of_nth s key n
  unfolding value_of_nth
  nth_named n h = ap (after s) (sym (eqb-true _ _ (first_holds (stands_at key first) count all n h)))

slots_stand : first_not (stands_at "slot" 19) 8 0 ≡ 8
unfolding line_of bytes decimal decimal_of value_lines first_not
slots_stand = refl

parts_stand : first_not (stands_at "part" 115) 32 0 ≡ 32
unfolding line_of bytes decimal decimal_of value_lines first_not
parts_stand = refl

-- the names of a schedule's lines
names : List String
names =
    "bc0" ∷ "te" ∷ "resync" ∷ "hard" ∷ "ec0" ∷ "oc0" ∷ "start" ∷ "stop" ∷ "gap" ∷ "wte" ∷ "cal" ∷ []

-- those of the eight schedules stand one after the other, the lines of one name eleven apart
abbrev at_stands : ℕ → ℕ → Bool
at_stands j k = eqb (line_of (at_key (get_or names j "") k)) (27 + 11 * k + j)

abbrev all_stand : ℕ → Bool
all_stand j = eqb (first_not (at_stands j) 8 0) 8

schedules_stand : first_not all_stand 11 0 ≡ 11
unfolding names at_key line_of bytes decimal decimal_of value_lines first_not
schedules_stand = refl

module _ (s : Settings) (k : ℕ) (low : k < 8) where
  own : k % 8 ≡ k
  own = omega arith

  -- number j by its place and by its key
  abbrev number : ℕ → ℕ
  number j = after s (27 + 11 * k + j)

  number_named : (j : ℕ) → j < 11 → at_value s (get_or names j "") k ≡ number j
  unfolding at_value
  number_named j h =
      let all = eqb-true _ _ (first_holds all_stand 11 schedules_stand j h) in
      ap (after s) (eqb-true _ _ (first_holds (at_stands j) 8 all k low))

  listed : at_values s k ≡ tabulate number 0 11
  unfolding at_values tabulate names
  listed =
      rw (number_named 0 (lit< tt), number_named 1 (lit< tt), number_named 2 (lit< tt), number_named 3 (lit< tt), number_named 4 (lit< tt), number_named 5 (lit< tt), number_named 6 (lit< tt), number_named 7 (lit< tt), number_named 8 (lit< tt), number_named 9 (lit< tt), number_named 10 (lit< tt))

  schedule_named : schedule_of s k ≡ schedule_at (at_values s k) 0
  unfolding tabulate
  schedule_named = rw own (rw add-zero at (ap (λ (l : List ℕ). schedule_at l 0) (sym listed)))

  times_named : length s.values ≡ 147 → times_of s k ≡ at_values s k
  times_named long =
      let enough : length (times_of s k) ≡ 11 = simp (length-take, length-drop) (omega arith) in
      ext_get_or 0 (times_of s k) (tabulate number 0 11) (enough ∙ sym (length_tabulate number 0 11))
      (λ i h.
      let few : i < 11 = rw enough at h in
      get_or-take 11 (drop (27 + 11 * k) s.values) i 0 few ∙ get_or-drop (27 + 11 * k) s.values i 0 ∙ sym (get_d_tabulate number 0 11 i 0 few ∙ rw zero-add))
      ∙ sym listed

pub named_by_key : NamedByKey
unfolding at_values value_of line_of bytes value_lines first_not
named_by_key s long =
    record {
      orbit = refl;
      gap = refl;
      rules = refl;
      low_limits = refl;
      ignores = refl;
      waits = refl;
      slot = nth_named "slot" 19 8 slots_stand s;
      schedule = schedule_named s;
      times = λ k low. times_named s k low long;
      part = nth_named "part" 115 32 parts_stand s;
    }

pub retired : Retired
unfolding line_of bytes value_lines table_of first_not
retired = record { first = refl; second = refl; gone = refl }
