-- A turn of the loops over the parts of a log: what the parts so far give, and what this one adds to it.
-- The part of turn i is `rec_at log i`, so a turn is one part more of either definition.
use mathlib.Core.Path.{◌≡◌, ap}
use mathlib.Core.List.{List, ◌++◌}
use Prim.Native.Nat.{ℕ, ◌+◌, ◌≤◌}
use native.Mathlib.Omega.{arith}
use lib.ListN.{length, length-append}
use Rattle.std.specs.declared.iter.Enumerate.{Enumerate}
use Rattle.std.specs.declared.slice.Chunks.{Chunks}
use Rattle.std.specs.Iterator.Adapters.{enumerate_count}
use Rattle.records.specs.Records.{rec_at}
use Rattle.records.proofs.Chunks.{Turn}
use Rattle.salvage.specs.Mending.{parts_in, salvaged_part, salvaged_parts, salvaged_log}
use Rattle.salvage.specs.Changes.{changes_of, changes_over, changes_in, list_text}
use Rattle.salvage.proofs.Laws.{grows, parts_next, list_next}

-- what the parts before a turn give
abbrev pub parts_to : Enumerate (Chunks ℕ) → List ℕ → List ℕ
parts_to it log = salvaged_parts (enumerate_count it) log

abbrev pub list_to : Enumerate (Chunks ℕ) → (first : ℕ) → List ℕ → List ℕ
list_to it first log = list_text (changes_over (enumerate_count it) first log)

module _ (first : ℕ) (log : List ℕ) (it next : Enumerate (Chunks ℕ)) (i : ℕ) (part : List ℕ) (t : Turn 24 log it next i part) where
  pub parts_on : parts_to next log ≡ parts_to it log ++ salvaged_part part
  parts_on = rw (t.on, ← t.place, t.is) (parts_next i log)

  pub list_on : list_to next first log ≡ list_to it first log ++ list_text (changes_of (first + i) part)
  list_on = rw (t.on, ← t.place, t.is) (list_next i first log)

  pub inside : enumerate_count next ≤ parts_in log
  inside = omega (arith, t.on, t.more)

  pub parts_room : length (parts_to it log) + length (salvaged_part part) ≤ length (salvaged_log log)
  parts_room =
      let more = grows (λ n. salvaged_parts n log) (λ n. salvaged_part (rec_at log n)) (λ n. parts_next n log) (enumerate_count next) (parts_in log) inside in
      omega (arith, more, ap length parts_on, length-append (parts_to it log) (salvaged_part part))

  pub list_room : length (list_to it first log) + length (list_text (changes_of (first + i) part)) ≤ length (list_text (changes_in first log))
  list_room =
      let more =
      grows (λ n. list_text (changes_over n first log)) (λ n. list_text (changes_of (first + n) (rec_at log n))) (λ n. list_next n first log) (enumerate_count next) (parts_in log) inside in
      omega (arith, more, ap length list_on, length-append (list_to it first log) (list_text (changes_of (first + i) part)))
