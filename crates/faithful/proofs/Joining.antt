-- A log of two pieces, the first cut between records, is salvaged as its pieces are, one after the other.
-- Its records are those of the first piece, then those of the second; the rest by induction on the parts.
use mathlib.Core.Path.{◌≡◌, refl, sym}
use mathlib.Core.Logic.{⊎_elim}
use mathlib.Core.List.{List, [], ◌++◌, append-nil, append_assoc}
use Prim.Native.Nat.{ℕ, zero, suc, ◌+◌, ◌*◌, ◌/◌, ◌%◌, ◌≤◌, ◌<◌}
use native.Mathlib.Nat.{add-zero, add-suc, add_assoc}
use native.Mathlib.Omega.{arith}
use lib.ListN.{length, drop, length-append}
use Rattle.std.proofs.lemmas.List.{nil_from_length}
use Rattle.laws.proofs.Tests.{lt_or_ge}
use Rattle.records.specs.Refusal.{records_in}
use Rattle.records.proofs.Laws.{rec_cut, rec_first, rest_left}
use Rattle.salvage.specs.Mending.{parts_in, salvaged_parts, salvaged_log}
use Rattle.salvage.specs.Changes.{changes_over, changes_in}

module _ (log : List ℕ) where
  cut_parts : (m n : ℕ) → salvaged_parts (m + n) log ≡ salvaged_parts m log ++ salvaged_parts n (drop (24 * m) log)
  unfolding salvaged_parts
  cut_parts m zero = rw (add-zero, append-nil)
  cut_parts m (suc n) = rw (add-suc, cut_parts m n, rec_cut log m n, append_assoc)

  cut_changes : (first m n : ℕ) → changes_over (m + n) first log ≡ changes_over m first log ++ changes_over n (first + m) (drop (24 * m) log)
  unfolding changes_over
  cut_changes first m zero = rw (add-zero, append-nil)
  cut_changes first m (suc n) = rw (add-suc, cut_changes first m n, rec_cut log m n, append_assoc, ← add_assoc first m n)

module _ (a b : List ℕ) where
  first_parts : (n : ℕ) → 24 * n ≤ length a → salvaged_parts n (a ++ b) ≡ salvaged_parts n a
  unfolding salvaged_parts
  first_parts zero h = refl
  first_parts (suc n) h = rw (first_parts n (omega arith), rec_first a b n (omega arith))

  first_changes : (n first : ℕ) → 24 * n ≤ length a → changes_over n first (a ++ b) ≡ changes_over n first a
  unfolding changes_over
  first_changes zero first h = refl
  first_changes (suc n) first h = rw (first_changes n first (omega arith), rec_first a b n (omega arith))

-- a whole number of records first, then anything
module _ (a b : List ℕ) (between : length a % 24 ≡ 0) where
  whole : parts_in a ≡ records_in a
  whole = omega (arith, between)

  parts_add : parts_in (a ++ b) ≡ records_in a + parts_in b
  parts_add = omega (arith, between, length-append a b)

  logs_joined : salvaged_log (a ++ b) ≡ salvaged_log a ++ salvaged_log b
  logs_joined =
      rw (parts_add, whole, cut_parts (a ++ b) (records_in a) (parts_in b), rest_left a b between, first_parts a b (records_in a) (omega arith))

  changes_joined : (first : ℕ) → changes_in first (a ++ b) ≡ changes_in first a ++ changes_in (first + length a / 24) b
  changes_joined first =
      rw (parts_add, whole, cut_changes (a ++ b) first (records_in a) (parts_in b), rest_left a b between, first_changes a b (records_in a) first (omega arith))

-- or anything, then nothing
no_log : salvaged_log [] ≡ []
unfolding salvaged_parts
no_log = refl

no_changes : (first : ℕ) → changes_in first [] ≡ []
unfolding changes_over
no_changes first = refl

pub joined : (first : ℕ) (a b : List ℕ) → (0 < length b → length a % 24 ≡ 0)
    → (salvaged_log (a ++ b) ≡ salvaged_log a ++ salvaged_log b) × (changes_in first (a ++ b) ≡ changes_in first a ++ changes_in (first + length a / 24) b)
joined first a b between =
    ⊎_elim
    (λ (h : 0 < length b). (logs_joined a b (between h), changes_joined a b (between h) first))
    (λ (h : length b ≤ 0).
    let none = nil_from_length b (omega arith) in
    (rw (none, append-nil a, no_log) (sym (append-nil (salvaged_log a))), rw (none, append-nil a, no_changes (first + length a / 24)) (sym (append-nil (changes_in first a)))))
    (lt_or_ge 0 (length b))
