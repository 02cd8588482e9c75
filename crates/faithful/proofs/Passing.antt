-- A log of well-formed records comes out as it was with an empty list.
-- Each byte of such a record is its own mend; the log by induction on its records.
use mathlib.Core.Path.{◌≡◌, refl, ◌∙◌}
use mathlib.Core.Bool.{true}
use mathlib.Core.List.{List, []}
use Prim.Native.Nat.{ℕ, zero, suc, ◌+◌, ◌*◌, ◌≤◌, ◌<◌}
use native.Mathlib.Omega.{arith}
use borrow.Author.Tests.{eq-eqb}
use lib.ListN.{length, get_or, take}
use lib.Seq.{take-add, take_all}
use Rattle.records.specs.Records.{rec_at, well}
use Rattle.records.specs.Refusal.{records_in}
use Rattle.records.proofs.Laws.{rec_long, well_at_lem}
use Rattle.salvage.specs.Mending.{parts_in, salvaged_part, salvaged_parts}
use Rattle.salvage.specs.Changes.{changes_to, changes_of, changes_over}
use Rattle.salvage.proofs.Laws.{part_kept, byte_same, entries_kept}
use Rattle.faithful.specs.Faithful.{Formed, LogPasses}
use Rattle.faithful.proofs.Mending.{same_byte, well_kept, mended_same}

no_entry_lem : (k n : ℕ) (rec : List ℕ) → k ≤ 24 → length rec ≡ 24 → well rec ≡ true → changes_to k n rec ≡ []
unfolding changes_to
no_entry_lem zero n rec h long w = refl
no_entry_lem (suc k) n rec h long w =
    rw (no_entry_lem k n rec (omega arith) long w)
    (byte_same n (get_or rec 0 0) k (get_or rec k 0) (eq-eqb _ _ (same_byte rec long w k h)))

part_passes : (n : ℕ) (rec : List ℕ) → length rec ≡ 24 → well rec ≡ true → (salvaged_part rec ≡ rec) × (changes_of n rec ≡ [])
part_passes n rec long w =
    let kept = well_kept rec long w in
    (part_kept rec kept ∙ mended_same rec long w, entries_kept n rec kept ∙ no_entry_lem 24 n rec (omega arith) long w)

module _ (first : ℕ) (log : List ℕ) (f : Formed log) where
  passes_at : (i : ℕ) → i < records_in log → (salvaged_part (rec_at log i) ≡ rec_at log i) × (changes_of (first + i) (rec_at log i) ≡ [])
  passes_at i h =
      part_passes (first + i) (rec_at log i) (rec_long log i (records_in log) (omega (arith, f.whole)) h) (well_at_lem (records_in log) log f.well i h)

  parts_pass : (n : ℕ) → n ≤ records_in log → salvaged_parts n log ≡ take (24 * n) log
  unfolding salvaged_parts
  parts_pass zero h = refl
  parts_pass (suc n) h =
      let next : 24 * suc n ≡ 24 * n + 24 = omega arith in
      rw (next, take-add (24 * n) 24 log, parts_pass n (omega arith), (passes_at n h).0)

  none_over : (n : ℕ) → n ≤ records_in log → changes_over n first log ≡ []
  unfolding changes_over
  none_over zero h = refl
  none_over (suc n) h = rw (none_over n (omega arith)) (passes_at n h).1

pub log_passes : LogPasses
log_passes first log f =
    let all : parts_in log ≡ records_in log = omega (arith, f.whole) in
    let long : length log ≤ 24 * records_in log = omega (arith, f.whole) in (
      rw (all, parts_pass first log f (records_in log) (omega arith)) (take_all (24 * records_in log) log long),
      rw all (none_over first log f (records_in log) (omega arith)),
    )
