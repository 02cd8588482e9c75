-- What a call leaves: a success its two texts at the front of the buffers, and no call more bytes than a buffer has.
-- Each refusal is an arm of the definition that succeeds in nothing and writes nothing.
use mathlib.Core.Path.{◌≡◌, refl, sym, ◌∙◌}
use mathlib.Core.Bool.{true, false, false≢true}
use mathlib.Core.List.{List}
use Prim.Native.Nat.{ℕ, ◌+◌, ◌≤◌, min}
use native.Mathlib.Nat.{zero-add}
use native.Mathlib.Omega.{arith}
use borrow.Author.Tests.{leb-true}
use lib.Dec.{leb}
use lib.ListN.{length, take}
use Rattle.laws.proofs.Bools.{if_has}
use Rattle.answer.specs.Told.{Told, succeeded, DONE, RANGE, ROOM}
use Rattle.text.specs.Bytes.{put}
use Rattle.text.proofs.Bytes.{length_put}
use Rattle.salvage.specs.Mending.{parts_in, salvaged_log}
use Rattle.salvage.specs.Changes.{changes_in, list_text}
use Rattle.salvage.specs.Salvage.{MOST, SalvageOut, refused_with, salvage_of}
use Rattle.salvage.proofs.Laws.{front_is}

module _ (first : ℕ) (log salvaged changes : List ℕ) where
  abbrev out : List ℕ
  out = salvaged_log log

  abbrev list : List ℕ
  list = list_text (changes_in first log)

  -- what holds of the success and of every refusal holds of the call
  pub each : (P : SalvageOut → Type 0) → ((a : Told) → succeeded a ≡ false → P (refused_with a salvaged changes))
      → (first + parts_in log ≤ MOST → length out ≤ length salvaged → length list ≤ length changes
      → P (record { answer = DONE; log = length out; list = length list; salvaged = put salvaged 0 out; changes = put changes 0 list }))
      → P (salvage_of first log salvaged changes)
  unfolding salvage_of
  each P refused done =
      if_has P (leb (first + parts_in log) MOST) _ _
      (λ e. if_has P (leb (length out) (length salvaged)) _ _
      (λ f. if_has P (leb (length list) (length changes)) _ _ (λ g. done (leb-true _ _ e) (leb-true _ _ f) (leb-true _ _ g)) (λ g. refused (ROOM (min (length list) MOST)) refl))
      (λ f. refused (ROOM (length out)) refl))
      (λ e. refused (RANGE first) refl)

  pub accepted_leaves : succeeded (salvage_of first log salvaged changes).answer ≡ true
      → (first + parts_in log ≤ MOST)
      × (take (salvage_of first log salvaged changes).log (salvage_of first log salvaged changes).salvaged ≡ out)
      × (take (salvage_of first log salvaged changes).list (salvage_of first log salvaged changes).changes ≡ list)
  accepted_leaves =
      each (λ (o : SalvageOut). succeeded o.answer ≡ true → (first + parts_in log ≤ MOST) × (take o.log o.salvaged ≡ out) × (take o.list o.changes ≡ list))
      (λ a no yes. absurd (false≢true (sym no ∙ yes)))
      (λ numbers log_room list_room yes. (numbers, front_is salvaged out _ _ (sym (zero-add _), refl), front_is changes list _ _ (sym (zero-add _), refl)))

  pub written_within : ((salvage_of first log salvaged changes).log ≤ length (salvage_of first log salvaged changes).salvaged)
      × ((salvage_of first log salvaged changes).list ≤ length (salvage_of first log salvaged changes).changes)
  written_within =
      each (λ (o : SalvageOut). (o.log ≤ length o.salvaged) × (o.list ≤ length o.changes))
      (λ a no. (omega arith, omega arith))
      (λ numbers log_room list_room. (omega (arith, length_put salvaged 0 out (omega arith)), omega (arith, length_put changes 0 list (omega arith))))
