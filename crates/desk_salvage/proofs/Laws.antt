-- A piece salvaged into buffers that have room for every piece: refused only where numbers run out, and what is written is its salvage.
-- The room is enough by the promise of the crate `faithful`; the rest is what a success leaves.
use Rattle.std.specs.Prelude.{Result, Ok, Err}
use mathlib.Core.Path.{◌≡◌, refl, sym, ap, subst, ◌∙◌}
use mathlib.Core.Bool.{true, false≢true}
use mathlib.Core.List.{List}
use Prim.Native.Nat.{ℕ, ◌+◌, ◌≤◌, ◌<◌}
use native.Mathlib.Omega.{arith}
use lib.ListN.{length, get_or, take}
use Rattle.answer.specs.declared.Refusal.{Refusal}
use Rattle.answer.specs.Told.{succeeded}
use Rattle.answer.proofs.Told.{refused}
use Rattle.salvage.specs.declared.Lengths.{Lengths}
use Rattle.salvage.specs.Mending.{parts_in, salvaged_log}
use Rattle.salvage.specs.Changes.{changes_in, list_text}
use Rattle.salvage.specs.Salvage.{MOST, SalvageOut, salvage_out, salvage_of}
use Rattle.salvage.proofs.Leaves.{accepted_leaves, written_within}
use Rattle.faithful.proofs.Room.{room_enough}
use Rattle.desk_salvage.specs.Piece.{PieceDone}

pub piece_done : (first : ℕ) (piece salvaged changes : List ℕ) (r : Result Lengths Refusal) (s c : List ℕ) → ((k : ℕ) → get_or piece k 0 < 256) → length piece ≤ 6144
    → 6144 ≤ length salvaged → 319488 ≤ length changes → salvage_out r s c ≡ salvage_of first piece salvaged changes → PieceDone first piece r s c
piece_done first piece salvaged changes (Ok written) s c bytes short out list e =
    let left =
    subst
    (λ (o : SalvageOut). succeeded o.answer ≡ true → (first + parts_in piece ≤ MOST) × (take o.log o.salvaged ≡ salvaged_log piece) × (take o.list o.changes ≡ list_text (changes_in first piece)))
    (sym e) (accepted_leaves first piece salvaged changes) refl in
    let within = subst (λ (o : SalvageOut). (o.log ≤ length o.salvaged) × (o.list ≤ length o.changes)) (sym e) (written_within first piece salvaged changes) in
    record { done = λ numbers. refl; numbered = λ done. left.0; log = left.1; list = left.2; log_within = within.0; list_within = within.1 }
piece_done first piece salvaged changes (Err refusal) s c bytes short out list e =
    record {
      done = λ numbers.
          let done = ap (λ (o : SalvageOut). o.answer) e ∙ room_enough first piece salvaged changes bytes (omega arith) (omega arith) (omega arith) in
          sym (refused refusal) ∙ ap succeeded done;
      numbered = λ done. absurd (false≢true done);
      log = tt;
      list = tt;
      log_within = tt;
      list_within = tt;
    }
