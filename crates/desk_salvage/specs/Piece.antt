-- A piece of the log, salvaged: which bytes it has no contract can say, but what is written of them is decided by them.
-- `pieces` (faithful/proofs/Pieces.antt): what is written of all pieces, each numbered on from those before it, is the log's salvage.
use Rattle.std.specs.Prelude.{ℕ, ◌+◌, ◌≤◌, ◌≡◌, List, length, take, true, Result, is_ok, IfOk}
use Rattle.answer.specs.declared.Refusal.{Refusal}
use Rattle.salvage.specs.declared.Lengths.{Lengths}
use Rattle.salvage.specs.Mending.{parts_in, salvaged_log}
use Rattle.salvage.specs.Changes.{changes_in, list_text}
use Rattle.salvage.specs.Salvage.{MOST}

-- what the buffers hold after it
pub record PieceDone (first : ℕ) (piece : List ℕ) (r : Result Lengths Refusal) (salvaged changes : List ℕ) : Type 0 where
  -- it is refused only where the numbers run out
  pub done : first + 256 ≤ MOST → is_ok r ≡ true
  pub numbered : is_ok r ≡ true → first + parts_in piece ≤ MOST
  pub log : IfOk r (λ written. take written.log salvaged ≡ salvaged_log piece)
  pub list : IfOk r (λ written. take written.list changes ≡ list_text (changes_in first piece))
  pub log_within : IfOk r (λ written. written.log ≤ length salvaged)
  pub list_within : IfOk r (λ written. written.list ≤ length changes)
