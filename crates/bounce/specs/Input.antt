-- Document 02, P1, of one input and by the records alone: what it carried, and what it is believed to carry.
use Rattle.std.specs.Prelude.{ℕ, zero, suc, ◌<◌, ◌≡◌, List}
use Rattle.laws.specs.Base.{if}
use Rattle.settings.specs.declared.Settings.{Settings}
use Rattle.status.specs.Codes.{code_at}
use Rattle.steady.specs.declared.Held.{Held}
use Rattle.steady.specs.Steady.{steady}
use Rattle.records.specs.Records.{rec_at, is_crossing, codes_in}
use Rattle.records.specs.Refusal.{records_in}
use Rattle.daybook.specs.Whole.{Taken, whole}

-- in the crossing that record i is
abbrev pub code_now : (log : List ℕ) (x i : ℕ) → ℕ
code_now log x i = code_at (codes_in (rec_at log i)) x

-- in the last crossing before record i, whatever commands lie between; 0 where there was none
unfoldable pub code_before : (log : List ℕ) (x i : ℕ) → ℕ
code_before log x zero = 0
code_before log x (suc i) = if (is_crossing (rec_at log i)) (code_now log x i) (code_before log x i)

-- what it is believed to carry before record i: a fresh board believes 0
unfoldable pub believed_before : (log : List ℕ) (x i : ℕ) → ℕ
believed_before log x zero = 0
believed_before log x (suc i) =
    if (is_crossing (rec_at log i)) (steady (code_before log x i) (believed_before log x i) (code_now log x i)) (believed_before log x i)

-- a board that took the log holds these two codes
pub record Holds (log : List ℕ) (h : Held) (x : ℕ) : Type 0 where
  pub carried : code_at h.carried x ≡ code_before log x (records_in log)
  pub believed : code_at h.believed x ≡ believed_before log x (records_in log)

-- of each of the 41 inputs, in any log that a fresh board accepts
abbrev pub Holding : Type 0
Holding = (s : Settings) (log buffer : List ℕ) → Taken s log buffer → (x : ℕ) → x < 41 → Holds log (whole s log buffer).board.held x
