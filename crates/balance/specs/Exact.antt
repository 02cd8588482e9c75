-- Document 01, "Cycle and trigger": who sends, in every crossing, by settings, records and rows alone. A desk that keeps a request back
-- without a cause, or sends one against a cause, does not meet this.
use Rattle.std.specs.Prelude.{ℕ, ◌<◌, ◌≡◌, Bool, not, ◌&&◌, List}
use Rattle.settings.specs.declared.Settings.{Settings}
use Rattle.settings.specs.Names.{gap_of}
use Rattle.counts.specs.Counts.{in_gap}
use Rattle.daybook.specs.Whole.{Taken, Crossing, whole}
use Rattle.balance.specs.Reading.{Look, clear, look_at, opens, asks_for, reading_of}

-- a request is due where it is asked, the status is ready or warning, the slot its own, the number outside the gap, no cycle open, and
-- the four rules are clear
abbrev pub due : Settings → Look → Bool → Bool
due s l busy = l.asked && (l.runs && (l.own && (not (in_gap (gap_of s) l.number) && (not busy && clear l))))

-- a calibration trigger is due where an open cycle asks at its number and the rules are clear
abbrev pub cal_due : Settings → ℕ → Look → Bool → Bool
cal_due s k l busy = asks_for s k l busy && clear l

-- controller k's cycle is open in crossing i
abbrev pub busy_in : Settings → List ℕ → List ℕ → ℕ → ℕ → Bool
busy_in s log rows k i = opens (look_at s log rows k i) (reading_of s log rows k i).calibrating

-- sent exactly where due
pub record Exact (s : Settings) (log rows : List ℕ) (k i : ℕ) : Type 0 where
  pub request : (look_at s log rows k i).sent ≡ due s (look_at s log rows k i) (busy_in s log rows k i)
  pub calibration : (look_at s log rows k i).cal ≡ cal_due s k (look_at s log rows k i) (busy_in s log rows k i)

-- of any log that a fresh board accepts, for each controller and in every crossing
abbrev pub Exactly : Type 0
Exactly = (s : Settings) (log buffer : List ℕ) → Taken s log buffer → (k : ℕ) → k < 8 → (i : ℕ) → Crossing log i → Exact s log (whole s log buffer).rows k i
