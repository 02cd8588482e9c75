-- The complaint that started the project, as a promise: no group's trigger gets into another group's file.
use Rattle.std.specs.Prelude.{ℕ, ◌≤◌, ◌<◌, ◌≡◌, ◌⊎◌, true, false, List, get_or}
use Rattle.settings.specs.declared.Settings.{Settings}
use Rattle.settings.specs.Names.{gap_of}
use Rattle.counts.specs.Counts.{in_gap}
use Rattle.records.specs.Records.{rec_at, asked_in}
use Rattle.kit.specs.Kit.{slots_of}
use Rattle.daybook.specs.Row.{row_at, sent_in, cal_in, sends_in, triggers_in, runs_in}
use Rattle.daybook.specs.Whole.{Taken, Crossing, whole}
use Rattle.slots.specs.Orbits.{number_by, orbit_ends_in, holder_by}
use Rattle.slots.specs.Rounds.{OwnOrbit}

-- controller k sends a trigger in crossing i: it is the holder, as counted from settings and markers alone, and the orbit is in its own
-- stretch of the round; its status is ready or warning; the crossing is outside the gap or the trigger is a calibration trigger; a
-- request's trigger was requested
pub record Rightful (s : Settings) (log rows : List ℕ) (i k : ℕ) : Type 0 where
  pub holds : k ≡ holder_by s log i
  pub orbit : OwnOrbit (slots_of s) k (orbit_ends_in s log i)
  pub runs : runs_in (row_at rows i) k ≡ true
  pub place : (in_gap (gap_of s) (number_by s log i) ≡ false) ⊎ (cal_in (row_at rows i) k ≡ true)
  pub asked : sent_in (row_at rows i) k ≡ true → asked_in (get_or (rec_at log i) 2 0) k ≡ true

-- in each crossing at most one trigger is sent, and rightfully
pub record Owned (s : Settings) (log rows : List ℕ) : Type 0 where
  pub one_at_most : (i : ℕ) → Crossing log i → triggers_in (row_at rows i) ≤ 1
  pub rightful : (i k : ℕ) → Crossing log i → k < 8 → sends_in (row_at rows i) k ≡ true → Rightful s log rows i k

-- of any log that a fresh board accepts
abbrev pub Owner : Type 0
Owner = (s : Settings) (log buffer : List ℕ) → Taken s log buffer → Owned s log (whole s log buffer).rows
