-- Demand 3, third sentence, and document 02, P5: requests since the last accepted START, or the fresh board, equal those sent plus those
-- lost under the eight causes; and the closing board's counts, and so the report that is written, are those that the reading has.
use Rattle.std.specs.Prelude.{ℕ, suc, ◌+◌, ◌≤◌, ◌<◌, ◌≡◌, List, ◌++◌, length, drop, get_or}
use Rattle.laws.specs.Base.{one, map_i}
use Rattle.answer.specs.Told.{DONE}
use Rattle.text.specs.Lines.{lines_text}
use Rattle.keys.specs.Report.{common_keys}
use Rattle.settings.specs.declared.Settings.{Settings}
use Rattle.counts.specs.declared.Counts.{Counts}
use Rattle.counts.specs.declared.Lost.{Lost}
use Rattle.counts.specs.Sound.{rules_sum}
use Rattle.ptc.specs.declared.Ptc.{Ptc}
use Rattle.records.specs.Refusal.{records_in}
use Rattle.board.specs.declared.Board.{Board}
use Rattle.ptc.specs.Fresh.{fresh_ptc}
use Rattle.report.specs.Report.{common_values, blocks_from, reported}
use Rattle.daybook.specs.Whole.{Taken, Crossing, whole}
use Rattle.balance.specs.Reading.{Reading, look_at, reading_of}

-- lost to the state, the slot, the gap, a calibration, or one of the four rules
abbrev pub lost_together : Lost → ℕ
lost_together l = l.state + (l.slot + (l.gap + (l.cal + rules_sum l.rules)))

-- sent, or lost
abbrev pub settled : Counts → ℕ
settled c = c.accepted + lost_together c.lost

-- a controller that has a reading's counts, and a state
abbrev pub shown_as : Reading → ℕ → Ptc
shown_as r state = record { state = state; wait = 0; cycle = 0; counts = r.counts; events = r.events }

-- controller k's reading of the whole log
abbrev pub read : Settings → List ℕ → List ℕ → ℕ → Reading
read s log rows k = reading_of s log rows k (records_in log)

module _ (s : Settings) (log rows : List ℕ) (closing : Board) where
  pub record Balanced (k : ℕ) : Type 0 where
    pub requests : (read s log rows k).counts.requested ≡ settled (read s log rows k).counts
    -- `lost_throttle` is the sum of its four lines
    pub throttled : (read s log rows k).counts.lost.throttle ≡ rules_sum (read s log rows k).counts.lost.rules
    pub calibrations : (read s log rows k).counts.cal.requested ≡ (read s log rows k).counts.cal.accepted + (read s log rows k).counts.cal.lost
    pub counts : (get_or closing.ptcs k fresh_ptc).counts ≡ (read s log rows k).counts
    pub events : (get_or closing.ptcs k fresh_ptc).events ≡ (read s log rows k).events
    -- each request settles once: as sent, or under one cause
    pub once : (i : ℕ) → Crossing log i
        → settled (reading_of s log rows k (suc i)).counts ≡ settled (reading_of s log rows k i).counts + one (look_at s log rows k i).asked

  -- the report's text as the readings have it: the common lines and the states are the board's, all else is read off
  abbrev pub read_off : List ℕ
  read_off = lines_text common_keys (common_values closing) ++ blocks_from s 0 (map_i (λ k p. shown_as (read s log rows k) p.state) 0 closing.ptcs)

  -- whoever lends room for it gets DONE and exactly this text, and the later bytes stay
  abbrev pub Reported : Type 0
  Reported = (out : List ℕ) → length read_off ≤ length out → reported closing out ≡ record { answer = DONE; buffer = read_off ++ drop (length read_off) out }

-- of any log that a fresh board accepts, for each controller
pub record Balance (s : Settings) (log buffer : List ℕ) : Type 0 where
  pub each : (k : ℕ) → k < 8 → Balanced s log (whole s log buffer).rows (whole s log buffer).board k
  pub reported : Reported s log (whole s log buffer).rows (whole s log buffer).board

abbrev pub Balances : Type 0
Balances = (s : Settings) (log buffer : List ℕ) → Taken s log buffer → Balance s log buffer
