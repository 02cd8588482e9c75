-- Document 02, P5, for whoever tunes the rules: which requests a rule's line counts, and what such a loss says of the rules before it. All
-- of it by settings, records and rows; rules are numbered 1 to 4.
use Rattle.std.specs.Prelude.{ℕ, suc, ◌+◌, ◌-◌, ◌≤◌, ◌<◌, ◌≡◌, Bool, true, ◌&&◌, List, eqb}
use Rattle.laws.specs.Base.{if, one}
use Rattle.settings.specs.declared.Settings.{Settings}
use Rattle.settings.specs.Names.{gap_of}
use Rattle.throttle.specs.Rules.{limit_of}
use Rattle.throttle.specs.Windows.{count_of}
use Rattle.counts.specs.declared.ByRule.{ByRule}
use Rattle.counts.specs.Counts.{CAL}
use Rattle.daybook.specs.Row.{row_at, warns_in}
use Rattle.daybook.specs.Whole.{Crossing}
use Rattle.windows.specs.Windows.{crossing_rows, triggers, rule_at}
use Rattle.balance.specs.Reading.{look_at, cause, reading_of}
use Rattle.balance.specs.Exact.{busy_in}

-- lost_r1 to lost_r4
abbrev pub line_of : ℕ → ByRule → ℕ
line_of r l = if (eqb r 1) l.first (if (eqb r 2) l.second (if (eqb r 3) l.third l.fourth))

module _ (s : Settings) (log rows : List ℕ) (k i : ℕ) where
  -- controller k asked in crossing i, and lost the request to rule r
  abbrev pub lost_to : ℕ → Bool
  lost_to r = (look_at s log rows k i).asked && eqb (cause (gap_of s) (look_at s log rows k i) (busy_in s log rows k i)) (CAL + r)

  -- the triggers of rule r's period - 1 crossings before, of all eight controllers, and this one
  abbrev pub would_hold : ℕ → ℕ
  would_hold r = count_of ((rule_at s (r - 1)).period - 1) (triggers (crossing_rows log rows i)) + 1

  -- rule r's limit under the status that the row shows
  abbrev pub limit_at : ℕ → ℕ
  limit_at r = limit_of (rule_at s (r - 1)) (warns_in (row_at rows i) k)

  pub record Tuning (r : ℕ) : Type 0 where
    -- rule r's line counts exactly these
    pub counted : line_of r (reading_of s log rows k (suc i)).counts.lost.rules
        ≡ line_of r (reading_of s log rows k i).counts.lost.rules + one (lost_to r)
    -- rule r would have been exceeded
    pub exceeded : lost_to r ≡ true → limit_at r < would_hold r
    -- and the request would have been within the rules before it
    pub within : lost_to r ≡ true → (j : ℕ) → 1 ≤ j → j < r → would_hold j ≤ limit_at j

-- in every crossing of any log, with any rows beside it
abbrev pub Tunings : Type 0
Tunings = (s : Settings) (log rows : List ℕ) (k i : ℕ) → Crossing log i → (r : ℕ) → 1 ≤ r → r ≤ 4 → Tuning s log rows k i r
