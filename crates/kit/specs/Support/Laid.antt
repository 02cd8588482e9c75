-- What of the settings is laid out once for many crossings.
use Rattle.std.specs.Prelude.{ℕ, zero, suc, ◌+◌, ◌%◌, Bool, List, eqb, get_or, set, replicate}
use Rattle.laws.specs.Base.{tabulate}
use Rattle.settings.specs.declared.Settings.{Settings}
use Rattle.settings.specs.Names.{after, orbit_of, gap_of, rules_of, waits_of, schedule_of}
use Rattle.status.specs.Support.Merger.{merger_of}
use Rattle.lanes.specs.Support.Lanes.{table_of}
use Rattle.kit.specs.declared.Kit.{Kit}
use Rattle.kit.specs.Kit.{slots_of}

-- the numbers of all eight schedules, one after the other
abbrev pub times_for : Settings → List ℕ
times_for s = tabulate (λ n. after s (27 + n)) 0 88

-- a place for each number of the longest orbit
abbrev pub place_of : ℕ → ℕ
place_of number = number % 4096

-- 1 at the numbers at which the first k controllers send codes 1 and 11
unfoldable pub busy_for : Settings → ℕ → List ℕ
busy_for s zero = replicate 4096 0
busy_for s (suc k) = set (set (busy_for s k) (place_of (schedule_of s k).bc0) 1) (place_of (schedule_of s k).gap) 1

abbrev pub busy_of : Settings → List ℕ
busy_of s = busy_for s 8

-- a number at which no controller sends a code of its own accord
abbrev pub plain_in : (busy : List ℕ) (number : ℕ) → Bool
plain_in busy number = eqb (get_or busy (place_of number) 0) 0

unfoldable pub kit_of : Settings → Kit
kit_of s = record {
  orbit = orbit_of s;
  waits = waits_of s;
  gap = gap_of s;
  times = times_for s;
  rules = rules_of s;
  lanes = table_of (merger_of s);
  slots = slots_of s;
}
