-- What of the settings a crossing goes by: the eight slots, and each controller's plan.
use Rattle.std.specs.Prelude.{ℕ, List}
use Rattle.laws.specs.Base.{tabulate}
use Rattle.settings.specs.declared.Settings.{Settings}
use Rattle.settings.specs.Names.{gap_of, waits_of, slot_of, schedule_of}
use Rattle.ptc.specs.declared.Plan.{Plan}

abbrev pub slots_of : Settings → List ℕ
slots_of s = tabulate (slot_of s) 0 8

-- document 02, P2: controller k goes by its own schedule
abbrev pub plan_of : Settings → ℕ → Plan
plan_of s k = record { at = schedule_of s k; waits = waits_of s; gap = gap_of s }
