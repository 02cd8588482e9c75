-- The schedules of all eight as one list of numbers, eleven for each controller, as the code lends them: what is not needed is not read.
use Rattle.std.specs.Prelude.{ℕ, ◌+◌, ◌*◌, ◌%◌, List, get_or}
use Rattle.settings.specs.declared.names.Gap.{Gap}
use Rattle.settings.specs.declared.names.Schedule.{Schedule}
use Rattle.settings.specs.declared.names.Waits.{Waits}
use Rattle.ptc.specs.declared.Plan.{Plan}

-- controller k's schedule
abbrev pub schedule_from : (times : List ℕ) (k : ℕ) → Schedule
schedule_from times k = record {
  bc0 = get_or times (11 * (k % 8)) 0;
  te = get_or times (11 * (k % 8) + 1) 0;
  resync = get_or times (11 * (k % 8) + 2) 0;
  hard = get_or times (11 * (k % 8) + 3) 0;
  ec0 = get_or times (11 * (k % 8) + 4) 0;
  oc0 = get_or times (11 * (k % 8) + 5) 0;
  start = get_or times (11 * (k % 8) + 6) 0;
  stop = get_or times (11 * (k % 8) + 7) 0;
  gap = get_or times (11 * (k % 8) + 8) 0;
  wte = get_or times (11 * (k % 8) + 9) 0;
  cal = get_or times (11 * (k % 8) + 10) 0;
}

abbrev pub plan_from : (times : List ℕ) (waits : Waits) (gap : Gap) (k : ℕ) → Plan
plan_from times waits gap k = record { at = schedule_from times k; waits = waits; gap = gap }
