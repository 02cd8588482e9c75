-- Documents 01, "Settings text", and 02, P2: the values by name. With the methods of `src/names.rt`, the only place that says which is which.
use Rattle.std.specs.Prelude.{ℕ, ◌+◌, ◌*◌, ◌%◌, List, eqb, get_or, take, drop}
use Rattle.settings.specs.declared.Settings.{Settings}
use Rattle.settings.specs.declared.names.Gap.{Gap}
use Rattle.settings.specs.declared.names.Rule.{Rule}
use Rattle.settings.specs.declared.names.Rules.{Rules}
use Rattle.settings.specs.declared.names.Ignores.{Ignores}
use Rattle.settings.specs.declared.names.Waits.{Waits}
use Rattle.settings.specs.declared.names.Schedule.{Schedule}

-- the value of the line after the edition's and n others
abbrev pub after : Settings → ℕ → ℕ
after s n = get_or s.values n 0

abbrev pub orbit_of : Settings → ℕ
orbit_of s = after s 0

abbrev pub gap_of : Settings → Gap
gap_of s = record { low = after s 1; high = after s 2 }

-- period, normal limit and low limit of a rule, one line after the other
abbrev pub rule_after : Settings → ℕ → Rule
rule_after s n = record { period = after s n; norm = after s (n + 1); low = after s (n + 2) }

abbrev pub rules_of : Settings → Rules
rules_of s = record { spacing = after s 3; second = rule_after s 4; third = rule_after s 7; fourth = rule_after s 10 }

abbrev pub ignores_of : Settings → Ignores
ignores_of s = record { disc = eqb (after s 13) 1; bad = eqb (after s 14) 1 }

abbrev pub waits_of : Settings → Waits
waits_of s = record {
  settle = record { resync = after s 15; hard = after s 16 };
  recover = record { resync = after s 17; hard = after s 18 };
}

-- controller k's slot, in tens of orbits
abbrev pub slot_of : Settings → ℕ → ℕ
slot_of s k = after s (19 + k)

-- eleven numbers, one after the other from a place on
abbrev pub schedule_at : List ℕ → ℕ → Schedule
schedule_at numbers at = record {
  bc0 = get_or numbers at 0;
  te = get_or numbers (at + 1) 0;
  resync = get_or numbers (at + 2) 0;
  hard = get_or numbers (at + 3) 0;
  ec0 = get_or numbers (at + 4) 0;
  oc0 = get_or numbers (at + 5) 0;
  start = get_or numbers (at + 6) 0;
  stop = get_or numbers (at + 7) 0;
  gap = get_or numbers (at + 8) 0;
  wte = get_or numbers (at + 9) 0;
  cal = get_or numbers (at + 10) 0;
}

-- document 02, P2: controller k's schedule. k is below 8; only so that it means something for any number it counts modulo 8
abbrev pub times_at : ℕ → ℕ
times_at k = 27 + 11 * (k % 8)

abbrev pub schedule_of : Settings → ℕ → Schedule
schedule_of s k = schedule_at s.values (times_at k)

-- its eleven numbers, as a list
abbrev pub times_of : Settings → ℕ → List ℕ
times_of s k = take 11 (drop (27 + 11 * k) s.values)

-- the controller of partition p, 8 for none
abbrev pub part_of : Settings → ℕ → ℕ
part_of s p = after s (115 + p)
