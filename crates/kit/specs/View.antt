-- What the desk goes by in a run: all that a crossing, a command and the report ask of the settings, as values and functions.
-- The desk of some settings is one view; the desk of an older text, in that text's own words, is another (document 02, P2, P3 and P8:
-- "runs as before"). Two views that are equal run every log alike.
use Rattle.std.specs.Prelude.{ℕ, Bool, List}
use Rattle.settings.specs.declared.Settings.{Settings}
use Rattle.settings.specs.declared.names.Waits.{Waits}
use Rattle.settings.specs.Names.{orbit_of, rules_of, waits_of}
use Rattle.status.specs.Merge.{classes}
use Rattle.throttle.specs.Rules.{refused_by}
use Rattle.ptc.specs.declared.Plan.{Plan}
use Rattle.kit.specs.Kit.{slots_of, plan_of}

pub record View : Type 0 where
  pub orbit : ℕ
  pub slots : List ℕ
  pub waits : Waits
  -- controller k's plan
  pub plan : ℕ → Plan
  -- the first rule that refuses a trigger, 0 where it is free: by the marks, the crossings done, and warning or not
  pub refused : List ℕ → ℕ → Bool → ℕ
  -- the classes of all eight by the believed codes
  pub classes : List ℕ → List ℕ

abbrev pub view_of : Settings → View
view_of s = record {
  orbit = orbit_of s;
  slots = slots_of s;
  waits = waits_of s;
  plan = plan_of s;
  refused = refused_by (rules_of s);
  classes = classes s;
}
