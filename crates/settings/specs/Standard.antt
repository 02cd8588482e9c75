-- Documents 01, "Settings text", and 02, P2: the standard values, which a refused reading gives. All eight have the same schedule.
use Rattle.std.specs.Prelude.{ℕ, List, map}
use Rattle.keys.specs.Settings.{Setting, settings}
use Rattle.settings.specs.declared.Settings.{Settings}

unfoldable pub standard_values : List ℕ
unfolding settings
standard_values = map (λ (s : Setting). s.standard) settings

unfoldable pub standard : Settings
unfolding standard_values
standard = record { values = standard_values }
