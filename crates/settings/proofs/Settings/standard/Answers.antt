-- `settings::Settings::standard` meets its contract: its values are the standard ones.
-- What the call ensures, put into the struct.
use mathlib.Core.Path.{ap}
use mathlib.Core.List.{List}
use Prim.Native.Nat.{ℕ}
use Rattle.settings.specs.declared.Settings.{Settings}
use Rattle.settings.specs.Standard.{standard}
use Rattle.settings.proofs.Settings.standard.Goals as goal

settings : List ℕ → Settings
settings vs = record { values = vs }

pub returns : goal.returns
unfolding standard settings
returns c = ap settings c.standard_values.ensures
