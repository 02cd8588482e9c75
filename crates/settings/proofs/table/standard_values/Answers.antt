-- `settings::table::standard_values` meets its contract: the code's array is what the table of settings computes to.
-- The checker computes the one into the other.
use mathlib.Core.Path.{refl}
use Rattle.settings.specs.Standard.{standard_values}
use Rattle.settings.proofs.table.standard_values.Goals as goal

pub returns : goal.returns
unfolding standard_values
returns c = refl
