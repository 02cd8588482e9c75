-- The standard settings pass every check.
-- Computed from the table.
use mathlib.Core.Path.{◌≡◌, refl}
use Rattle.answer.specs.Told.{DONE}
use Rattle.laws.specs.Base.{all_b, first_not}
use Rattle.keys.specs.Settings.{value_lines}
use Rattle.settings.specs.Relations.{relation}
use Rattle.settings.specs.Check.{out_of_range, checked}
use Rattle.settings.specs.Standard.{standard}

pub standard_checks : checked standard ≡ DONE
unfolding checked out_of_range relation standard value_lines all_b first_not
standard_checks = refl
