-- The check of settings values on their own: RANGE by line order, then RELATION.
use Rattle.std.specs.Prelude.{ℕ}
use Rattle.answer.specs.Told.{Told, RANGE, unless}
use Rattle.text.specs.Lines.{ranges_of, first_out}
use Rattle.keys.specs.Settings.{value_lines}
use Rattle.settings.specs.declared.Settings.{Settings}
use Rattle.settings.specs.Relations.{relation, related}

-- the line, in the edition that is written, of the first value out of its range; the first value stands on line 2
unfoldable pub out_of_range : Settings → ℕ
out_of_range s = first_out (ranges_of value_lines) 2 s.values

unfoldable pub checked : Settings → Told
checked s = unless RANGE (out_of_range s) (related (relation s))
