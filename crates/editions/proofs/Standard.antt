-- The text of the standard settings has 1,710 bytes.
-- Computed from the table.
use mathlib.Core.Path.{◌≡◌, refl}
use lib.ListN.{length}
use Rattle.text.specs.Decimal.{decimal, decimal_of}
use Rattle.text.specs.Lines.{line_head, line_text}
use Rattle.keys.specs.Settings.{table_of}
use Rattle.settings.specs.Standard.{standard}
use Rattle.editions.specs.Write.{text_of}

pub standard_length : length (text_of standard) ≡ 1710
unfolding text_of standard table_of line_text line_head decimal decimal_of
standard_length = refl
