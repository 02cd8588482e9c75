-- The texts that are accepted, edition by edition: those of numbers that are in order.
use Rattle.std.specs.Prelude.{ℕ, ◌<◌, ◌≡◌, List, length, get_or}
use Rattle.text.specs.Lines.{keys_of, ranges_of, first_out, lines_text}
use Rattle.keys.specs.Settings.{table_of}
use Rattle.settings.specs.Relations.{relation}
use Rattle.editions.specs.Read.{laid_out}

abbrev pub text_in : (e : ℕ) (ns : List ℕ) → List ℕ
text_in e ns = lines_text (keys_of (table_of e)) ns

-- one for each line, in its range, and the edition's own on the first line of every edition but the first; laid out they fail no relation
pub record InOrder (e : ℕ) (ns : List ℕ) : Type 0 where
  pub opens : 1 < e → get_or ns 0 0 ≡ e
  pub long : length ns ≡ length (table_of e)
  pub inside : first_out (ranges_of (table_of e)) 1 ns ≡ 0
  pub related : (relation (laid_out e ns)).relation ≡ 0
