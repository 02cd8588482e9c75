-- Document 02, P3: older text with `warn_blocks` 1 sends no trigger under warning, told by the rows of any log that it accepts.
use Rattle.std.specs.Prelude.{ℕ, ◌<◌, ◌≡◌, false, List, [], get_or}
use Rattle.answer.specs.Told.{DONE}
use Rattle.text.specs.Lines.{all, read_lines}
use Rattle.keys.specs.Settings.{table_of}
use Rattle.editions.specs.Read.{edition_of, warn_blocks, read_text}
use Rattle.records.specs.Refusal.{records_in}
use Rattle.daybook.specs.Whole.{Taken, whole}
use Rattle.windows.specs.Windows.{crossing_rows, sent_warned}

-- ns are the numbers that stand on the text's lines; the crossing is the one with `from` others after it
abbrev pub Stopped : Type 0
Stopped =
    (text ns log buffer : List ℕ) → (read_text text).answer ≡ DONE → read_lines (table_of (edition_of text)) [] text ≡ all ns []
    → warn_blocks (edition_of text) ns ≡ 1 → let s = (read_text text).settings in Taken s log buffer
    → (from k : ℕ) → k < 8 → sent_warned (get_or (crossing_rows log (whole s log buffer).rows (records_in log)) from []) k ≡ false
