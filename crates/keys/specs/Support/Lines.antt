-- Every line of every edition, once: those of the newest edition, then those that only older ones have.
use Rattle.std.specs.Prelude.{ℕ, List, ◌∷◌, ◌++◌, ◌&&◌, ◌||◌, get_or, eqb, leb}
use Rattle.laws.specs.Base.{if}
use Rattle.text.specs.declared.Range.{Range}
use Rattle.text.specs.Bytes.{bytes}
use Rattle.text.specs.Lines.{Entry, ranges_of}
use Rattle.keys.specs.Settings.{retired, schedule, lines_of, opening, value_lines}

unfoldable pub lines : List Entry
unfolding bytes retired schedule opening value_lines
lines = opening ∷ (value_lines ++ lines_of (retired ++ schedule (bytes "at_")))

abbrev pub line_count : ℕ
line_count = 160

-- past the last, where nothing is looked up
abbrev pub nowhere : Range
nowhere = record { low = 0; high = 0; digits = 0 }

-- the range of each by its place
unfoldable pub range_at : ℕ → Range
range_at n = get_or (ranges_of lines) n nowhere

-- its least and its greatest value, as the code tells them place by place
abbrev pub limits_of : ℕ → ℕ × ℕ
limits_of n =
    if (eqb n 0) (2, 3)
    (if (eqb n 1) (64, 4096)
    (if (eqb n 4) (2, 7)
    (if (eqb n 5) (1, 63)
    (if (eqb n 6 || eqb n 7) (0, 15)
    (if (eqb n 8) (64, 176)
    (if (eqb n 9 || eqb n 10) (0, 63)
    (if (eqb n 11) (1, 2047)
    (if (eqb n 12 || eqb n 13) (0, 511)
    (if (eqb n 14 || eqb n 15 || eqb n 148) (0, 1)
    (if (leb 16 n && leb n 27) (0, 255)
    (if (leb 116 n && leb n 147) (0, 8)
    (0, 4095))))))))))))
