-- Documents 01, "Settings text", and 02, P2 and P3: the settings text read, in any edition that the desk knows. The first faulty line decides, in
-- a line TEXT before RANGE, then the tail, then the relations.
use Rattle.std.specs.Prelude.{ℕ, zero, suc, List, [], ◌∷◌, ◌++◌, map, eqb, length, get_or}
use Rattle.laws.specs.Base.{if, tabulate}
use Rattle.answer.specs.Told.{Told, told, TEXT, RANGE, succeeded}
use Rattle.text.specs.Bytes.{bytes, starts}
use Rattle.text.specs.Lines.{line_head, LineRead, taken, ill, out, read_line, Lines, all, text_at, range_at, read_lines}
use Rattle.keys.specs.Settings.{opening, table_of}
use Rattle.settings.specs.declared.Settings.{Settings}
use Rattle.settings.specs.Relations.{relation, related}
use Rattle.settings.specs.Lows.{lows_cleared}
use Rattle.settings.specs.Standard.{standard}
use Rattle.editions.specs.declared.Read.{Read}

-- ---- which edition a text is of

-- the number on the first line, where it is one that the desk knows; else 0
abbrev pub stated : LineRead → ℕ
stated (taken e rest) = e
stated ill = 0
stated out = 0

-- text that begins with `orbit=` is the first edition, whatever follows
unfoldable pub edition_of : List ℕ → ℕ
edition_of t = if (starts (line_head (bytes "orbit")) t) 1 (stated (read_line (line_head opening.key) opening.range t))

-- ---- what its lines give

-- `count` lines from line n on, the first line of a text being 0
abbrev pub run : (count n : ℕ) → List ℕ
run count n = tabulate (λ i. i) n count

abbrev pub repeated : ℕ → List ℕ → List ℕ
repeated zero l = []
repeated (suc n) l = l ++ repeated n l

-- the lines from which the values of the settings are taken. In older text that of `warn_blocks` is left out; the first edition's schedule
-- is given to all eight; in the newest the values follow the first line as they stand
unfoldable pub sources : ℕ → List ℕ
sources e =
    if (eqb e 1) (run 13 0 ++ (run 14 14 ++ (repeated 8 (run 11 28) ++ run 32 39)))
    (if (eqb e 2) (run 13 1 ++ run 134 15) (run 147 1))

unfoldable pub laid_out : ℕ → List ℕ → Settings
laid_out e ns = record { values = map (λ i. get_or ns i 0) (sources e) }

-- document 02, P3: the value of `warn_blocks`, document 01's line 14; in the second edition one further on
unfoldable pub warn_blocks : ℕ → List ℕ → ℕ
warn_blocks e ns = if (eqb e 1) (get_or ns 13 0) (if (eqb e 2) (get_or ns 14 0) 0)

-- where it is 1, the three low limits are then set to 0
unfoldable pub settled : ℕ → List ℕ → Settings
settled e ns = if (eqb (warn_blocks e ns) 1) (lows_cleared (laid_out e ns)) (laid_out e ns)

-- ---- reading

-- what reading gives back
pub record ReadOut : Type 0 where
  pub answer : Told
  pub settings : Settings

abbrev pub read_out : Read → ReadOut
read_out r = record { answer = told r.answer; settings = r.settings }

-- a refused reading gives the standard values
abbrev pub refused : Told → ReadOut
refused a = record { answer = a; settings = standard }

-- values that were read, and what is told of their relations
abbrev pub tested : Settings → Told → ReadOut
tested s a = if (succeeded a) (record { answer = a; settings = s }) (refused a)

-- bytes that follow the last line are TEXT on the line after it. The relations are tried on the text's own values
abbrev pub concluded : ℕ → Lines → ReadOut
concluded e (text_at n) = refused (TEXT n)
concluded e (range_at n) = refused (RANGE n)
concluded e (all ns []) = tested (settled e ns) (related (relation (laid_out e ns)))
concluded e (all ns (b ∷ t)) = refused (TEXT (suc (length ns)))

-- a first line that opens no known edition is TEXT
unfoldable pub read_text : List ℕ → ReadOut
read_text t = let e = edition_of t in if (eqb e 0) (refused (TEXT 1)) (concluded e (read_lines (table_of e) [] t))
