-- What the code's reading of a text's lines, and of the whole, gave, as document 01 has it.
use Rattle.std.specs.Prelude.{ℕ, suc, ◌≡◌, List, [], ◌∷◌, length, Result, Ok, Err}
use Rattle.answer.specs.declared.Refusal.{Refusal}
use Rattle.answer.specs.Told.{Told, told_refusal, DONE, TEXT, RANGE}
use Rattle.text.specs.declared.LineFault.{LineFault}
use Rattle.text.specs.declared.LineFault.TheVariants as fault
use Rattle.text.specs.Lines.{Lines, all, text_at, range_at, read_lines}
use Rattle.keys.specs.Settings.{table_of}
use Rattle.settings.specs.declared.Settings.{Settings}
use Rattle.editions.specs.declared.tables.Edition.{Edition}
use Rattle.editions.specs.Read.{ReadOut, refused}
use Rattle.editions.specs.Support.Tables.{number_of, numbers_in}

-- a faulty line, by its number
abbrev pub fault_at : ℕ → LineFault → Told
fault_at n fault.Ill = TEXT n
fault_at n fault.Out = RANGE n

abbrev pub lines_told : Lines → Told
lines_told (text_at n) = TEXT n
lines_told (range_at n) = RANGE n
lines_told (all ns []) = DONE
lines_told (all ns (b ∷ t)) = TEXT (suc (length ns))

-- the numbers on the lines, or the refusal
abbrev pub GotIs : Edition → List ℕ → Result (List ℕ) Refusal → Type 0
GotIs e t (Ok ns) = read_lines (table_of (number_of e)) [] t ≡ all (numbers_in e ns) []
GotIs e t (Err r) = told_refusal r ≡ lines_told (read_lines (table_of (number_of e)) [] t)

abbrev pub outcome : Result Settings Refusal → ReadOut
outcome (Ok s) = record { answer = DONE; settings = s }
outcome (Err r) = refused (told_refusal r)
