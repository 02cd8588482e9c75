-- Document 01, step 2 of "One crossing": the merge of one controller's members, by the codes that they are believed to carry (document 02, P1).
-- It goes by which controller each partition is assigned to and by what is ignored; of settings it is that of theirs.
use Rattle.std.specs.Prelude.{ℕ, ◌-◌, Bool, true, List, ltb, eqb}
use Rattle.laws.specs.Base.{if, highest, tabulate}
use Rattle.settings.specs.declared.Settings.{Settings}
use Rattle.settings.specs.declared.names.Ignores.{Ignores}
use Rattle.settings.specs.Names.{part_of, ignores_of}
use Rattle.status.specs.Class.{none, class_of, counted}
use Rattle.status.specs.Codes.{code_at}

-- members of controller k: assigned partitions, own aTTS code, GTFE code
unfoldable pub member_by : (part : ℕ → ℕ) (k i : ℕ) → Bool
member_by part k i = if (ltb i 32) (eqb (part i) k) (if (ltb i 40) (eqb (i - 32) k) true)

abbrev pub member : (s : Settings) (k i : ℕ) → Bool
member s = member_by (part_of s)

-- what an input counts for controller k: its class, or none where it is no member or is left out
unfoldable pub vote_by : (part : ℕ → ℕ) (g : Ignores) (codes : List ℕ) (k i : ℕ) → ℕ
vote_by part g codes k i = if (member_by part k i) (counted g (class_of i (code_at codes i))) none

abbrev pub vote : (s : Settings) (codes : List ℕ) (k i : ℕ) → ℕ
vote s = vote_by (part_of s) (ignores_of s)

-- the highest class present wins
unfoldable pub merged_by : (part : ℕ → ℕ) (g : Ignores) (codes : List ℕ) (k : ℕ) → ℕ
merged_by part g codes k = highest (vote_by part g codes k) 41

abbrev pub merged : (s : Settings) (codes : List ℕ) (k : ℕ) → ℕ
merged s = merged_by (part_of s) (ignores_of s)

-- of all eight
unfoldable pub classes_by : (part : ℕ → ℕ) (g : Ignores) (codes : List ℕ) → List ℕ
classes_by part g codes = tabulate (merged_by part g codes) 0 8

abbrev pub classes : Settings → List ℕ → List ℕ
classes s = classes_by (part_of s) (ignores_of s)
