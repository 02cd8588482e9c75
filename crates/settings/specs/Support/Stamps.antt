-- A table of stamps, one for each number: a controller's numbers are found to be distinct by marking each with the controller's stamp.
use Rattle.std.specs.Prelude.{ℕ, ◌<◌, List, get_or}

-- the places of the table
abbrev pub places : ℕ
places = 4096

-- every number has one
abbrev pub Fits : List ℕ → Type 0
Fits times = (i : ℕ) → get_or times i 0 < places

-- every stamp in the table is an earlier one
abbrev pub Lower : ℕ → List ℕ → Type 0
Lower stamp seen = (x : ℕ) → get_or seen x 0 < stamp
