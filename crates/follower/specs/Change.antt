-- Document 02, P6: a change of one input's believed code, 0 and 15 taken as one.
use Rattle.std.specs.Prelude.{ℕ, ◌%◌, List, [], ◌∷◌, eqb}
use Rattle.laws.specs.Base.{if}
use Rattle.history.specs.declared.keep.Change.{Change}

-- 0 and 15, both disconnected, are one code, stored and read as 15
abbrev pub one_code : ℕ → ℕ
one_code c = if (eqb c 0) 15 c

-- the change from one believed code to another in the crossing with this number, if they are not one code. Orbit counts are modulo 2^32
unfoldable pub change_for : (orbits number before now : ℕ) → List Change
change_for orbits number before now =
    if (eqb (one_code before) (one_code now)) [] (record { orbit = orbits % 4294967296; number = number; code = one_code now } ∷ [])
