-- Document 01, "One crossing, in order", step 1: the number and the holder of each crossing, counted from the settings and the log's markers.
-- Nothing here is a step of the desk: whoever has the settings and the log can count the same.
use Rattle.std.specs.Prelude.{ℕ, zero, suc, ◌+◌, ◌%◌, Bool, ◌&&◌, List, ltb, eqb}
use Rattle.laws.specs.Base.{if, one}
use Rattle.settings.specs.declared.Settings.{Settings}
use Rattle.settings.specs.Names.{orbit_of}
use Rattle.records.specs.Records.{rec_at, is_crossing, marker_in, crossings_in}
use Rattle.kit.specs.Kit.{slots_of}
use Rattle.slots.specs.Round.{holder_after}

-- of the first n records, how many are crossings, from the last marker's own on; from the start, where there was no marker
unfoldable pub since_marker : List ℕ → ℕ → ℕ
since_marker log zero = 0
since_marker log (suc n) =
    if (is_crossing (rec_at log n)) (if (marker_in (rec_at log n)) 1 (since_marker log n + 1)) (since_marker log n)

-- the number of the crossing that record i is: 0 at a marker, else the crossings since the last one modulo those of an orbit
unfoldable pub number_by : Settings → List ℕ → ℕ → ℕ
number_by s log i = if (marker_in (rec_at log i)) 0 (since_marker log i % orbit_of s)

-- record i ends an orbit: it is a crossing with number 0, and not the log's first crossing
abbrev pub ends_orbit : Settings → List ℕ → ℕ → Bool
ends_orbit s log i = is_crossing (rec_at log i) && (eqb (number_by s log i) 0 && ltb 0 (crossings_in i log))

-- how many of the first n records do
unfoldable pub orbits_ended : Settings → List ℕ → ℕ → ℕ
orbits_ended s log zero = 0
orbits_ended s log (suc n) = orbits_ended s log n + one (ends_orbit s log n)

-- up to and including record i
abbrev pub orbit_ends_in : Settings → List ℕ → ℕ → ℕ
orbit_ends_in s log i = orbits_ended s log (suc i)

-- who holds the slot in the crossing that record i is
abbrev pub holder_by : Settings → List ℕ → ℕ → ℕ
holder_by s log i = holder_after (slots_of s) (orbit_ends_in s log i)
