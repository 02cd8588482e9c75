-- Document 02, P6: the changes of one input's believed code over a whole log, by the settings, the records and the rows alone. The believed
-- code and the crossing's number are those that the records tell; the rows tell where controller 0's code 8 set the orbit count to 0.
use Rattle.std.specs.Prelude.{ℕ, zero, suc, ◌+◌, ◌<◌, List, [], ◌++◌, get_or}
use Rattle.laws.specs.Base.{if, one}
use Rattle.settings.specs.declared.Settings.{Settings}
use Rattle.clock.specs.Clock.{orbit_ends}
use Rattle.records.specs.Records.{rec_at, is_crossing, marker_in}
use Rattle.records.specs.Rows.{clears_orbit}
use Rattle.history.specs.declared.keep.Change.{Change}
use Rattle.follower.specs.Change.{change_for}
use Rattle.daybook.specs.Row.{row_at}
use Rattle.daybook.specs.Beam.{beam_at, number_in}
use Rattle.bounce.specs.Input.{believed_before}

-- what step 1 adds to the orbit count in the crossing that record i is
abbrev pub grown : Settings → (log : List ℕ) → (i : ℕ) → ℕ
grown s log i = one (orbit_ends (beam_at s log i).clock (marker_in (rec_at log i)))

-- the orbit count before record i: step 1 counts, and code 8 sets it to 0
unfoldable pub orbits_before : Settings → (log rows : List ℕ) → (i : ℕ) → ℕ
orbits_before s log rows zero = 0
orbits_before s log rows (suc i) =
    if (is_crossing (rec_at log i))
    (if (clears_orbit (row_at rows i)) 0 (orbits_before s log rows i + grown s log i))
    (orbits_before s log rows i)

-- the changes of input x in the first n records
unfoldable pub changes_told : Settings → (log rows : List ℕ) → (x n : ℕ) → List Change
changes_told s log rows x zero = []
changes_told s log rows x (suc i) =
    changes_told s log rows x i
    ++ if (is_crossing (rec_at log i))
    (change_for (orbits_before s log rows i + grown s log i) (number_in s log i) (believed_before log x i) (believed_before log x (suc i)))
    []

-- a log of bytes
abbrev pub OfBytes : List ℕ → Type 0
OfBytes log = (n : ℕ) → get_or log n 0 < 256
