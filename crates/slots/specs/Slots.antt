-- The desk works number and holder out step by step, and in each crossing they are those that counting gives.
use Rattle.std.specs.Prelude.{ℕ, ◌<◌, ◌≡◌, true, List}
use Rattle.settings.specs.declared.Settings.{Settings}
use Rattle.settings.specs.Names.{orbit_of}
use Rattle.records.specs.Records.{rec_at, is_crossing}
use Rattle.daybook.specs.Beam.{number_in, holder_in}
use Rattle.slots.specs.Orbits.{number_by, holder_by}

pub record Counted (s : Settings) (log : List ℕ) (i : ℕ) : Type 0 where
  pub number : number_in s log i ≡ number_by s log i
  pub holder : holder_in s log i ≡ holder_by s log i

-- of any log, accepted or not, and of any settings that have a crossing in an orbit
abbrev pub Slots : Type 0
Slots = (s : Settings) (log : List ℕ) (i : ℕ) → 0 < orbit_of s → is_crossing (rec_at log i) ≡ true → Counted s log i
