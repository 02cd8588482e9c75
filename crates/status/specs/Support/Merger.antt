-- What of the settings the merge needs: who owns each input, and each code's class.
use Rattle.std.specs.Prelude.{ℕ, ◌-◌, ◌*◌, ◌/◌, ◌%◌, ltb}
use Rattle.laws.specs.Base.{if, tabulate}
use Rattle.settings.specs.declared.Settings.{Settings}
use Rattle.settings.specs.declared.names.Ignores.{Ignores}
use Rattle.settings.specs.Names.{part_of, ignores_of}
use Rattle.status.specs.declared.Merger.{Merger}
use Rattle.status.specs.Class.{emulator, class_of, counted}

-- the controller that an input is a member of; above 7: of none
unfoldable pub owner_of : Settings → ℕ → ℕ
owner_of s i = if (ltb i 32) (part_of s i) (i - 32)

-- the table's place of a code: emulators have a half of their own
abbrev pub half : ℕ → ℕ
half i = if (emulator i) 16 0

-- what stands at a place of the table
unfoldable pub rank_at : Ignores → ℕ → ℕ
rank_at g n = counted g (class_of (24 * (n / 16)) (n % 16))

unfoldable pub merger_of : Settings → Merger
merger_of s = record { owners = tabulate (owner_of s) 0 40; ranks = tabulate (rank_at (ignores_of s)) 0 32 }
