-- Document 01, step 2 of "One crossing": the class of a code. The classes are numbered by rank, the highest last.
use Rattle.std.specs.Prelude.{ℕ, Bool, ◌&&◌, ◌||◌, leb, eqb}
use Rattle.laws.specs.Base.{if}
use Rattle.settings.specs.declared.names.Ignores.{Ignores}

-- no member
abbrev pub none : ℕ
none = 0

abbrev pub ready : ℕ
ready = 1

abbrev pub warning : ℕ
warning = 2

abbrev pub busy : ℕ
busy = 3

abbrev pub out_of_sync : ℕ
out_of_sync = 4

abbrev pub error : ℕ
error = 5

abbrev pub bad : ℕ
bad = 6

abbrev pub disconnected : ℕ
disconnected = 7

-- partitions 24 to 31 may be emulators
abbrev pub emulator : ℕ → Bool
emulator i = leb 24 i && leb i 31

-- the class of a code by its input: 0 to 31 partitions, 32 to 39 aTTS, 40 GTFE
unfoldable pub class_of : (i c : ℕ) → ℕ
class_of i c =
    if (eqb c 0) disconnected
    (if (eqb c 15) disconnected
    (if (eqb c 1) warning
    (if (eqb c 2) out_of_sync
    (if (eqb c 4) busy
    (if (eqb c 8) ready
    (if (eqb c 12) error
    (if (eqb c 11) (if (emulator i) busy bad)
    bad)))))))

-- ignored disconnected or bad members are left out
unfoldable pub counted : Ignores → ℕ → ℕ
counted g c = if ((g.disc && eqb c disconnected) || (g.bad && eqb c bad)) none c
