-- Document 01, "Sound": what a controller's state and wait must be.
use Rattle.std.specs.Prelude.{ℕ, Bool, true, ◌&&◌, ◌||◌, leb, eqb}
use Rattle.laws.specs.Base.{if}
use Rattle.settings.specs.declared.names.Waits.{Waits}

-- the states that wait
abbrev pub waiting : ℕ → Bool
waiting s = eqb s 2 || (eqb s 12 || (eqb s 14 || (eqb s 15 || eqb s 17)))

-- states 0..19, state 3 in controller 0 only; wait 0..255, and 0 outside the states that wait
unfoldable pub sound_state : (k s wait : ℕ) → Bool
sound_state k s wait = leb s 19 && (if (eqb s 3) (eqb k 0) true && (leb wait 255 && if (waiting s) true (eqb wait 0)))

-- checked settings have waits of at most 255 orbits
abbrev pub sound_waits : Waits → Bool
sound_waits w = leb w.settle.resync 255 && (leb w.settle.hard 255 && (leb w.recover.resync 255 && leb w.recover.hard 255))
