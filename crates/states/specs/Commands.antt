-- Document 01, "States": where each command is taken, and the state that it leads to. Elsewhere it is not taken.
use Rattle.std.specs.Prelude.{ℕ, Bool, true, false, ◌&&◌, ◌||◌, leb, eqb}
use Rattle.laws.specs.Base.{if}
use Rattle.states.specs.Names.{running}

abbrev pub START : ℕ
START = 1

abbrev pub STOP : ℕ
STOP = 2

abbrev pub HARD : ℕ
HARD = 3

abbrev pub RESYNC : ℕ
RESYNC = 4

abbrev pub CALIBRATE : ℕ
CALIBRATE = 5

abbrev pub PANIC : ℕ
PANIC = 6

-- HARD in 6..11 and 18
abbrev pub takes_hard : ℕ → Bool
takes_hard s = (leb 6 s && leb s 11) || eqb s 18

-- RESYNC in 6, 7, 8, 10, 18
abbrev pub takes_resync : ℕ → Bool
takes_resync s = (leb 6 s && leb s 8) || (eqb s 10 || eqb s 18)

-- whether the command is taken in state s, with a cycle or without
unfoldable pub takes : (command s : ℕ) (cycle : Bool) → Bool
takes command s cycle =
    if (eqb command START) (eqb s 0)
    (if (eqb command STOP) (leb 1 s && leb s 18)
    (if (eqb command HARD) (takes_hard s)
    (if (eqb command RESYNC) (takes_resync s)
    (if (eqb command CALIBRATE) (if cycle false (running s))
    (if (eqb command PANIC) true
    false)))))

-- the state after a command that is taken: START to 1, STOP to 19, HARD to 12, RESYNC to 15, PANIC to 0; CALIBRATE stays
unfoldable pub state_after : (command s : ℕ) → ℕ
state_after command s =
    if (eqb command START) 1
    (if (eqb command STOP) 19
    (if (eqb command HARD) 12
    (if (eqb command RESYNC) 15
    (if (eqb command PANIC) 0
    s))))
