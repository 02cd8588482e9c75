-- Document 01, "States" (003, 3.6.1): the move of each state, with the code that it sends, and the wait that is set on entry.
use Rattle.std.specs.Prelude.{ℕ, ◌-◌, Bool, ◌&&◌, leb, eqb}
use Rattle.laws.specs.Base.{if}
use Rattle.settings.specs.declared.names.Schedule.{Schedule}
use Rattle.settings.specs.declared.names.Waits.{Waits}
use Rattle.status.specs.Class.{ready, warning, out_of_sync, error, bad}
use Rattle.states.specs.declared.Step.{Step}
use Rattle.states.specs.declared.Moved.{Moved}

-- to a state, no code sent
abbrev pub goes : ℕ → Step
goes s = record { state = s; code = 0 }

-- at its number a state sends its code and is left; until then it stays
abbrev pub timed : (number at from code to : ℕ) → Step
timed number at from code to = if (eqb number at) (record { state = to; code = code }) (goes from)

-- 2, its wait over: on disconnected, bad, error or out of sync to 18, else to 3 (controller 0) or 4
abbrev pub after_resync : (k class : ℕ) → ℕ
after_resync k class = if (leb out_of_sync class) 18 (if (eqb k 0) 3 4)

-- 6, 7, 8: disconnected or bad to 9, out of sync to 10, error to 11, busy or none to 6, ready to 7, warning to 8
abbrev pub while_running : ℕ → ℕ
while_running class =
    if (leb bad class) 9
    (if (eqb class out_of_sync) 10
    (if (eqb class error) 11
    (if (eqb class ready) 7
    (if (eqb class warning) 8
    6))))

-- 9 stays while disconnected or bad, else to 6
abbrev pub while_disconnected : ℕ → ℕ
while_disconnected class = if (leb bad class) 9 6

-- the move of controller k's state s at a crossing number, its merged class being class
unfoldable pub move_of : (at : Schedule) (k number class s : ℕ) → Step
move_of at k number class s =
    if (eqb s 1) (timed number at.resync 1 5 2)
    (if (eqb s 2) (goes (after_resync k class))
    (if (eqb s 3) (timed number at.oc0 3 8 4)
    (if (eqb s 4) (timed number at.start 4 9 5)
    (if (eqb s 5) (timed number at.ec0 5 7 6)
    (if (eqb s 6) (goes (while_running class))
    (if (eqb s 7) (goes (while_running class))
    (if (eqb s 8) (goes (while_running class))
    (if (eqb s 9) (goes (while_disconnected class))
    (if (eqb s 12) (goes 13)
    (if (eqb s 13) (timed number at.hard 13 6 14)
    (if (eqb s 14) (goes 15)
    (if (eqb s 15) (goes 16)
    (if (eqb s 16) (timed number at.resync 16 5 17)
    (if (eqb s 17) (goes 5)
    (if (eqb s 19) (timed number at.stop 19 10 0)
    (goes s))))))))))))))))

-- set on entry: 2 and 17 wait recover_resync, 12 settle_hard, 14 recover_hard, 15 settle_resync; 0 for every other state
unfoldable pub entry_wait : Waits → ℕ → ℕ
entry_wait w s =
    if (eqb s 2) w.recover.resync
    (if (eqb s 12) w.settle.hard
    (if (eqb s 14) w.recover.hard
    (if (eqb s 15) w.settle.resync
    (if (eqb s 17) w.recover.resync
    0))))

-- at wait 0 the move happens; otherwise the wait falls by 1 at crossing number 0
unfoldable pub moved_of : (at : Schedule) (w : Waits) (k number class s wait : ℕ) → Moved
moved_of at w k number class s wait =
    let step = move_of at k number class s in
    if (eqb wait 0)
    (record { state = step.state; wait = entry_wait w step.state; code = step.code })
    (record { state = s; wait = if (eqb number 0) (wait - 1) wait; code = 0 })

-- in every state code 1 is sent at at_bc0 and 11 at at_gap
unfoldable pub orbit_code : Schedule → ℕ → ℕ
orbit_code at number = if (eqb number at.bc0) 1 (if (eqb number at.gap) 11 0)

-- 3 at at_oc0 sends 8, orbit count = 0: where that move happens
abbrev pub clears_orbits : (at : Schedule) (number s wait : ℕ) → Bool
clears_orbits at number s wait = eqb wait 0 && (eqb s 3 && eqb number at.oc0)
