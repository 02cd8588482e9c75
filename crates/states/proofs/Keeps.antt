-- What later proofs need of the states: moves and commands keep a state sound with its wait, and codes and statuses are in range.
-- By the tests of the definitions: at each arm the states and codes are numerals.
use mathlib.Core.Path.{◌≡◌}
use mathlib.Core.Bool.{true, false, ◌||◌}
use Prim.Native.Nat.{ℕ, ◌-◌, ◌≤◌}
use native.Mathlib.Omega.{arith}
use lib.Dec.{eqb}
use Rattle.laws.specs.Base.{if}
use Rattle.laws.proofs.Bools.{if_has}
use Rattle.settings.specs.declared.names.Schedule.{Schedule}
use Rattle.settings.specs.declared.names.Waits.{Waits}
use Rattle.states.specs.declared.Moved.{Moved}
use Rattle.states.specs.Names.{READY, WARN, running, status_of}
use Rattle.states.specs.Moves.{move_of, entry_wait, moved_of}
use Rattle.states.specs.Commands.{state_after}
use Rattle.states.specs.Sound.{waiting, sound_state, sound_waits}

-- a state that does not wait is entered with wait 0
pub entry_waiting : (w : Waits) (s : ℕ) → waiting s ≡ false → entry_wait w s ≡ 0
unfolding entry_wait
entry_waiting w s n = grind arith

pub entry_most : (w : Waits) → sound_waits w ≡ true → (s : ℕ) → entry_wait w s ≤ 255
unfolding entry_wait
entry_most w e s = grind arith

pub code_low : (at : Schedule) (k number class s : ℕ) → (move_of at k number class s).code ≤ 10
unfolding move_of
code_low at k number class s = grind arith

-- a state that controller k may be in
record Stands (k s : ℕ) : Type 0 where
  low : s ≤ 19
  first : eqb k 0 ≡ false → eqb s 3 ≡ false

stands : (k s wait : ℕ) → sound_state k s wait ≡ true → Stands k s
unfolding sound_state
stands k s wait e = record { low = grind arith; first = λ n. grind arith }

move_low : (at : Schedule) (k number class s : ℕ) → s ≤ 19 → (move_of at k number class s).state ≤ 19
unfolding move_of
move_low at k number class s h = grind arith

-- another than controller 0 does not move to state 3
move_other : (at : Schedule) (k number class s : ℕ) → eqb k 0 ≡ false → eqb s 3 ≡ false → eqb (move_of at k number class s).state 3 ≡ false
unfolding move_of
move_other at k number class s n m = grind arith

move_stands : (at : Schedule) (k number class s : ℕ) → Stands k s → Stands k (move_of at k number class s).state
move_stands at k number class s g =
    record { low = move_low at k number class s g.low; first = λ n. move_other at k number class s n (g.first n) }

entry_sound : (w : Waits) (k s : ℕ) → sound_waits w ≡ true → Stands k s → sound_state k s (entry_wait w s) ≡ true
unfolding sound_state entry_wait
entry_sound w k s e g = grind arith

-- a wait that falls stays sound
fall_sound : (k number s wait : ℕ) → sound_state k s wait ≡ true → sound_state k s (if (eqb number 0) (wait - 1) wait) ≡ true
unfolding sound_state
fall_sound k number s wait e = grind arith

pub moved_sound : (at : Schedule) (w : Waits) (k number class s wait : ℕ) → sound_waits w ≡ true → sound_state k s wait ≡ true
    → sound_state k (moved_of at w k number class s wait).state (moved_of at w k number class s wait).wait ≡ true
unfolding moved_of
moved_sound at w k number class s wait e h =
    if_has (λ (x : Moved). sound_state k x.state x.wait ≡ true) (eqb wait 0) _ _
    (λ z. entry_sound w k _ e (move_stands at k number class s (stands k s wait h)))
    (λ z. fall_sound k number s wait h)

pub command_sound : (w : Waits) (k command s wait : ℕ) → sound_waits w ≡ true → sound_state k s wait ≡ true
    → sound_state k (state_after command s) (if (eqb command 5) wait (entry_wait w (state_after command s))) ≡ true
unfolding sound_state state_after entry_wait
command_sound w k command s wait e h = grind arith

pub status_low : (s : ℕ) → status_of s ≤ 12
unfolding status_of
status_low s = grind arith

pub shows_running : (s : ℕ) → (status_of s ≡ 8 → s ≡ 7) × (status_of s ≡ 1 → s ≡ 8)
unfolding status_of
shows_running s = (grind arith, grind arith)

-- the status as a test of the state
pub shows_ready : (s : ℕ) → eqb (status_of s) 8 ≡ eqb s READY
unfolding status_of
shows_ready s = grind arith

pub shows_warn : (s : ℕ) → eqb (status_of s) 1 ≡ eqb s WARN
unfolding status_of
shows_warn s = grind arith

pub shows_runs : (s : ℕ) → eqb (status_of s) 8 || eqb (status_of s) 1 ≡ running s
unfolding status_of
shows_runs s = grind arith

-- a move that leads to a running state sends no code
move_quiet : (at : Schedule) (k number class s : ℕ) → running (move_of at k number class s).state ≡ true → (move_of at k number class s).code ≡ 0
unfolding move_of
move_quiet at k number class s r = grind arith

pub moved_quiet : (at : Schedule) (w : Waits) (k number class s wait : ℕ) → running (moved_of at w k number class s wait).state ≡ true
    → (moved_of at w k number class s wait).code ≡ 0
unfolding moved_of
moved_quiet at w k number class s wait = grind (arith, move_quiet at k number class s)
