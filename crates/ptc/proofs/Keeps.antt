-- Crossings and commands keep a controller sound, and a sound one has room for the next crossing.
-- Each part of the soundness is kept by a law of its own; here they are put together.
use mathlib.Core.Path.{◌≡◌}
use mathlib.Core.Bool.{Bool, true, ◌&&◌}
use Prim.Native.Nat.{ℕ, ◌+◌, ◌≤◌, ◌<◌, ◌^◌}
use native.Mathlib.Omega.{arith}
use borrow.Author.Rules.{rules}
use lib.Dec.{eqb}
use Rattle.laws.specs.Base.{if}
use Rattle.laws.proofs.Tests.{tests}
use Rattle.settings.specs.declared.names.Schedule.{Schedule}
use Rattle.settings.specs.declared.names.Waits.{Waits}
use Rattle.states.specs.Names.{running}
use Rattle.states.specs.Commands.{CALIBRATE, takes}
use Rattle.states.specs.Moves.{moved_of}
use Rattle.states.specs.Sound.{sound_state, sound_waits}
use Rattle.states.proofs.Keeps.{moved_sound, command_sound}
use Rattle.counts.specs.Counts.{fate_of}
use Rattle.counts.specs.Sound.{sound_counts}
use Rattle.counts.proofs.Balance.{counts_read, counted_sound, none_sound, fate_once}
use Rattle.ptc.specs.declared.Ptc.{Ptc}
use Rattle.ptc.specs.declared.Plan.{Plan}
use Rattle.ptc.specs.declared.Scene.{Scene}
use Rattle.ptc.specs.Cycle.{kept_of, opened_of, asks_of}
use Rattle.ptc.specs.Crossing.{rule_in, events_of, crossed_of}
use Rattle.ptc.specs.Command.{commanded_of}
use Rattle.ptc.specs.Support.Room.{Room}
use Rattle.ptc.specs.Sound.{sound_cycle, sound_ptc}

-- the parts of the test
pub record Sound (k : ℕ) (own : Bool) (m : ℕ) (p : Ptc) : Type 0 where
  pub stands : sound_state k p.state p.wait ≡ true
  pub cycle : sound_cycle own p.state p.cycle ≡ true
  pub counts : sound_counts m p.counts ≡ true
  pub events : p.events ≤ m

pub sound_read : (k : ℕ) (own : Bool) (m : ℕ) (p : Ptc) → sound_ptc k own m p ≡ true → Sound k own m p
unfolding sound_ptc
sound_read k own m p e = grind arith

make : (k : ℕ) (own : Bool) (m : ℕ) (p : Ptc) → Sound k own m p → sound_ptc k own m p ≡ true
unfolding sound_ptc
make k own m p s = search (rules, tests)

events_most : (step events m : ℕ) (sent cal : Bool) → events ≤ m → events_of step events sent cal ≤ m + 1
events_most step events m sent cal h = grind arith

-- whoever held the slot before
pub cycle_sound : (at : Schedule) (number : ℕ) (before own : Bool) (old s c : ℕ) (asks : Bool) → sound_cycle before old c ≡ true
    → sound_cycle own s (if asks 0 (opened_of at number own (kept_of s own c))) ≡ true
unfolding kept_of opened_of
cycle_sound at number before own old s c asks e = grind arith

-- an open cycle is the holder's and runs, sound or not before
pub open_is_held : (at : Schedule) (number : ℕ) (own : Bool) (s c : ℕ) → eqb (opened_of at number own (kept_of s own c)) 2 ≡ true
    → (own ≡ true) × (running s ≡ true)
unfolding kept_of opened_of
open_is_held at number own s c e = (grind arith, grind arith)

-- the holder may be another one than before
pub crossed_sound : (plan : Plan) (scene : Scene) (k class : ℕ) (asked own : Bool) (m : ℕ) (p : Ptc) → sound_waits plan.waits ≡ true
    → sound_ptc k own m p ≡ true → sound_ptc k (eqb k scene.holder) (m + 1) (crossed_of plan scene k class asked p).ptc ≡ true
unfolding crossed_of
crossed_sound plan scene k class asked own m p w e =
    let s = sound_read k own m p e in
    let at = plan.at in
    let number = scene.number in
    let now = eqb k scene.holder in
    let move = moved_of at plan.waits k number class p.state p.wait in
    let cycle = opened_of at number now (kept_of move.state now p.cycle) in
    let asks = asks_of at number cycle in
    let rule = rule_in scene move.state in
    let free = eqb rule 0 in
    let fate = fate_of plan.gap number move.state now (eqb cycle 2) rule in
    make k now (m + 1) _
    (record {
      stands = moved_sound at plan.waits k number class p.state p.wait w s.stands;
      cycle = cycle_sound at number own now p.state move.state p.cycle asks s.cycle;
      counts = counted_sound m asked fate asks free p.counts (fate_once plan.gap number move.state now (eqb cycle 2) rule) s.counts;
      events = events_most move.code p.events m (asked && eqb fate 0) (asks && free) s.events;
    })

-- CALIBRATE is taken in READY and WARN alone
calibrates : (command s : ℕ) (cycle : Bool) → takes command s cycle ≡ true → eqb command CALIBRATE ≡ true → running s ≡ true
unfolding takes
calibrates command s cycle t e = grind arith

pub commanded_sound : (w : Waits) (k command : ℕ) (own : Bool) (m : ℕ) (p : Ptc) → sound_waits w ≡ true → sound_ptc k own m p ≡ true
    → sound_ptc k own m (commanded_of w command p).ptc ≡ true
unfolding commanded_of
commanded_sound w k command own m p waits h =
    let s = sound_read k own m p h in
    let led = command_sound w k command p.state p.wait waits s.stands in
    make k own m _
    (record {
      stands = grind arith;
      cycle = grind (arith, calibrates command p.state);
      counts = grind (arith, none_sound m);
      events = grind arith;
    })

pub roomy : (k : ℕ) (own : Bool) (m : ℕ) (p : Ptc) → m < 2 ^ 41 → sound_ptc k own m p ≡ true → Room p
roomy k own m p h e =
    let s = sound_read k own m p e in
    let b = counts_read m p.counts s.counts in
    omega arith
