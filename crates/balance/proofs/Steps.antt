-- A reading follows a controller through one crossing and through one command: the same counts and events, and whether its cycle is open.
-- Each part of the reading is the controller's own part, by the cases of the tests that both go by.
use mathlib.Core.Path.{◌≡◌, refl, sym}
use mathlib.Core.Logic.{⊎_elim}
use mathlib.Core.Bool.{Bool, true, false, not, ◌&&◌, ◌||◌}
use mathlib.Core.List.{List}
use Prim.Native.Nat.{ℕ, zero, suc, ◌+◌, ◌≤◌}
use native.Mathlib.Nat.{add-zero}
use native.Mathlib.Omega.{arith}
use borrow.Author.Tests.{eqb-true}
use lib.Dec.{eqb}
use lib.ListN.{get_or}
use Rattle.laws.specs.Base.{if, one}
use Rattle.laws.proofs.Tests.{either}
use Rattle.settings.specs.declared.Settings.{Settings}
use Rattle.settings.specs.declared.names.Waits.{Waits}
use Rattle.settings.specs.Names.{gap_of, schedule_of}
use Rattle.states.specs.Names.{running}
use Rattle.states.specs.Commands.{START, CALIBRATE, takes}
use Rattle.counts.specs.declared.Counts.{Counts}
use Rattle.counts.specs.declared.Calibrations.{Calibrations}
use Rattle.counts.specs.Counts.{SENT, fate_of, lost_to, requested_of, calibrated_of, no_counts}
use Rattle.ptc.specs.declared.Ptc.{Ptc}
use Rattle.ptc.specs.declared.Scene.{Scene}
use Rattle.ptc.specs.Cycle.{NONE, OPEN, kept_of, opened_of, asks_of}
use Rattle.ptc.specs.Crossing.{rule_in, free_in, crossed_of}
use Rattle.ptc.specs.Command.{armed_ptc, led_ptc, commanded_of}
use Rattle.kit.specs.Kit.{plan_of}
use Rattle.daybook.specs.Row.{taken_in}
use Rattle.balance.specs.Reading.{Reading, Look, opens, cause, cal_counted, counted, past_crossing, past_command}
use Rattle.balance.proofs.Showing.{moved, cycle, code_opens, code_restarts}

pub record Follows (r : Reading) (p : Ptc) : Type 0 where
  pub calibrating : r.calibrating ≡ eqb p.cycle OPEN
  pub counts : r.counts ≡ p.counts
  pub events : r.events ≡ p.events

-- ---- the cycle, by its three values

abbrev kept_by : Bool → Bool → ℕ → ℕ
kept_by runs own c = if runs (if (eqb c 2 && not own) 0 c) 0

abbrev opened_by : Bool → Bool → ℕ → ℕ
opened_by own here c = if (eqb c 1 && (own && here)) 2 c

open_cases : (runs own here : Bool) (c : ℕ) → c ≤ 2
    → runs && (own && (eqb c 2 || (eqb (kept_by runs own c) 1 && eqb (opened_by own here (kept_by runs own c)) 2)))
    ≡ eqb (opened_by own here (kept_by runs own c)) 2
open_cases false own here c h = refl
open_cases true false here zero h = refl
open_cases true false here (suc zero) h = refl
open_cases true false here (suc (suc zero)) h = refl
open_cases true true here zero h = refl
open_cases true true true (suc zero) h = refl
open_cases true true false (suc zero) h = refl
open_cases true true here (suc (suc zero)) h = refl
open_cases true own here (suc (suc (suc c))) h = absurd (omega arith)

-- it ends with the crossing in which it asks
ends_cases : (here : Bool) (c : ℕ) → eqb c 2 && not (eqb c 2 && here) ≡ eqb (if (eqb c 2 && here) 0 c) 2
ends_cases here c = ⊎_elim (λ (e : eqb c 2 ≡ true). rw e (open_then here c e)) (λ (e : eqb c 2 ≡ false). rw e (sym e)) (either (eqb c 2))
  where
    open_then : (here : Bool) (c : ℕ) → eqb c 2 ≡ true → not here ≡ eqb (if here 0 c) 2
    open_then true c e = refl
    open_then false c e = sym e

-- ---- the counts

-- a request counts where the board counts it: the cause that a reading finds is its fate
requests_same : (asked : Bool) (fate : ℕ) (c : Counts) (cal : Calibrations)
    → ◌≡◌ {A = Counts}
    (record {
      requested = c.requested + one asked;
      accepted = c.accepted + one (asked && eqb fate SENT);
      lost = if asked (lost_to fate c.lost) c.lost;
      cal = cal;
    })
    (let r = requested_of asked fate c in
    record { requested = r.requested; accepted = r.accepted; lost = r.lost; cal = cal })
unfolding requested_of
requests_same true fate c cal = refl
requests_same false fate c cal = simp add-zero

calibrations_same : (asks free : Bool) (c : Calibrations)
    → ◌≡◌ {A = Calibrations}
    (record {
      requested = c.requested + one asks;
      accepted = c.accepted + one (asks && free);
      lost = c.lost + one (asks && not free);
    })
    (calibrated_of asks free c)
unfolding calibrated_of
calibrations_same true free c = refl
calibrations_same false free c = simp add-zero

-- ---- a crossing

module _ (s : Settings) (scene : Scene) (k class : ℕ) (asked : Bool) (p : Ptc) where
  -- what a bench sees where the row is this crossing's
  abbrev pub look_of : Look
  look_of =
      let x = crossed_of (plan_of s k) scene k class asked p in
      record {
        asked = asked;
        sent = x.sent;
        cal = x.cal;
        code = x.code;
        runs = running x.ptc.state;
        own = eqb k scene.holder;
        number = scene.number;
        rule = rule_in scene x.ptc.state;
      }

  abbrev now : ℕ
  now = cycle (plan_of s k) scene k class asked p

  abbrev state : ℕ
  state = (moved (plan_of s k) scene k class asked p).state

  module _ (away : (schedule_of s k).wte ≡ (schedule_of s k).bc0 → ⊥) (later : (schedule_of s k).wte ≡ (schedule_of s k).gap → ⊥) (few : p.cycle ≤ 2) where
    pub opens_same : (before : Bool) → before ≡ eqb p.cycle OPEN → opens look_of before ≡ eqb now OPEN
    unfolding opens kept_of opened_of crossed_of
    opens_same before e =
        rw (e, code_opens (plan_of s k) scene k class asked p away later)
        (open_cases (running state) (eqb k scene.holder) (eqb scene.number (schedule_of s k).wte) p.cycle few)

    counts_same : counted (gap_of s) look_of (eqb now OPEN) (asks_of (schedule_of s k) scene.number now) p.counts
        ≡ (crossed_of (plan_of s k) scene k class asked p).ptc.counts
    unfolding counted cal_counted cause crossed_of fate_of
    counts_same =
        let free = free_in scene state in
        let asks = asks_of (schedule_of s k) scene.number now in
        let fate = fate_of (gap_of s) scene.number state (eqb k scene.holder) (eqb now OPEN) (rule_in scene state) in
        rw (calibrations_same asks free p.counts.cal) (requests_same asked fate p.counts (calibrated_of asks free p.counts.cal))

    ends_same : eqb now OPEN && not (asks_of (schedule_of s k) scene.number now) ≡ eqb (crossed_of (plan_of s k) scene k class asked p).ptc.cycle OPEN
    unfolding asks_of crossed_of
    ends_same = ends_cases (eqb scene.number (schedule_of s k).cal) now

    events_same : (before : ℕ) → before ≡ p.events
        → if (eqb look_of.code 7) 0 before + one (look_of.sent || look_of.cal) ≡ (crossed_of (plan_of s k) scene k class asked p).ptc.events
    unfolding crossed_of
    events_same before e = rw (code_restarts (plan_of s k) scene k class asked p, e)

    pub crossing_follows : (r : Reading) → Follows r p → Follows (past_crossing s k look_of r) (crossed_of (plan_of s k) scene k class asked p).ptc
    unfolding past_crossing asks_of
    crossing_follows r f =
        let o = opens_same r.calibrating f.calibrating in
        record {
          calibrating = rw o ends_same;
          counts = rw (o, f.counts) counts_same;
          events = events_same r.events f.events;
        }

-- ---- a command

taken_follows : (w : Waits) (command : ℕ) (p : Ptc) (r : Reading) → Follows r p
    → Follows (record { calibrating = false; counts = if (eqb command START) no_counts r.counts; events = r.events })
    (if (eqb command CALIBRATE) (armed_ptc p) (led_ptc w command p))
taken_follows w command p r f =
    ⊎_elim
    (λ (e : eqb command CALIBRATE ≡ true).
    let five : command ≡ 5 = eqb-true command 5 e in
    rw five (record { calibrating = refl; counts = f.counts; events = f.events }))
    (λ (e : eqb command CALIBRATE ≡ false). rw e (record { calibrating = refl; counts = rw f.counts; events = f.events }))
    (either (eqb command CALIBRATE))

pub command_follows : (w : Waits) (rec row : List ℕ) (k : ℕ) (p : Ptc) (r : Reading) → eqb (get_or rec 1 0) k ≡ true
    → taken_in row ≡ (commanded_of w (get_or rec 2 0) p).taken → Follows r p → Follows (past_command rec row k r) (commanded_of w (get_or rec 2 0) p).ptc
unfolding past_command commanded_of
command_follows w rec row k p r mine says f =
    let taken = takes (get_or rec 2 0) p.state (not (eqb p.cycle NONE)) in
    ⊎_elim
    (λ (e : taken ≡ true). rw (mine, says, e) (taken_follows w (get_or rec 2 0) p r f))
    (λ (e : taken ≡ false). rw (mine, says, e) f)
    (either taken)

pub passed_by : (rec row : List ℕ) (k : ℕ) (r : Reading) → eqb (get_or rec 1 0) k ≡ false → past_command rec row k r ≡ r
unfolding past_command
passed_by rec row k r other = rw other
