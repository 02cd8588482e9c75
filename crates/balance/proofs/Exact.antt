-- A trigger is sent exactly where it is due: what the bench sees of a crossing is what the controller's crossing gave, and there the
-- definitions go by the same tests. The open cycle is the reading's, which follows the controller's.
use mathlib.Core.Path.{◌≡◌, refl, ap}
use mathlib.Core.Bool.{Bool, true, false, not, ◌&&◌}
use mathlib.Core.List.{List}
use Prim.Native.Nat.{ℕ, ◌<◌}
use native.Mathlib.Omega.{arith}
use lib.Dec.{eqb}
use lib.ListN.{get_or}
use Rattle.laws.specs.Base.{if}
use Rattle.settings.specs.declared.Settings.{Settings}
use Rattle.settings.specs.Names.{gap_of}
use Rattle.states.specs.Names.{running}
use Rattle.counts.specs.Counts.{SENT, STATE, SLOT, GAP, CAL, ruled, in_gap, fate_of}
use Rattle.counts.proofs.Balance.{ruled_free}
use Rattle.ptc.specs.declared.Ptc.{Ptc}
use Rattle.ptc.specs.declared.Scene.{Scene}
use Rattle.ptc.specs.Cycle.{OPEN, asks_of}
use Rattle.ptc.specs.Crossing.{rule_in, crossed_of}
use Rattle.records.specs.Records.{rec_at, asked_in}
use Rattle.kit.specs.Kit.{plan_of}
use Rattle.daybook.specs.Whole.{Taken, Crossing, whole}
use Rattle.daybook.proofs.Seen.{scene_in, ptc_in, class_in}
use Rattle.balance.specs.Reading.{reading_of}
use Rattle.balance.specs.Exact.{due, cal_due, busy_in, Exactly}
use Rattle.balance.proofs.Showing.{cycle}
use Rattle.balance.proofs.Steps.{look_of, opens_same}
use Rattle.balance.proofs.Balance.{away, later, few, look_told, follows}

-- ---- one controller

-- sent is the fate where no cause holds
fate_sent : (runs own gap busy : Bool) (rule : ℕ)
    → eqb (if runs (if own (if gap GAP (if busy CAL (ruled rule))) SLOT) STATE) SENT ≡ runs && (own && (not gap && (not busy && eqb rule 0)))
fate_sent false own gap busy rule = refl
fate_sent true false gap busy rule = refl
fate_sent true true true busy rule = refl
fate_sent true true false true rule = refl
fate_sent true true false false rule = ruled_free rule

module _ (s : Settings) (scene : Scene) (k class : ℕ) (asked : Bool) (p : Ptc) where
  abbrev busy : Bool
  busy = eqb (cycle (plan_of s k) scene k class asked p) OPEN

  request_due : (look_of s scene k class asked p).sent ≡ due s (look_of s scene k class asked p) busy
  unfolding crossed_of fate_of
  request_due =
      let state = (crossed_of (plan_of s k) scene k class asked p).ptc.state in
      ap (λ (x : Bool). asked && x)
      (fate_sent (running state) (eqb k scene.holder) (in_gap (gap_of s) scene.number) busy (rule_in scene state))

  calibration_due : (look_of s scene k class asked p).cal ≡ cal_due s k (look_of s scene k class asked p) busy
  unfolding crossed_of asks_of
  calibration_due = refl

-- ---- a crossing of a log

module _ {s : Settings} {log buffer : List ℕ} (t : Taken s log buffer) (k : ℕ) (low : k < 8) (i : ℕ) (c : Crossing log i) where
  abbrev rows : List ℕ
  rows = (whole s log buffer).rows

  abbrev asks : Bool
  asks = asked_in (get_or (rec_at log i) 2 0) k

  busy_told : busy_in s log rows k i ≡ busy s (scene_in s log i) k (class_in s log i k) asks (ptc_in s log i k)
  busy_told =
      rw (look_told t k low i c)
      (opens_same s (scene_in s log i) k (class_in s log i k) asks (ptc_in s log i k) (away t k low) (later t k low) (few t k low i c)
      (reading_of s log rows k i).calibrating (follows t k low i (omega (arith, c.among))).calibrating)

pub exact : Exactly
exact s log buffer t k low i c =
    record {
      request = rw (busy_told t k low i c, look_told t k low i c) (request_due s (scene_in s log i) k (class_in s log i k) (asks t k low i c) (ptc_in s log i k));
      calibration = rw (busy_told t k low i c, look_told t k low i c) (calibration_due s (scene_in s log i) k (class_in s log i k) (asks t k low i c) (ptc_in s log i k));
    }
