-- What the code of a crossing tells of a controller: 13 that its cycle opens, 7 that its events begin again.
-- A move that leads to READY or WARN sends no code, and at at_wte no other code is due, so 13 is never hidden behind another.
use mathlib.Core.Path.{◌≡◌, refl}
use mathlib.Core.Logic.{⊎_elim}
use mathlib.Core.Bool.{Bool, true, false, ◌&&◌, false≢true}
use Prim.Native.Nat.{ℕ, ◌≤◌}
use native.Mathlib.Omega.{arith}
use borrow.Author.Tests.{eqb-true, ne_eqb}
use lib.Dec.{eqb, ltb}
use Rattle.laws.specs.Base.{if}
use Rattle.laws.proofs.Bools.{both, if_has}
use Rattle.laws.proofs.Tests.{either}
use Rattle.settings.specs.declared.names.Schedule.{Schedule}
use Rattle.settings.specs.declared.names.Waits.{Waits}
use Rattle.states.specs.declared.Moved.{Moved}
use Rattle.states.specs.Names.{running}
use Rattle.states.specs.Moves.{moved_of, orbit_code}
use Rattle.states.proofs.Keeps.{code_low, moved_quiet}
use Rattle.ptc.specs.declared.Ptc.{Ptc}
use Rattle.ptc.specs.declared.Plan.{Plan}
use Rattle.ptc.specs.declared.Scene.{Scene}
use Rattle.ptc.specs.Cycle.{ARMED, OPEN, kept_of, opened_of, cycle_code}
use Rattle.ptc.specs.Crossing.{code_of, crossed_of}
use Rattle.ptc.proofs.Codes.{code_of_move}

-- ---- the code of a move

moved_low : (at : Schedule) (w : Waits) (k number class s wait : ℕ) → (moved_of at w k number class s wait).code ≤ 10
unfolding moved_of
moved_low at w k number class s wait =
    if_has (λ (x : Moved). x.code ≤ 10) (eqb wait 0) _ _ (λ e. code_low at k number class s) (λ e. omega arith)

-- ---- the code that is sent, by the three that may be due

abbrev Other : ℕ → ℕ → Type 0
Other code x = eqb x code ≡ false

-- 1, 11, or none
orbit_other : (code : ℕ) → eqb 1 code ≡ false → eqb 11 code ≡ false → eqb 0 code ≡ false → (at : Schedule) (number : ℕ) → Other code (orbit_code at number)
unfolding orbit_code
orbit_other code p q r at number =
    if_has (Other code) (eqb number at.bc0) 1 _ (λ e. p) (λ e. if_has (Other code) (eqb number at.gap) 11 0 (λ e. q) (λ e. r))

orbit_none : (at : Schedule) → (at.wte ≡ at.bc0 → ⊥) → (at.wte ≡ at.gap → ⊥) → orbit_code at at.wte ≡ 0
unfolding orbit_code
orbit_none at p q = rw (ne_eqb at.wte at.bc0 p, ne_eqb at.wte at.gap q)

-- 13 where the cycle opens, and there nothing else is due
tells_opening : (move orbit : ℕ) (opening te : Bool) → move ≤ 10 → eqb orbit 13 ≡ false → (opening ≡ true → (move ≡ 0) × (orbit ≡ 0))
    → eqb (code_of move orbit (if opening 13 (if te 2 0))) 13 ≡ opening
tells_opening move orbit true te low other free = rw ((free refl).0, (free refl).1)
tells_opening move orbit false te low other free =
    if_has (Other 13) (ltb 0 move) move _ (λ e. ne_eqb move 13 (omega arith))
    (λ e. if_has (Other 13) (ltb 0 orbit) orbit _ (λ e. other) (λ e. if_has (Other 13) te 2 0 (λ e. refl) (λ e. refl)))

-- ---- where a cycle opens

-- an armed cycle was kept, so the state runs
kept_runs : (s : ℕ) (own : Bool) (cycle : ℕ) → eqb (kept_of s own cycle) ARMED ≡ true → running s ≡ true
unfolding kept_of
kept_runs s own cycle e =
    ⊎_elim (λ (q : running s ≡ true). q) (λ (q : running s ≡ false). absurd (false≢true (rw q at e))) (either (running s))

-- it became open, so the number is at_wte
opened_there : (at : Schedule) (number : ℕ) (own : Bool) (cycle : ℕ) → eqb cycle ARMED ≡ true → eqb (opened_of at number own cycle) OPEN ≡ true
    → number ≡ at.wte
unfolding opened_of
opened_there at number own cycle a e =
    ⊎_elim
    (λ (q : own && eqb number at.wte ≡ true). eqb-true number at.wte (both own (eqb number at.wte) q).1)
    (λ (q : own && eqb number at.wte ≡ false). absurd (false≢true (rw (eqb-true cycle ARMED a, q) at e)))
    (either (own && eqb number at.wte))

module _ (plan : Plan) (scene : Scene) (k class : ℕ) (asked : Bool) (p : Ptc) where
  abbrev pub moved : Moved
  moved = moved_of plan.at plan.waits k scene.number class p.state p.wait

  abbrev pub kept : ℕ
  kept = kept_of moved.state (eqb k scene.holder) p.cycle

  abbrev pub cycle : ℕ
  cycle = opened_of plan.at scene.number (eqb k scene.holder) kept

  pub code_opens : (plan.at.wte ≡ plan.at.bc0 → ⊥) → (plan.at.wte ≡ plan.at.gap → ⊥)
      → eqb (crossed_of plan scene k class asked p).code 13 ≡ eqb kept ARMED && eqb cycle OPEN
  unfolding crossed_of cycle_code
  code_opens away later =
      tells_opening moved.code (orbit_code plan.at scene.number) (eqb kept ARMED && eqb cycle OPEN)
      (eqb cycle OPEN && eqb scene.number plan.at.te)
      (moved_low plan.at plan.waits k scene.number class p.state p.wait)
      (orbit_other 13 refl refl refl plan.at scene.number)
      (λ e.
      let w = both (eqb kept ARMED) (eqb cycle OPEN) e in
      let here = opened_there plan.at scene.number (eqb k scene.holder) kept w.0 w.1 in (
        moved_quiet plan.at plan.waits k scene.number class p.state p.wait
            (kept_runs moved.state (eqb k scene.holder) p.cycle w.0),
        rw here (orbit_none plan.at away later),
      ))

  -- 7 is a move's code alone
  pub code_restarts : eqb (crossed_of plan scene k class asked p).code 7 ≡ eqb moved.code 7
  code_restarts = code_of_move 7 (record { none = refl; bc0 = refl; gap = refl; opens = refl; te = refl }) plan scene k class asked p
