-- Controller 0's byte of the row tells of the move that sets the orbit count to 0.
-- A byte's low half is the code, code 8 is a move's alone, and of the moves that of state 3 at at_oc0 alone.
use mathlib.Core.Path.{refl, ap, ◌∙◌}
use Prim.Native.Nat.{ℕ, ◌<◌}
use native.Mathlib.Omega.{arith}
use lib.Dec.{eqb}
use lib.ListN.{get_or}
use Rattle.states.proofs.Orbits.{moved_eight}
use Rattle.ptc.specs.declared.Crossed.{Crossed}
use Rattle.ptc.specs.Crossing.{crossed_of}
use Rattle.ptc.proofs.Codes.{MovesOnly, code_of_move}
use Rattle.ptc.proofs.Triggers.{code_fits}
use Rattle.records.specs.Records.{asked_in}
use Rattle.records.proofs.Laws.{byte_code}
use Rattle.eight.specs.Eight.{act_of, byte_of}
use Rattle.eight.specs.Orbits.{OrbitsCleared}

pub orbits_cleared : OrbitsCleared
unfolding byte_of act_of
orbits_cleared plan scene classes requests p others =
    let class = get_or classes 0 0 in
    let asked = asked_in requests 0 in
    let o : Crossed = crossed_of plan scene 0 class asked p in
    let fits : o.code < 16 = omega (arith, code_fits plan scene 0 class asked p) in
    let moves : MovesOnly 8 = record { none = refl; bc0 = refl; gap = refl; opens = refl; te = refl } in
    ap (λ (x : ℕ). eqb x 8) (byte_code o.code o.sent o.cal fits)
    ∙ code_of_move 8 moves plan scene 0 class asked p
    ∙ moved_eight plan.at plan.waits 0 scene.number class p.state p.wait
