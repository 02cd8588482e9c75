-- Document 01, "States": 3 at at_oc0 sends 8, orbit count = 0. The clock goes by controller 0's byte of the row (`clears_orbit`), so that the
-- orbit count can be told from rows; that byte tells of this move of controller 0, and of nothing else.
use Rattle.std.specs.Prelude.{◌≡◌, List, ◌∷◌, ℕ}
use Rattle.states.specs.Moves.{clears_orbits}
use Rattle.ptc.specs.declared.Ptc.{Ptc}
use Rattle.ptc.specs.declared.Plan.{Plan}
use Rattle.ptc.specs.declared.Scene.{Scene}
use Rattle.records.specs.Rows.{clears_orbit}
use Rattle.eight.specs.Eight.{byte_of}

abbrev pub OrbitsCleared : Type 0
OrbitsCleared =
    (plan : Plan) (scene : Scene) (classes : List ℕ) (requests : ℕ) (p : Ptc) (others : List ℕ)
    → clears_orbit (byte_of plan scene classes requests 0 p ∷ others) ≡ clears_orbits plan.at scene.number p.state p.wait
