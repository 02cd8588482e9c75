-- One turn of the loop over the eight: what the calls answered is what the definitions say of controller k.
-- `acted` puts the calls together; the others read a part off.
use mathlib.Core.Path.{◌≡◌, ◌∙◌, refl}
use mathlib.Core.Bool.{Bool, true}
use mathlib.Core.List.{List, [], ◌∷◌}
use Prim.Native.Nat.{ℕ, ◌<◌, suc}
use native.Mathlib.Nat.{zero-add}
use native.Mathlib.Omega.{arith}
use lib.Dec.{eqb, ltb}
use lib.ListN.{length, get_or}
use Rattle.laws.proofs.All.{alli_get}
use Rattle.states.specs.Names.{status_of}
use Rattle.ptc.specs.declared.Ptc.{Ptc}
use Rattle.ptc.specs.declared.Plan.{Plan}
use Rattle.ptc.specs.declared.Scene.{Scene}
use Rattle.ptc.specs.declared.Crossed.{Crossed}
use Rattle.ptc.specs.Support.Room.{Room}
use Rattle.ptc.specs.Crossing.{crossed_of}
use Rattle.ptc.proofs.Keeps.{roomy}
use Rattle.ptc.proofs.Triggers.{code_fits}
use Rattle.records.specs.Records.{asked_in}
use Rattle.records.specs.Refusal.{LIFETIME}
use Rattle.eight.specs.Eight.{act_of, sound_at, sound_eight}
use Rattle.ptc.specs.Fresh.{fresh_ptc}
use borrow.Author.Tests.{lt-ltb}
use Rattle.laws.specs.Base.{all_b, map_i}
use Rattle.laws.proofs.Bools.{and_yes}
use Rattle.states.proofs.Keeps.{status_low}

module _ (plan : Plan) (scene : Scene) (classes : List ℕ) (requests k : ℕ) (p : Ptc) (o : Crossed) where
  pub acted : (asked : Bool) → asked ≡ asked_in requests k → o ≡ crossed_of plan scene k (get_or classes k 0) asked p
      → o ≡ act_of plan scene classes requests k p
  unfolding act_of
  acted asked a e = e ∙ rw a

  pub acted_code : o ≡ act_of plan scene classes requests k p → o.code < 16
  unfolding act_of
  acted_code e = rw e (omega (arith, code_fits plan scene k (get_or classes k 0) (asked_in requests k) p))

-- a sound controller's counts have room for one more
pub room_at : (holder m : ℕ) (ps : List Ptc) (k : ℕ) → m < LIFETIME → sound_eight holder m ps ≡ true → k < length ps → Room (get_or ps k fresh_ptc)
unfolding sound_eight
room_at holder m ps k h e l =
    roomy k (eqb k holder) m (get_or ps k fresh_ptc) (omega arith)
    (rw zero-add at (alli_get (sound_at holder m) 0 ps k fresh_ptc e l))

-- a status fits in a nibble
status_fits : (s : ℕ) → ltb (status_of s) 16 ≡ true
status_fits s = lt-ltb (status_of s) 16 (omega (arith, status_low s))

pub shown_low : (g : ℕ → Ptc → ℕ) (i : ℕ) (ps : List Ptc) → all_b (λ s. ltb s 16) (map_i (λ k p. status_of (g k p)) i ps) ≡ true
unfolding all_b map_i
shown_low g i [] = refl
shown_low g i (p ∷ ps) = and_yes _ _ (status_fits _) (shown_low g (suc i) ps)
