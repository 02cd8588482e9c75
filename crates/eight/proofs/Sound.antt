-- Each of the eight is sound where all are; and fresh ones are.
-- By the law of `all_i` at one place, and by computing.
use mathlib.Core.Path.{◌≡◌, refl}
use mathlib.Core.Logic.{⊎_elim}
use mathlib.Core.Bool.{Bool, true}
use mathlib.Core.List.{List}
use Prim.Native.Nat.{ℕ, ◌≤◌, ◌<◌}
use native.Mathlib.Nat.{zero-add}
use native.Mathlib.Omega.{arith}
use borrow.Author.Tests.{le-leb}
use lib.Dec.{eqb}
use lib.ListN.{length, get_or, replicate, get_or-eq_default}
use Rattle.laws.specs.Base.{all_i}
use Rattle.laws.proofs.Bools.{and_yes}
use Rattle.laws.proofs.Tests.{lt_or_ge}
use Rattle.laws.proofs.All.{alli_get}
use Rattle.states.specs.Sound.{sound_state}
use Rattle.counts.specs.Sound.{within_counts, sound_counts}
use Rattle.counts.proofs.Balance.{none_sound}
use Rattle.ptc.specs.declared.Ptc.{Ptc}
use Rattle.ptc.specs.Sound.{sound_ptc}
use Rattle.ptc.specs.Fresh.{fresh_ptc}
use Rattle.eight.specs.Eight.{sound_at, sound_eight}

fresh_ptc_sound : (k : ℕ) (own : Bool) (m : ℕ) → sound_ptc k own m fresh_ptc ≡ true
unfolding sound_ptc sound_state
fresh_ptc_sound k own m = and_yes _ _ (none_sound m) (le-leb 0 m (omega arith))

pub ptc_at : (holder m : ℕ) (ps : List Ptc) (k : ℕ) → sound_eight holder m ps ≡ true → sound_ptc k (eqb k holder) m (get_or ps k fresh_ptc) ≡ true
unfolding sound_eight
ptc_at holder m ps k e =
    ⊎_elim
    (λ (h : k < length ps). rw zero-add at (alli_get (sound_at holder m) 0 ps k fresh_ptc e h))
    (λ (h : length ps ≤ k). rw (get_or-eq_default ps fresh_ptc h) (fresh_ptc_sound k (eqb k holder) m))
    (lt_or_ge k (length ps))

pub fresh_eight_sound : (holder : ℕ) → sound_eight holder 0 (replicate 8 fresh_ptc) ≡ true
unfolding sound_eight all_i sound_ptc sound_state within_counts sound_counts
fresh_eight_sound holder = refl
