-- The triggers sent from crossing t on are those of a walk over a list of marks, in which t does not stand.
-- Without an earlier trigger a ring tells the empty list at any t; each crossing's mark joins both, and the rules allow the same over both.
use mathlib.Core.Path.{◌≡◌, refl, ◌∙◌}
use mathlib.Core.Bool.{Bool}
use mathlib.Core.List.{List, [], ◌∷◌}
use Prim.Native.Nat.{ℕ, zero, suc}
use native.Mathlib.Numerals.{add-one}
use native.Mathlib.Omega.{arith}
use lib.ListN.{length, replicate}
use Rattle.laws.specs.Base.{if, one}
use Rattle.laws.proofs.Bools.{one_le}
use Rattle.settings.specs.Names.{rules_of}
use Rattle.settings.specs.Standard.{standard}
use Rattle.throttle.specs.Marks.{passed}
use Rattle.throttle.specs.Rules.{free}
use Rattle.throttle.specs.Windows.{Tells, free_after}
use Rattle.throttle.proofs.Ring.{passed_long}
use Rattle.throttle.proofs.Windows.{tells_on, none_told}
use Rattle.throttle.proofs.Instances.{refused_told}
use Rattle.runup.proofs.Walk.{near_standard}
use Rattle.figures.specs.Figures.{sends, sends_from}

-- `sends` over a list of marks, the newest first
unfoldable pub sends_after : (ℕ → Bool) → ℕ → ℕ → List ℕ → List ℕ
sends_after warn zero k ms = []
sends_after warn (suc left) k ms =
    let sent = free_after (rules_of standard) ms (warn k) in
    let rest = sends_after warn left (suc k) (one sent ∷ ms) in
    if sent (k ∷ rest) rest

sends_same : (warn : ℕ → Bool) (left k n : ℕ) (ws ms : List ℕ) → length ws ≡ 32 → Tells ws n ms → sends warn left k n ws ≡ sends_after warn left k ms
unfolding sends sends_after
sends_same warn zero k n ws ms long told = refl
sends_same warn (suc left) k n ws ms long told =
    let sent = free (rules_of standard) ws n (warn k) in
    let next : Tells (passed ws n (one sent)) (suc n) (one sent ∷ ms) =
    rw (← add-one n) (tells_on ws n ms (one sent) long (omega (arith, one_le sent)) told) in
    let rest = sends_same warn left (suc k) (suc n) (passed ws n (one sent)) (one sent ∷ ms) (passed_long ws n (one sent) ∙ long) next in
    rw rest (rw (refused_told (rules_of standard) near_standard ws n ms told (warn k)))

pub any_time : (t : ℕ) (warn : ℕ → Bool) → sends_from t warn ≡ sends_after warn 251 0 []
any_time t warn = sends_same warn 251 0 t (replicate 32 0) [] refl (none_told t)
