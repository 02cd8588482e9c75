-- A change fits the words of a store: the code that is kept is 1 to 15.
-- 0 is kept as 15, any other code as it is.
use mathlib.Core.List.{[]}
use Prim.Native.Nat.{ℕ, ◌≤◌, ◌<◌}
use native.Mathlib.Omega.{arith}
use borrow.Author.Tests.{eqb-false}
use lib.Dec.{eqb}
use Rattle.laws.proofs.Bools.{if_has}
use Rattle.history.specs.Recall.{AllFit}
use Rattle.follower.specs.Change.{one_code, change_for}

pub some_code : (n : ℕ) → n < 16 → (1 ≤ one_code n) × (one_code n < 16)
some_code n h =
    if_has (λ (k : ℕ). (1 ≤ k) × (k < 16)) (eqb n 0) 15 n (λ e. (omega arith, omega arith)) (λ e. (omega (arith, eqb-false n 0 e), h))

pub change_fits : (orbits number before now : ℕ) → number < 4096 → now < 16 → AllFit (change_for orbits number before now)
unfolding change_for
change_fits orbits number before now low small =
    let w = some_code now small in
    if_has AllFit (eqb (one_code before) (one_code now)) [] _
    (λ e. tt)
    (λ e. (record { number = low; some = w.0; code = w.1; orbit = omega arith }, tt))
