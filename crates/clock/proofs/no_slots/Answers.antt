-- `clock::no_slots` meets its contract: the slots that are left decide as all do.
-- A turn is the law of `all_b` at one place.
use mathlib.Core.Path.{◌≡◌, refl, sym, ◌∙◌}
use mathlib.Core.Bool.{true, false}
use Prim.Native.Nat.{ℕ, ◌≤◌, ◌<◌}
use native.Mathlib.Omega.{arith}
use borrow.Author.Tests.{eq-eqb, ne_eqb}
use borrow.Author.Rules.{rules}
use lib.Dec.{eqb}
use Rattle.laws.proofs.All.{all_stop, all_next, all_end}
use Rattle.clock.proofs.no_slots.Goals as goal

taken : (n : ℕ) → 0 < n → eqb n 0 ≡ false
taken n h = ne_eqb n 0 (λ e. let no : ⊥ = omega arith in absurd no)

free : (n : ℕ) → n ≤ 0 → eqb n 0 ≡ true
free n h = eq-eqb n 0 (omega arith)

pub loop-k-init : goal.loop-k-init
loop-k-init c = (search rules, refl)

pub returns-then-all-k-gt0 : goal.returns-then-all-k-gt0
returns-then-all-k-gt0 c =
    let slots = c.args.slots.now in
    sym (c.loop-k.invariant.1 ∙ all_stop (λ s. eqb s 0) slots c.loop-k.k 0 c.loop-k-test.true (taken _ c.if-all-k-gt0.true))

pub loop-k-preserved : goal.loop-k-preserved
loop-k-preserved c =
    let slots = c.args.slots.now in
    (search rules, c.loop-k.invariant.1 ∙ all_next (λ s. eqb s 0) slots c.loop-k.k 0 c.loop-k-test.true (free _ c.if-all-k-gt0.false))

pub returns : goal.returns
returns c =
    let slots = c.args.slots.now in
    sym (c.loop-k.invariant.1 ∙ all_end (λ s. eqb s 0) slots c.loop-k.k c.loop-k-test.false)
