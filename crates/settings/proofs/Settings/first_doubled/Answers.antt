-- `settings::Settings::first_doubled` meets its contract: a loop that stops at the first controller with a number twice.
-- The laws of `first_not`; before controller k no stamp is above k, so none has its own, which is one more.
use mathlib.Core.Path.{refl, sym, ◌∙◌}
use mathlib.Core.Logic.{⊎_elim}
use Prim.Native.Nat.{ℕ, ◌≤◌, ◌<◌}
use native.Mathlib.Omega.{arith}
use lib.ListN.{length, replicate, length-replicate, get_or-replicate, get_or-eq_default}
use Rattle.laws.proofs.Tests.{lt_or_ge}
use Rattle.laws.proofs.First.{first_start, first_next}
use Rattle.settings.proofs.Found.{found_here, found_none}
use Rattle.settings.specs.Support.Stamps.{places, Lower}
use Rattle.settings.proofs.Bounds.{times_fit}
use Rattle.settings.proofs.Settings.first_doubled.Goals as goal

none_stamped : Lower 1 (replicate places 0)
none_stamped x =
    ⊎_elim
    (λ (h : x < places). rw (get_or-replicate {A = ℕ} places x 0 0 h) (omega arith))
    (λ (h : places ≤ x). let past : length (replicate {A = ℕ} places 0) ≤ x = rw length-replicate h in rw (get_or-eq_default (replicate {A = ℕ} places 0) 0 past) (omega arith))
    (lt_or_ge x places)

pub loop-k-init : goal.loop-k-init
loop-k-init c = (refl, none_stamped, first_start _ _)

pub stamp_all-requires : goal.stamp_all-requires
stamp_all-requires c =
    let fits = times_fit c.args.self.now c.requires c.loop-k.k (omega arith) in
    (c.loop-k.invariant.0, rw c.times.ensures fits, c.loop-k.invariant.1)

pub returns-then-not-stamp_all : goal.returns-then-not-stamp_all
returns-then-not-stamp_all c =
    found_here _ _ c.loop-k.invariant.2 (omega arith) (rw c.times.ensures at (sym c.stamp_all.ensures.0) ∙ c.if-not-stamp_all.true)

pub loop-k-preserved : goal.loop-k-preserved
loop-k-preserved c =
    let yes = c.if-not-stamp_all.false in (
      c.stamp_all.auto.seen ∙ c.loop-k.invariant.0,
      c.stamp_all.ensures.1 yes,
      first_next _ 8 _ (omega arith) (rw c.times.ensures at (sym c.stamp_all.ensures.0) ∙ yes) c.loop-k.invariant.2,
    )

pub returns : goal.returns
returns c = found_none _ _ c.loop-k.invariant.2 (omega arith)
