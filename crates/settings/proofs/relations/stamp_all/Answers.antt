-- `settings::relations::stamp_all` meets its contract: the table has the stamp at those numbers that stand after place i.
-- A turn is the law of one number more; one with the stamp already stands twice.
use mathlib.Core.Path.{◌≡◌, sym, ap, ◌∙◌}
use mathlib.Core.Bool.{false, false≢true}
use mathlib.Core.List.{List, ◌∷◌}
use Prim.Native.Nat.{ℕ, ◌+◌, ◌-◌, ◌≤◌, ◌<◌}
use native.Mathlib.Numerals.{add-one}
use native.Mathlib.Omega.{arith}
use lib.ListN.{length, get_or, drop, drop_of_length-le, length-set}
use lib.Seq.{drop-cons}
use Rattle.settings.specs.Relations.{distinct}
use Rattle.settings.proofs.Stamps.{stamped_none, stamp_twice, stamp_next, not_distinct}
use Rattle.settings.proofs.relations.stamp_all.Goals as goal

module _ (times : List ℕ) (i n : ℕ) (next : n ≡ i + 1) (inside : i < length times) where
  here : drop i times ≡ get_or times i 0 ∷ drop n times
  here = rw (next, add-one) (drop-cons times i 0 inside)

  from_here : distinct (get_or times i 0 ∷ drop n times) ≡ false → distinct (drop i times) ≡ false
  from_here e = ap distinct here ∙ e

pub loop-i-init : goal.loop-i-init
loop-i-init c =
    let a = c.args in
    let all : length a.times.now ≤ length a.times.now = omega arith in
    (c.requires.0, rw (drop_of_length-le a.times.now all) (stamped_none a.stamp a.seen.now c.requires.2))

pub overflow_cast-x : goal.overflow_cast-x
overflow_cast-x c = omega (arith, c.requires.1 (c.loop-i.i - 1))

pub bounds-seen-x : goal.bounds-seen-x
bounds-seen-x c = omega (arith, c.requires.1 (c.loop-i.i - 1))

pub returns-then-seen-x : goal.returns-then-seen-x
returns-then-seen-x c =
    let i : ℕ = c.loop-i.i - 1 in
    let e = stamp_twice c.args.stamp c.loop-i.seen _ _ (omega (arith, c.requires.1 i)) c.loop-i.invariant.1 c.if-seen-x.true in
    (sym (not_distinct c.args.times.now i (from_here c.args.times.now i c.loop-i.i (omega arith) (omega arith) e)), (λ z. absurd (false≢true z)))

pub bounds-seen-x-in-loop-i : goal.bounds-seen-x-in-loop-i
bounds-seen-x-in-loop-i c = omega (arith, c.requires.1 (c.loop-i.i - 1))

pub loop-i-preserved : goal.loop-i-preserved
loop-i-preserved c =
    let i : ℕ = c.loop-i.i - 1 in
    let next = stamp_next c.args.stamp c.loop-i.seen _ _ (omega (arith, c.requires.1 i)) c.loop-i.invariant.1 c.if-seen-x.false in
    (simp length-set c.loop-i.invariant.0, rw (here c.args.times.now i c.loop-i.i (omega arith) (omega arith)) next)

pub returns : goal.returns
returns c =
    let i : c.loop-i.i ≡ 0 = omega arith in
    let s = rw i at c.loop-i.invariant.1 in
    (sym s.apart, (λ z. s.lower))
