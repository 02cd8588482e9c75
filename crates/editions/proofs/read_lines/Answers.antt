-- `editions::read_lines` meets its contract: the lines that are left decide as the whole text does.
-- Each turn and each way out is one law of the reading loop; the line's answer gives the number and the next place.
use mathlib.Core.Path.{◌≡◌, refl, ◌∙◌}
use Prim.Native.Nat.{◌+◌}
use native.Mathlib.Omega.{arith}
use borrow.Author.Rules.{rules}
use lib.ListN.{length-set}
use Rattle.std.specs.Prelude.{Result, Ok, Err, MatchResult}
use Rattle.std.specs.Result.{IsErrAnd}
use Rattle.std.proofs.lemmas.Result.{err_from_is_err_and}
use Rattle.answer.specs.Told.{told_refusal}
use Rattle.editions.specs.Support.Got.{fault_at}
use Rattle.editions.proofs.Reading.{fault_is, value_is, tail_is, end_is}
use Rattle.editions.proofs.read_lines.Goals as goal

-- what came out of `map_err`, and what went in
module _ {A : Type 0} {E : Type 0} {D : Type 0} (Q : E → D → Type 0) (m : Result A D) where
  mapped_ok : (r : Result A E) → MatchResult r (λ x. m ≡ Ok x) (λ e. IsErrAnd m (Q e)) → (x : A) → m ≡ Ok x → r ≡ Ok x
  mapped_ok (Ok y) is x e = cc
  mapped_ok (Err y) is x e = absurd (rw e at is)

  mapped_err : (r : Result A E) → MatchResult r (λ x. m ≡ Ok x) (λ e. IsErrAnd m (Q e)) → (d : D) → m ≡ Err d → (e : E) × (r ≡ Err e) × Q e d
  mapped_err (Ok y) is d e = cc
  mapped_err (Err y) is d e = (y, refl, rw e at is)

pub loop-n-init : goal.loop-n-init
loop-n-init c = (omega arith, record { long = refl; left = refl })

pub returns-in_err-numbers : goal.returns-in_err-numbers
returns-in_err-numbers c =
    let p = err_from_is_err_and c.from_residual.result c.from_residual.ensures.1 in
    let w = mapped_err _ c.map_err.result c.read_line-line.result c.map_err.ensures.cases _ c.in_err-numbers.was in
    let says : told_refusal c.in_err-numbers.field-0.0 ≡ fault_at (c.loop-n.n-counter + 1) w.0 = search rules in
    let more = rw c.count-lines.ensures.0 at c.loop-n-test.true in
    rw (p.1, p.2) (says ∙ fault_is c.loop-n.invariant.1 _ _ more c.place-place.ensures.0 c.range.ensures.0 w.0 (rw w.1 at c.read_line-line.ensures))

pub loop-n-preserved : goal.loop-n-preserved
loop-n-preserved c =
    let b = c.loop-n.invariant.1 in
    let w = mapped_ok _ c.map_err.result c.read_line-line.result c.map_err.ensures.cases _ c.in_ok-numbers.was in
    let is = rw w at c.read_line-line.ensures in
    let more = rw c.count-lines.ensures.0 at c.loop-n-test.true in
    (is.inside, record { long = simp length-set b.long; left = value_is b _ _ more c.place-place.ensures.0 c.range.ensures.0 _ _ is })

pub returns-then-has_tail : goal.returns-then-has_tail
returns-then-has_tail c =
    rw c.count-lines.ensures.0 (tail_is c.loop-n.invariant.1 (omega (arith, c.count-lines.ensures.0)) c.if-has_tail.true)

pub returns : goal.returns
returns c = end_is c.loop-n.invariant.1 (omega (arith, c.count-lines.ensures.0)) c.if-has_tail.false
