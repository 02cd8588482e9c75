-- What a passed check says: no value is out of its range, and no relation fails, for any of the eight where it is tried for each.
-- By cases on what was found.
use mathlib.Core.Path.{◌≡◌, refl, ap}
use mathlib.Core.Logic.{⊎_elim}
use mathlib.Core.Bool.{Bool, true, false, false≢true}
use Prim.Native.Nat.{ℕ, zero, suc, ◌<◌}
use native.Mathlib.Omega.{arith}
use borrow.Author.Tests.{ltb-false, eqb-true}
use lib.Dec.{eqb, ltb, lit<}
use Rattle.laws.specs.Base.{first_not}
use Rattle.laws.proofs.Tests.{either}
use Rattle.laws.proofs.First.{first_holds, first_most}
use Rattle.answer.specs.Told.{Told, DONE, RANGE, RELATION, unless, succeeded}
use Rattle.answer.proofs.Told.{not_done}
use Rattle.settings.specs.declared.Settings.{Settings}
use Rattle.settings.specs.Names.{orbit_of, gap_of, rules_of, schedule_of, times_of}
use Rattle.settings.specs.Relations.{Fault, below, distinct, gap_inside, cycle_in_order, lows_fit, held, each, relation, related}
use Rattle.settings.specs.Check.{out_of_range, checked}

pub record Passed (s : Settings) : Type 0 where
  pub inside : out_of_range s ≡ 0
  pub related : (relation s).relation ≡ 0

pub related_done : (f : Fault) → related f ≡ DONE → f.relation ≡ 0
related_done f e =
    ⊎_elim
    (λ (t : eqb f.relation 0 ≡ true). eqb-true _ _ t)
    (λ (t : eqb f.relation 0 ≡ false). absurd (not_done (RELATION f.relation f.controller) (lit< tt) (rw t at e)))
    (either (eqb f.relation 0))

out_done : (n : ℕ) (later : Told) → unless RANGE n later ≡ DONE → (n ≡ 0) × (later ≡ DONE)
out_done zero later e = (refl, e)
out_done (suc n) later e = absurd (not_done (RANGE (suc n)) (lit< tt) e)

pub passed : (s : Settings) → checked s ≡ DONE → Passed s
unfolding checked
passed s e =
    let out = out_done (out_of_range s) (related (relation s)) e in
    record { inside = out.0; related = related_done (relation s) out.1 }

pub passes : (s : Settings) → Passed s → checked s ≡ DONE
unfolding checked
passes s p = rw (p.inside, p.related)

-- the check tells a success by its number
pub done_checks : (s : Settings) → succeeded (checked s) ≡ true → checked s ≡ DONE
unfolding checked
done_checks s = done (out_of_range s) (relation s)
  where
    done : (n : ℕ) (f : Fault) → succeeded (unless RANGE n (related f)) ≡ true → unless RANGE n (related f) ≡ DONE
    done (suc n) f e = absurd (false≢true e)
    done zero f e =
        ⊎_elim
        (λ (t : eqb f.relation 0 ≡ true). rw t)
        (λ (t : eqb f.relation 0 ≡ false). absurd (false≢true (rw t at e)))
        (either (eqb f.relation 0))

pub checks_done : (s : Settings) → checked s ≡ DONE → succeeded (checked s) ≡ true
checks_done s e = ap succeeded e

-- ---- each relation

held_none : (ok : Bool) (n : ℕ) (later : Fault) → 0 < n → (held ok n later).relation ≡ 0 → (ok ≡ true) × (later.relation ≡ 0)
held_none true n later some e = (refl, e)
held_none false n later some e = absurd (omega arith)

each_none : (holds : ℕ → Bool) (n : ℕ) (later : Fault) → 0 < n → (each holds n later).relation ≡ 0
    → ((k : ℕ) → k < 8 → holds k ≡ true) × (later.relation ≡ 0)
each_none holds n later some e =
    ⊎_elim
    (λ (t : ltb (first_not holds 8 0) 8 ≡ true). absurd (let z : n ≡ 0 = rw t at e in omega arith))
    (λ (t : ltb (first_not holds 8 0) 8 ≡ false).
    let all : first_not holds 8 0 ≡ 8 = omega (arith, ltb-false (first_not holds 8 0) 8 t, first_most holds 8 0) in
    (first_holds holds 8 all, rw t at e))
    (either (ltb (first_not holds 8 0) 8))

pub record Holding (s : Settings) : Type 0 where
  pub gap : gap_inside (gap_of s) (orbit_of s) ≡ true
  pub inside : (k : ℕ) → k < 8 → below (orbit_of s) (times_of s k) ≡ true
  pub apart : (k : ℕ) → k < 8 → distinct (times_of s k) ≡ true
  pub order : (k : ℕ) → k < 8 → cycle_in_order (schedule_of s k) ≡ true
  pub limits : lows_fit (rules_of s) ≡ true

pub holding : (s : Settings) → (relation s).relation ≡ 0 → Holding s
unfolding relation
holding s e =
    let one = held_none (gap_inside (gap_of s) (orbit_of s)) 1 _ (lit< tt) e in
    let two = each_none (λ k. below (orbit_of s) (times_of s k)) 2 _ (lit< tt) one.1 in
    let three = each_none (λ k. distinct (times_of s k)) 3 _ (lit< tt) two.1 in
    let four = each_none (λ k. cycle_in_order (schedule_of s k)) 4 _ (lit< tt) three.1 in
    let five = held_none (lows_fit (rules_of s)) 5 _ (lit< tt) four.1 in
    record { gap = one.0; inside = two.0; apart = three.0; order = four.0; limits = five.0 }
