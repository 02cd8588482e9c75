-- Settings with their low limits at 0 keep every other value, have as many, and still pass the check.
-- A value is the old one or 0 by its place; 0 is within each low limit's range, and no relation but the fifth looks at one.
use mathlib.Core.Path.{◌≡◌, refl, ap, ◌∙◌}
use mathlib.Core.Logic.{⊎_elim}
use mathlib.Core.Bool.{Bool, true, false, not}
use mathlib.Core.List.{List, [], ◌∷◌}
use Prim.Native.Nat.{ℕ, zero, suc, ◌+◌, ◌*◌, ◌≤◌, ◌<◌}
use native.Mathlib.Omega.{arith}
use borrow.Author.Tests.{le-leb, lt-ltb, ltb-true, eqb-true, eqb-false, ne_eqb}
use lib.Dec.{ltb, eqb, lit<}
use lib.ListN.{length, get_or, set, take, drop, length-set}
use lib.Seq.{get_or-set_other, drop-set-lt}
use Rattle.laws.specs.Base.{if, all_b, first_not}
use Rattle.laws.proofs.Bools.{both, if_yes}
use Rattle.laws.proofs.Tests.{either}
use Rattle.text.specs.declared.Range.{Range}
use Rattle.text.specs.Lines.{ranges_of, within, first_out}
use Rattle.keys.specs.Settings.{value_lines}
use Rattle.keys.specs.Support.Lines.{nowhere}
use Rattle.settings.specs.declared.Settings.{Settings}
use Rattle.settings.specs.Names.{after, orbit_of, gap_of, rules_of, times_at, schedule_of, times_of}
use Rattle.settings.specs.Relations.{Fault, below, distinct, gap_inside, cycle_in_order, lows_fit, fault, held, each, relation}
use Rattle.settings.specs.Check.{out_of_range}
use Rattle.settings.specs.Lows.{cleared, lows, lows_cleared}
use Rattle.settings.proofs.Passed.{Passed}

-- ---- values with 0 at some places

-- in a list of any length
zero_there : (l : List ℕ) (n : ℕ) → get_or (set l n 0) n 0 ≡ 0
zero_there [] zero = refl
zero_there [] (suc n) = refl
zero_there (x ∷ l) zero = refl
zero_there (x ∷ l) (suc n) = zero_there l n

abbrev pub outside : ℕ → List ℕ → Bool
outside n = all_b (λ p. not (eqb n p))

cleared_get : (ps vs : List ℕ) (n : ℕ) → get_or (cleared ps vs) n 0 ≡ if (outside n ps) (get_or vs n 0) 0
unfolding cleared all_b
cleared_get [] vs n = refl
cleared_get (p ∷ ps) vs n =
    ⊎_elim
    (λ (y : eqb n p ≡ true). rw (y, eqb-true n p y) (zero_there (cleared ps vs) p))
    (λ (y : eqb n p ≡ false). rw y (get_or-set_other (cleared ps vs) p n 0 0 (eqb-false n p y) ∙ cleared_get ps vs n))
    (either (eqb n p))

cleared_drop : (ps vs : List ℕ) (m : ℕ) → all_b (λ p. ltb p m) ps ≡ true → drop m (cleared ps vs) ≡ drop m vs
unfolding cleared all_b
cleared_drop [] vs m e = refl
cleared_drop (p ∷ ps) vs m e =
    let w = both (ltb p m) (all_b (λ p. ltb p m) ps) e in
    drop-set-lt m (cleared ps vs) p 0 (ltb-true p m w.0) ∙ cleared_drop ps vs m w.1

cleared_long : (ps vs : List ℕ) → length (cleared ps vs) ≡ length vs
unfolding cleared
cleared_long [] vs = refl
cleared_long (p ∷ ps) vs = length-set (cleared ps vs) p 0 ∙ cleared_long ps vs

set_in : (rs : List Range) (vs : List ℕ) (k p : ℕ) → 0 < k → within (get_or rs p nowhere) 0 ≡ true → first_out rs k vs ≡ 0 → first_out rs k (set vs p 0) ≡ 0
set_in [] vs k p some w e = refl
set_in (r ∷ rs) [] k p some w e = e
set_in (r ∷ rs) (v ∷ vs) k zero some w e = rw w (if_yes (within r v) (first_out rs (suc k) vs) k 0 e (λ z. omega arith)).1
set_in (r ∷ rs) (v ∷ vs) k (suc p) some w e =
    let f = if_yes (within r v) (first_out rs (suc k) vs) k 0 e (λ z. omega arith) in
    rw f.0 (set_in rs vs (suc k) p (omega arith) w f.1)

cleared_in : (rs : List Range) (k : ℕ) (ps vs : List ℕ) → 0 < k → all_b (λ p. within (get_or rs p nowhere) 0) ps ≡ true → first_out rs k vs ≡ 0
    → first_out rs k (cleared ps vs) ≡ 0
unfolding cleared all_b
cleared_in rs k [] vs some w e = e
cleared_in rs k (p ∷ ps) vs some w e =
    let f = both (within (get_or rs p nowhere) 0) (all_b (λ p. within (get_or rs p nowhere) 0) ps) w in
    set_in rs (cleared ps vs) k p some f.0 (cleared_in rs k ps vs some f.1 e)

-- ---- a later relation that fails where another did, or not at all

held_on : (ok : Bool) (n : ℕ) (x y : Fault) → (x.relation ≡ 0 → y.relation ≡ 0) → (held ok n x).relation ≡ 0 → (held ok n y).relation ≡ 0
held_on true n x y on e = on e
held_on false n x y on e = e

each_on : (holds : ℕ → Bool) (n : ℕ) (x y : Fault) → (x.relation ≡ 0 → y.relation ≡ 0) → (each holds n x).relation ≡ 0 → (each holds n y).relation ≡ 0
each_on holds n x y on e = go (ltb (first_not holds 8 0) 8) e
  where
    go : (b : Bool) → (if b (fault n (first_not holds 8 0)) x).relation ≡ 0 → (if b (fault n (first_not holds 8 0)) y).relation ≡ 0
    go true e = e
    go false e = on e

-- relations 1 to 4 by their tests, with what follows them
abbrev four_of : (gap : Bool) (inside apart order : ℕ → Bool) → Fault → Fault
four_of gap inside apart order last = held gap 1 (each inside 2 (each apart 3 (each order 4 last)))

four_on : (gap : Bool) (inside apart order : ℕ → Bool) (x y : Fault) → (x.relation ≡ 0 → y.relation ≡ 0)
    → (four_of gap inside apart order x).relation ≡ 0 → (four_of gap inside apart order y).relation ≡ 0
four_on gap inside apart order x y on =
    held_on gap 1 (each inside 2 (each apart 3 (each order 4 x))) (each inside 2 (each apart 3 (each order 4 y)))
    (each_on inside 2 (each apart 3 (each order 4 x)) (each apart 3 (each order 4 y))
    (each_on apart 3 (each order 4 x) (each order 4 y) (each_on order 4 x y on)))

-- ---- the settings

zero_fits : all_b (λ p. within (get_or (ranges_of value_lines) p nowhere) 0) lows ≡ true
unfolding value_lines all_b
zero_fits = refl

module _ (s : Settings) where
  abbrev low : Settings
  low = lows_cleared s

  -- at a numeral this computes to the old value, or to 0
  pub low_at : (n : ℕ) → after low n ≡ if (outside n lows) (after s n) 0
  unfolding lows_cleared
  low_at n = cleared_get lows s.values n

  pub low_later : (n : ℕ) → 13 ≤ n → after low n ≡ after s n
  unfolding all_b
  low_later n h = low_at n ∙ rw (ne_eqb n 12 (λ e. omega arith), ne_eqb n 9 (λ e. omega arith), ne_eqb n 6 (λ e. omega arith))

  pub lows_long : length low.values ≡ length s.values
  unfolding lows_cleared
  lows_long = cleared_long lows s.values

  times : (k : ℕ) → times_of low k ≡ times_of s k
  unfolding lows_cleared all_b
  times k =
      let from : ℕ = 27 + 11 * k in
      ap (take 11) (cleared_drop lows s.values from (rw (lt-ltb 12 from (omega arith), lt-ltb 9 from (omega arith), lt-ltb 6 from (omega arith))))

  order : (k : ℕ) → cycle_in_order (schedule_of low k) ≡ cycle_in_order (schedule_of s k)
  order k =
      rw (low_later (times_at k + 9) (omega arith), low_later (times_at k + 1) (omega arith), low_later (times_at k + 10) (omega arith))

  fits : lows_fit (rules_of low) ≡ true
  unfolding all_b
  fits = rw (low_at 6, low_at 9, low_at 12, le-leb 0 (after low 5) (omega arith), le-leb 0 (after low 8) (omega arith), le-leb 0 (after low 11) (omega arith))

  relation_low : relation low
      ≡ four_of (gap_inside (gap_of s) (orbit_of s)) (λ k. below (orbit_of s) (times_of s k)) (λ k. distinct (times_of s k)) (λ k. cycle_in_order (schedule_of s k)) (fault 0 0)
  unfolding relation all_b
  relation_low = λ i.
      four_of (gap_inside (record { low = low_at 1 i; high = low_at 2 i }) (low_at 0 i)) (λ k. below (low_at 0 i) (times k i)) (λ k. distinct (times k i)) (λ k. order k i)
      (held (fits i) 5 (fault 0 0))

  pub lows_pass : Passed s → Passed low
  unfolding out_of_range relation lows_cleared
  lows_pass p =
      record {
        inside = cleared_in (ranges_of value_lines) 2 lows s.values (lit< tt) zero_fits p.inside;
        related = ap (λ (f : Fault). f.relation) relation_low
            ∙ four_on (gap_inside (gap_of s) (orbit_of s)) (λ k. below (orbit_of s) (times_of s k)) (λ k. distinct (times_of s k)) (λ k. cycle_in_order (schedule_of s k))
            (held (lows_fit (rules_of s)) 5 (fault 0 0)) (fault 0 0) (λ e. refl) p.related;
      }
