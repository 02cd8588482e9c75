-- The records of a log as a list, as the code has them: the first ill-formed one there and the crossings there are those of the log.
-- By induction on the number of records.
use mathlib.Core.Path.{◌≡◌, refl, ap, sym, ◌∙◌}
use mathlib.Core.Logic.{⊎_elim}
use mathlib.Core.Bool.{Bool, true, false, not, cond}
use mathlib.Core.List.{List, [], ◌∷◌}
use Prim.Native.Nat.{ℕ, zero, suc, ◌+◌, ◌*◌, ◌≤◌, ◌<◌}
use native.Mathlib.Nat.{add-zero, zero-add}
use native.Mathlib.Omega.{arith}
use borrow.Author.Tests.{ltb-true, ltb-false, lt-ltb, le-ltb, lt-leb, le-leb}
use lib.Dec.{eqb, leb, ltb}
use lib.ListN.{length, get_or, take, drop}
use lib.Seq.{drop-drop}
use Rattle.std.specs.List.{list_any, position_or_len, position, count_by}
use Rattle.std.specs.Simd.{first_chunks}
use Rattle.std.proofs.Common.{Option, Some, None}
use Rattle.std.proofs.lemmas.Bool.Decides.{nat_tests}
use Rattle.std.proofs.lemmas.List.Sums.{sum_by-cons}
use Rattle.laws.specs.Base.{if, one, all_b, first_not}
use Rattle.laws.proofs.Tests.{lt_or_ge}
use Rattle.laws.proofs.First.{first_most}
use Rattle.records.specs.Records.{rec_at, is_crossing, well_crossing, well_command, well, first_ill, crossings_in}
use Rattle.records.specs.Refusal.{records_in}
use Rattle.records.proofs.Laws.{crossings_cut}

-- ---- one record

pub any_listed : (l : List ℕ) → list_any (leb 16) l ≡ not (all_b (λ b. ltb b 16) l)
unfolding all_b
any_listed [] = refl
any_listed (b ∷ l) =
    ⊎_elim
    (λ (h : b < 16). rw (lt-ltb b 16 h, lt-leb 16 b h, any_listed l))
    (λ (h : 16 ≤ b). rw (le-ltb b 16 h, le-leb 16 b h))
    (lt_or_ge b 16)

-- past the first three bytes of a command the reserved ones decide
pub reserved_decide : (rec : List ℕ) → get_or rec 0 0 ≡ 1 → get_or rec 1 0 ≤ 7 → 1 ≤ get_or rec 2 0 → get_or rec 2 0 ≤ 6 → all_b (λ b. eqb b 0) (drop 3 rec) ≡ well rec
unfolding well well_crossing well_command
reserved_decide rec kind ptc low high = grind (arith, nat_tests)

-- ---- the first n records

abbrev is_ill : List ℕ → Bool
is_ill rec = not (well rec)

length-first_chunks : (w n : ℕ) (log : List ℕ) → length (first_chunks w n log) ≡ n
length-first_chunks w zero log = refl
length-first_chunks w (suc n) log = ap suc (length-first_chunks w n (drop w log))

-- a turn of either search: it ends here, or goes on
turn : (t : Bool) (k found x : ℕ) → found ≡ suc k + x → if t found k ≡ k + cond (not (not t)) (1 + x) 0
turn true k found x e = omega (arith, e)
turn false k found x e = sym (add-zero k)

ill_from : (n k : ℕ) (log : List ℕ) → first_not (λ i. well (rec_at log i)) n k ≡ k + position_or_len is_ill (first_chunks 24 n (drop (24 * k) log))
unfolding first_not
ill_from zero k log = sym (add-zero k)
ill_from (suc n) k log =
    let next : 24 * k + 24 ≡ 24 * suc k = omega arith in
    rw (drop-drop, next) (turn (well (rec_at log k)) k _ _ (ill_from n (suc k) log))

no_crossing : (log : List ℕ) → 0 ≡ crossings_in 0 log
unfolding crossings_in
no_crossing log = refl

one_crossing : (log : List ℕ) → crossings_in 1 log ≡ cond (is_crossing (take 24 log)) 1 0
unfolding crossings_in
one_crossing log = zero-add _ ∙ counts (is_crossing (take 24 log))
  where
    counts : (t : Bool) → one t ≡ cond t 1 0
    counts true = refl
    counts false = refl

crossings_from : (n : ℕ) (log : List ℕ) → count_by is_crossing (first_chunks 24 n log) ≡ crossings_in n log
crossings_from zero log = no_crossing log
crossings_from (suc n) log =
    let next : suc n ≡ 1 + n = omega arith in
    sum_by-cons (λ rec. cond (is_crossing rec) 1 0) (take 24 log) (first_chunks 24 n (drop 24 log))
    ∙ rw (next, crossings_cut log 1 n, crossings_from n (drop 24 log), one_crossing log)

-- what `position` answers, by where the first stands
some_at : (t : Bool) (at i : ℕ) → cond t (Some at) None ≡ Some i → (t ≡ true) × (at ≡ i)
some_at true at i e = (refl, cc)
some_at false at i e = cc

none_at : (t : Bool) (at : ℕ) → cond t (Some at) None ≡ None → t ≡ false
none_at true at e = cc
none_at false at e = refl

-- ---- the list of a log's records

module _ (log : List ℕ) (recs : List (List ℕ)) (are : recs ≡ first_chunks 24 (records_in log) log) where
  place : first_ill (records_in log) log ≡ position_or_len is_ill recs
  place = ill_from (records_in log) 0 log ∙ zero-add _ ∙ ap (position_or_len is_ill) (sym are)

  long : length recs ≡ records_in log
  long = ap length are ∙ length-first_chunks 24 (records_in log) log

  module _ (r : Option ℕ) (found : r ≡ position is_ill recs) where
    pub some_ill : (i : ℕ) → r ≡ Some i → (first_ill (records_in log) log ≡ i) × (i < records_in log)
    some_ill i e =
        let at = some_at (ltb (position_or_len is_ill recs) (length recs)) (position_or_len is_ill recs) i (sym found ∙ e) in
        (place ∙ at.1, omega (arith, at.1, ltb-true _ _ at.0, long))

    pub none_ill : r ≡ None → first_ill (records_in log) log ≡ records_in log
    none_ill e =
        let past = ltb-false _ _ (none_at (ltb (position_or_len is_ill recs) (length recs)) (position_or_len is_ill recs) (sym found ∙ e)) in
        omega (arith, past, place, long, first_most (λ i. well (rec_at log i)) (records_in log) 0)

  pub crossings_listed : count_by is_crossing recs ≡ crossings_in (records_in log) log
  crossings_listed = ap (count_by is_crossing) are ∙ crossings_from (records_in log) log
