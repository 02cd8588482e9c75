-- The settings that an older text gives are seen as the desk of its edition saw the text's own numbers.
-- Values by name are computed from the places of their lines; a controller's numbers and the partitions by the lines that give them.
use mathlib.Core.Path.{◌≡◌, ap, sym, fun_ext, ◌∙◌}
use mathlib.Core.Logic.{⊎_elim}
use mathlib.Core.List.{List}
use Prim.Native.Nat.{ℕ, ◌+◌, ◌-◌, ◌*◌, ◌%◌, ◌≤◌, ◌<◌}
use native.Mathlib.Nat.{zero-add, add-zero}
use native.Mathlib.Omega.{arith}
use borrow.Author.Tests.{lt-ltb, le-ltb}
use lib.Dec.{eqb, lit<, lit≤}
use lib.ListN.{length, get_or, get_or-eq_default}
use Rattle.laws.specs.Base.{tabulate}
use Rattle.laws.proofs.Over.{length_tabulate, get_d_tabulate}
use Rattle.laws.proofs.Tests.{lt_or_ge}
use Rattle.settings.specs.declared.Settings.{Settings}
use Rattle.settings.specs.declared.names.Schedule.{Schedule}
use Rattle.settings.specs.Names.{after, times_at, schedule_of, part_of}
use Rattle.status.specs.Merge.{classes_by}
use Rattle.throttle.specs.Rules.{refused_by}
use Rattle.editions.specs.Read.{sources, laid_out, warn_blocks, settled}
use Rattle.editions.specs.Support.Tables.{source_of}
use Rattle.editions.proofs.Known.{Known, known}
use Rattle.kit.specs.View.{View, view_of}
use Rattle.views.specs.Older.{line, gap_on, rules_on, ignores_on, waits_on, schedule_on, first_view, second_view}
use Rattle.views.proofs.Lowered.{blocking, settled_view}

-- an older desk's view by the rules alone
abbrev plain_view : (on : ℕ → ℕ) (schedule : ℕ → Schedule) (part : ℕ → ℕ) → View
plain_view on schedule part = record {
  orbit = on 1;
  slots = tabulate (λ k. on (21 + k)) 0 8;
  waits = waits_on on;
  plan = λ k. record { at = schedule k; waits = waits_on on; gap = gap_on on };
  refused = refused_by (rules_on on);
  classes = classes_by part (ignores_on on);
}

scheduled : (s : Settings) (k : ℕ) (at : ℕ → ℕ) → ((j : ℕ) → j < 11 → after s (times_at k + j) ≡ at j) → schedule_of s k ≡ schedule_on at
scheduled s k at number = λ i. record {
  bc0 = (ap (after s) (sym (add-zero (times_at k))) ∙ number 0 (lit< tt)) i;
  te = number 1 (lit< tt) i;
  resync = number 2 (lit< tt) i;
  hard = number 3 (lit< tt) i;
  ec0 = number 4 (lit< tt) i;
  oc0 = number 5 (lit< tt) i;
  start = number 6 (lit< tt) i;
  stop = number 7 (lit< tt) i;
  gap = number 8 (lit< tt) i;
  wte = number 9 (lit< tt) i;
  cal = number 10 (lit< tt) i;
}

module _ (e : ℕ) (k : Known e) (ns : List ℕ) where
  -- value n is the number on the line that gives it
  value_at : (n : ℕ) → n < 147 → after (laid_out e ns) n ≡ get_or ns (source_of e n) 0
  value_at n h =
      ap (λ (vs : List ℕ). get_or vs n 0) (k.laid ns)
      ∙ get_d_tabulate (λ n. get_or ns (source_of e n) 0) 0 147 n 0 h
      ∙ rw zero-add

  -- the partitions stand on the last lines; past them both read 0
  parts_from : (first : ℕ) → 0 < first → length ns ≡ first + 31 → ((p : ℕ) → p < 32 → source_of e (115 + p) ≡ first + p - 1)
      → (p : ℕ) → part_of (laid_out e ns) p ≡ line ns (first + p)
  parts_from first some long from p =
      ⊎_elim
      (λ (h : p < 32). value_at (115 + p) (omega arith) ∙ ap (λ (n : ℕ). get_or ns n 0) (from p h))
      (λ (h : 32 ≤ p).
      let values = (laid_out e ns).values in
      let all : length values ≡ 147 = ap length (k.laid ns) ∙ length_tabulate (λ n. get_or ns (source_of e n) 0) 0 147 in
      let past : length values ≤ 115 + p = omega arith in
      let beyond : length ns ≤ first + p - 1 = omega arith in
      get_or-eq_default values 0 past ∙ sym (get_or-eq_default ns 0 beyond))
      (lt_or_ge p 32)

-- ---- the first edition: "its schedule given to all eight"

module _ (ns : List ℕ) (long : length ns ≡ 71) where
  first_known : Known 1
  first_known = known 1 (lit< tt) (lit≤ tt)

  first_time : (k j : ℕ) → j < 11 → after (laid_out 1 ns) (times_at k + j) ≡ line ns (29 + j)
  first_time k j h =
      let n : ℕ = times_at k + j in
      let e : 28 + (n - 27) % 11 ≡ 29 + j - 1 = omega arith in
      value_at 1 first_known ns n (omega arith)
      ∙ rw (le-ltb n 13 (omega arith), le-ltb n 27 (omega arith), lt-ltb n 115 (omega arith), e)

  first_part : (p : ℕ) → p < 32 → source_of 1 (115 + p) ≡ 40 + p - 1
  first_part p h =
      let e : 115 + p - 76 ≡ 40 + p - 1 = omega arith in
      rw (le-ltb (115 + p) 13 (omega arith), le-ltb (115 + p) 27 (omega arith), le-ltb (115 + p) 115 (omega arith)) e

  first_laid : view_of (laid_out 1 ns) ≡ plain_view (line ns) (λ k. schedule_on (λ j. line ns (29 + j))) (λ p. line ns (40 + p))
  unfolding laid_out sources tabulate
  first_laid = λ i.
      plain_view (line ns) (λ k. scheduled (laid_out 1 ns) k (λ j. line ns (29 + j)) (first_time k) i) (fun_ext (parts_from 1 first_known ns 40 (lit< tt) long first_part) i)

  pub first_view_lem : view_of (settled 1 ns) ≡ first_view ns
  unfolding settled warn_blocks first_view tabulate
  first_view_lem = settled_view (laid_out 1 ns) (eqb (line ns 14) 1) ∙ ap (blocking (eqb (line ns 14) 1)) first_laid

-- ---- the second: the same lines one further on, and each controller's own schedule

module _ (ns : List ℕ) (long : length ns ≡ 149) where
  second_known : Known 2
  second_known = known 2 (lit< tt) (lit≤ tt)

  abbrev on : ℕ → ℕ
  on n = line ns (1 + n)

  second_time : (k j : ℕ) → j < 11 → after (laid_out 2 ns) (times_at k + j) ≡ line ns (30 + 11 * (k % 8) + j)
  second_time k j h =
      let n : ℕ = times_at k + j in
      let e : n + 2 ≡ 30 + 11 * (k % 8) + j - 1 = omega arith in
      value_at 2 second_known ns n (omega arith) ∙ rw (le-ltb n 13 (omega arith), e)

  second_part : (p : ℕ) → p < 32 → source_of 2 (115 + p) ≡ 118 + p - 1
  second_part p h =
      let e : 115 + p + 2 ≡ 118 + p - 1 = omega arith in
      rw (le-ltb (115 + p) 13 (omega arith)) e

  second_laid : view_of (laid_out 2 ns) ≡ plain_view on (λ k. schedule_on (λ j. line ns (30 + 11 * (k % 8) + j))) (λ p. line ns (118 + p))
  unfolding laid_out sources tabulate
  second_laid = λ i.
      plain_view on (λ k. scheduled (laid_out 2 ns) k (λ j. line ns (30 + 11 * (k % 8) + j)) (second_time k) i)
      (fun_ext (parts_from 2 second_known ns 118 (lit< tt) long second_part) i)

  pub second_view_lem : view_of (settled 2 ns) ≡ second_view ns
  unfolding settled warn_blocks second_view tabulate
  second_view_lem = settled_view (laid_out 2 ns) (eqb (on 14) 1) ∙ ap (blocking (eqb (on 14) 1)) second_laid
