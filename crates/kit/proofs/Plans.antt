-- The schedules that are laid out as one list give each controller its own plan.
-- Number j of controller k stands at place 11 k + j of the list, and 27 places further on in the values.
use mathlib.Core.Path.{◌≡◌, ap, sym, ◌∙◌}
use Prim.Native.Nat.{ℕ, ◌+◌, ◌*◌, ◌%◌, ◌<◌}
use native.Mathlib.Nat.{add-zero, zero-add}
use native.Mathlib.Omega.{arith}
use lib.Dec.{lit<}
use lib.ListN.{get_or}
use Rattle.laws.proofs.Over.{get_d_tabulate}
use Rattle.settings.specs.declared.Settings.{Settings}
use Rattle.settings.specs.Names.{after, times_at, gap_of, waits_of}
use Rattle.ptc.specs.Support.Times.{plan_from}
use Rattle.kit.specs.Kit.{plan_of}
use Rattle.kit.specs.Support.Laid.{times_for}

module _ (s : Settings) (k : ℕ) where
  number : (j : ℕ) → j < 11 → get_or (times_for s) (11 * (k % 8) + j) 0 ≡ after s (times_at k + j)
  number j h =
      let here : 27 + (11 * (k % 8) + j) ≡ times_at k + j = omega arith in
      get_d_tabulate (λ n. after s (27 + n)) 0 88 (11 * (k % 8) + j) 0 (omega arith) ∙ rw (zero-add, here)

  first_number : get_or (times_for s) (11 * (k % 8)) 0 ≡ after s (times_at k)
  first_number = ap (λ (n : ℕ). get_or (times_for s) n 0) (sym (add-zero (11 * (k % 8)))) ∙ number 0 (lit< tt) ∙ ap (after s) (add-zero (times_at k))

  pub plan_from_lem : plan_from (times_for s) (waits_of s) (gap_of s) k ≡ plan_of s k
  plan_from_lem = λ i. record {
    at = record {
      bc0 = first_number i;
      te = number 1 (lit< tt) i;
      resync = number 2 (lit< tt) i;
      hard = number 3 (lit< tt) i;
      ec0 = number 4 (lit< tt) i;
      oc0 = number 5 (lit< tt) i;
      start = number 6 (lit< tt) i;
      stop = number 7 (lit< tt) i;
      gap = number 8 (lit< tt) i;
      wte = number 9 (lit< tt) i;
      cal = number 10 (lit< tt) i;
    };
    waits = waits_of s;
    gap = gap_of s;
  }
