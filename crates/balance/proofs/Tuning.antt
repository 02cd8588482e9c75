-- A request that was lost to rule r met no other cause, so r is the first rule that fails over the rows of the crossings before.
-- The laws of the first failing rule of a list then say what it is of rule r, and of those before it.
use mathlib.Core.Path.{◌≡◌, refl, sym}
use mathlib.Core.Bool.{Bool, true, false, ◌&&◌}
use mathlib.Core.List.{List}
use Prim.Native.Nat.{ℕ, zero, suc, ◌+◌, ◌-◌, ◌≤◌, ◌<◌}
use native.Mathlib.Nat.{add-zero}
use native.Mathlib.Omega.{arith}
use borrow.Author.Tests.{eqb-true, leb-true, leb-false}
use lib.Dec.{eqb}
use Rattle.laws.specs.Base.{if, one}
use Rattle.laws.proofs.Bools.{both}
use Rattle.settings.specs.declared.Settings.{Settings}
use Rattle.settings.specs.declared.names.Rule.{Rule}
use Rattle.settings.specs.Names.{gap_of, rules_of}
use Rattle.throttle.specs.Rules.{rules_list, spacing_rule}
use Rattle.throttle.specs.Windows.{allows_after}
use Rattle.throttle.proofs.Refuser.{refuser_most, refuser_before, refuser_fails}
use Rattle.counts.specs.declared.Lost.{Lost}
use Rattle.counts.specs.Counts.{STATE, SLOT, GAP, CAL, in_gap, ruled, ruled_to, lost_to as lost_under}
use Rattle.counts.proofs.Balance.{ruled_names}
use Rattle.daybook.specs.Row.{row_at, warns_in}
use Rattle.windows.specs.Windows.{crossing_rows, triggers}
use Rattle.balance.specs.Reading.{Look, look_at, cause, counted, past_crossing, reading_of}
use Rattle.balance.specs.Exact.{busy_in}
use Rattle.balance.specs.Tuning.{line_of, lost_to, would_hold, limit_at, Tunings}

-- ---- one request

-- a cause above the other four is a rule's
by_rule : (runs own gap busy : Bool) (rule r : ℕ) → 1 ≤ r → if runs (if own (if gap GAP (if busy CAL (ruled rule))) SLOT) STATE ≡ CAL + r → ruled rule ≡ CAL + r
by_rule false own gap busy rule r some e = absurd (omega arith)
by_rule true false gap busy rule r some e = absurd (omega arith)
by_rule true true true busy rule r some e = absurd (omega arith)
by_rule true true false true rule r some e = absurd (omega arith)
by_rule true true false false rule r some e = e

-- counted under rule r where its cause is rule r
line_next : (fate : ℕ) (l : Lost) (r : ℕ) → 1 ≤ r → r ≤ 4 → line_of r (lost_under fate l).rules ≡ line_of r l.rules + one (eqb fate (CAL + r))
unfolding lost_under ruled_to
line_next fate l zero some few = absurd (omega arith)
line_next fate l (suc zero) some few = refl
line_next fate l (suc (suc zero)) some few = refl
line_next fate l (suc (suc (suc zero))) some few = refl
line_next fate l (suc (suc (suc (suc zero)))) some few = refl
line_next fate l (suc (suc (suc (suc (suc r))))) some few = absurd (omega arith)

line_asked : (asked : Bool) (fate : ℕ) (l : Lost) (r : ℕ) → 1 ≤ r → r ≤ 4
    → line_of r (if asked (lost_under fate l) l).rules ≡ line_of r l.rules + one (asked && eqb fate (CAL + r))
line_asked true fate l r some few = line_next fate l r some few
line_asked false fate l r some few = sym (add-zero (line_of r l.rules))

-- ---- a crossing of a log

module _ (s : Settings) (log rows : List ℕ) (k i : ℕ) (r : ℕ) (some : 1 ≤ r) (few : r ≤ 4) where
  abbrev test : Rule → Bool
  test = allows_after (triggers (crossing_rows log rows i)) (warns_in (row_at rows i) k)

  -- rule r is the first that fails
  first : lost_to s log rows k i r ≡ true → (look_at s log rows k i).rule ≡ 1 + (r - 1)
  unfolding cause look_at
  first e =
      let l : Look = look_at s log rows k i in
      let why = eqb-true _ _ (both l.asked _ e).1 in
      let most = refuser_most test 1 (rules_list (rules_of s)) (omega arith) in
      let is = ruled_names l.rule r (omega (arith, most)) some
      (by_rule l.runs l.own (in_gap (gap_of s) l.number) (busy_in s log rows k i) l.rule r some why) in
      omega (arith, is)

  fails : lost_to s log rows k i r ≡ true → limit_at s log rows k i r < would_hold s log rows k i r
  unfolding look_at
  fails e =
      let no = refuser_fails test 1 (rules_list (rules_of s)) (spacing_rule (rules_of s)) (r - 1) (omega arith) (first e) in
      omega (arith, leb-false (would_hold s log rows k i r) (limit_at s log rows k i r) no)

  passes : lost_to s log rows k i r ≡ true → (j : ℕ) → 1 ≤ j → j < r → would_hold s log rows k i j ≤ limit_at s log rows k i j
  unfolding look_at
  passes e j one_up before =
      leb-true _ _ (refuser_before test 1 (rules_list (rules_of s)) (spacing_rule (rules_of s)) (j - 1) (omega (arith, first e)))

pub tuning : Tunings
unfolding reading_of past_crossing counted
tuning s log rows k i c r some few =
    record {
      counted = rw c.kind (line_asked (look_at s log rows k i).asked _ (reading_of s log rows k i).counts.lost r some few);
      exceeded = fails s log rows k i r some few;
      within = passes s log rows k i r some few;
    }
