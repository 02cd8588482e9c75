-- Settings whose low limits were set to 0 have the view of a desk that refuses every trigger under warning, and else goes by the old ones.
-- Every other value is the same, so every other part of the view is; under warning rule 1 refuses as before, and rule 2 has a limit of 0.
use mathlib.Core.Path.{◌≡◌, refl, sym}
use mathlib.Core.Logic.{⊎_elim}
use mathlib.Core.Bool.{Bool, true, false, ◌&&◌}
use mathlib.Core.List.{List}
use Prim.Native.Nat.{ℕ, ◌+◌}
use native.Mathlib.Omega.{arith}
use borrow.Author.Tests.{ne_eqb}
use lib.Dec.{eqb, lit≤}
use Rattle.laws.specs.Base.{if, all_b, tabulate}
use Rattle.laws.proofs.Tests.{either}
use Rattle.settings.specs.declared.Settings.{Settings}
use Rattle.settings.specs.Names.{after, rules_of, waits_of, times_at}
use Rattle.settings.specs.Lows.{lows_cleared}
use Rattle.settings.proofs.Lows.{low_at, low_later}
use Rattle.status.specs.Merge.{classes_by}
use Rattle.throttle.specs.Rules.{spacing_rule, allows, refuser, refused_by}
use Rattle.throttle.proofs.Refusals.{closed, first_refuses, second_refuses, first_passes}
use Rattle.kit.specs.View.{View, view_of}

-- a view by which no trigger is free under warning where `blocks` says so: rule 1 refuses it, or else rule 2
abbrev pub blocking : Bool → View → View
blocking blocks v = record {
  orbit = v.orbit;
  slots = v.slots;
  waits = v.waits;
  plan = v.plan;
  refused = λ ws n warn. if (warn && blocks) (if (eqb (v.refused ws n warn) 1) 1 2) (v.refused ws n warn);
  classes = v.classes;
}

module _ (s : Settings) where
  abbrev low : Settings
  low = lows_cleared s

  -- the number j places after controller k's first
  time : (k j : ℕ) → after low (times_at k + j) ≡ after s (times_at k + j)
  time k j = low_later s (times_at k + j) (omega arith)

  same_spacing : spacing_rule (rules_of low) ≡ spacing_rule (rules_of s)
  unfolding all_b
  same_spacing = rw (low_at s 3)

  -- under warning: rule 1, or rule 2 with its limit of 0
  warned : (ws : List ℕ) (n : ℕ) → refused_by (rules_of low) ws n true ≡ if (eqb (refused_by (rules_of s) ws n true) 1) 1 2
  unfolding all_b
  warned ws n =
      ⊎_elim
      (λ (e : allows ws n true (spacing_rule (rules_of s)) ≡ true).
      rw (ne_eqb _ 1 (first_passes (rules_of s) ws n true e))
      (sym (second_refuses (rules_of low) ws n true (rw same_spacing e) (closed ws n true (rules_of low).second (low_at s 6)))))
      (λ (e : allows ws n true (spacing_rule (rules_of s)) ≡ false).
      rw (← first_refuses (rules_of s) ws n true e) (sym (first_refuses (rules_of low) ws n true (rw same_spacing e))))
      (either (allows ws n true (spacing_rule (rules_of s))))

  refuses : (ws : List ℕ) (n : ℕ) (warn : Bool)
      → refused_by (rules_of low) ws n warn ≡ if (warn && true) (if (eqb (refused_by (rules_of s) ws n warn) 1) 1 2) (refused_by (rules_of s) ws n warn)
  unfolding refuser all_b allows
  refuses ws n true = warned ws n
  refuses ws n false = rw (low_at s 3, low_at s 4, low_at s 5, low_at s 7, low_at s 8, low_at s 10, low_at s 11)

  waits : waits_of low ≡ waits_of s
  waits = λ i. record {
    settle = record { resync = low_later s 15 (lit≤ tt) i; hard = low_later s 16 (lit≤ tt) i };
    recover = record { resync = low_later s 17 (lit≤ tt) i; hard = low_later s 18 (lit≤ tt) i };
  }

  cleared_view : view_of low ≡ blocking true (view_of s)
  unfolding all_b
  cleared_view = λ i. record {
    orbit = low_at s 0 i;
    slots = tabulate (λ k. low_later s (19 + k) (omega arith) i) 0 8;
    waits = waits i;
    plan = λ k. record {
      at = record {
        bc0 = low_later s (times_at k) (omega arith) i;
        te = time k 1 i;
        resync = time k 2 i;
        hard = time k 3 i;
        ec0 = time k 4 i;
        oc0 = time k 5 i;
        start = time k 6 i;
        stop = time k 7 i;
        gap = time k 8 i;
        wte = time k 9 i;
        cal = time k 10 i;
      };
      waits = waits i;
      gap = record { low = low_at s 1 i; high = low_at s 2 i };
    };
    refused = λ ws n warn. refuses ws n warn i;
    classes = classes_by (λ p. low_later s (115 + p) (omega arith) i) (record { disc = eqb (low_at s 13 i) 1; bad = eqb (low_at s 14 i) 1 });
  }

  plain_rule : (ws : List ℕ) (n : ℕ) (warn : Bool)
      → refused_by (rules_of s) ws n warn ≡ if (warn && false) (if (eqb (refused_by (rules_of s) ws n warn) 1) 1 2) (refused_by (rules_of s) ws n warn)
  plain_rule ws n true = refl
  plain_rule ws n false = refl

  pub settled_view : (blocks : Bool) → view_of (if blocks low s) ≡ blocking blocks (view_of s)
  settled_view true = cleared_view
  settled_view false = λ i. record {
    orbit = (view_of s).orbit;
    slots = (view_of s).slots;
    waits = (view_of s).waits;
    plan = (view_of s).plan;
    refused = λ ws n warn. plain_rule ws n warn i;
    classes = (view_of s).classes;
  }
