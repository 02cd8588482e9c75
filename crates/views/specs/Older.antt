-- The desk that still had `warn_blocks`, in the words of an older text: what it goes by, from the numbers on the text's own lines. With a
-- text of the first edition it is document 01's desk, and one schedule serves all eight; with one of the second, that of document 02, P2.
use Rattle.std.specs.Prelude.{ℕ, ◌+◌, ◌-◌, ◌*◌, ◌%◌, Bool, ◌&&◌, List, [], ◌∷◌, eqb, get_or}
use Rattle.laws.specs.Base.{if}
use Rattle.settings.specs.declared.names.Gap.{Gap}
use Rattle.settings.specs.declared.names.Rules.{Rules}
use Rattle.settings.specs.declared.names.Ignores.{Ignores}
use Rattle.settings.specs.declared.names.Waits.{Waits}
use Rattle.settings.specs.declared.names.Schedule.{Schedule}
use Rattle.status.specs.Merge.{classes_by}
use Rattle.throttle.specs.Rules.{refused_by}
use Rattle.kit.specs.View.{View}

-- ---- by document 01's numbers of the lines, `on` being the number that stands there

-- 2 gap_low, 3 gap_high
abbrev pub gap_on : (ℕ → ℕ) → Gap
gap_on on = record { low = on 2; high = on 3 }

-- 4 r1_gap; 5 to 13 period, normal and low limit of rules 2, 3 and 4
abbrev pub rules_on : (ℕ → ℕ) → Rules
rules_on on = record {
  spacing = on 4;
  second = record { period = on 5; norm = on 6; low = on 7 };
  third = record { period = on 8; norm = on 9; low = on 10 };
  fourth = record { period = on 11; norm = on 12; low = on 13 };
}

-- 14 warn_blocks. Document 01, "Throttle": where it is 1, every trigger is refused under warning: by rule 1 where it does, else by rule 2
-- (document 02, P5, which rule refused)
abbrev pub refused_on : (ℕ → ℕ) → List ℕ → ℕ → Bool → ℕ
refused_on on ws n warn =
    let rule = refused_by (rules_on on) ws n warn in
    if (warn && eqb (on 14) 1) (if (eqb rule 1) 1 2) rule

-- 15 ignore_disc, 16 ignore_bad
abbrev pub ignores_on : (ℕ → ℕ) → Ignores
ignores_on on = record { disc = eqb (on 15) 1; bad = eqb (on 16) 1 }

-- 17 settle_resync, 18 settle_hard, 19 recover_resync, 20 recover_hard
abbrev pub waits_on : (ℕ → ℕ) → Waits
waits_on on = record { settle = record { resync = on 17; hard = on 18 }; recover = record { resync = on 19; hard = on 20 } }

-- a schedule by its eleven numbers, counted from 0
abbrev pub schedule_on : (ℕ → ℕ) → Schedule
schedule_on at = record {
  bc0 = at 0;
  te = at 1;
  resync = at 2;
  hard = at 3;
  ec0 = at 4;
  oc0 = at 5;
  start = at 6;
  stop = at 7;
  gap = at 8;
  wte = at 9;
  cal = at 10;
}

-- 1 orbit, 21 to 28 the slots; controller k's schedule and partition p's controller
abbrev pub older_view : (on : ℕ → ℕ) (schedule : ℕ → Schedule) (part : ℕ → ℕ) → View
older_view on schedule part = record {
  orbit = on 1;
  slots = on 21 ∷ on 22 ∷ on 23 ∷ on 24 ∷ on 25 ∷ on 26 ∷ on 27 ∷ on 28 ∷ [];
  waits = waits_on on;
  plan = λ k. record { at = schedule k; waits = waits_on on; gap = gap_on on };
  refused = refused_on on;
  classes = classes_by part (ignores_on on);
}

-- ---- the two older editions

-- the number on line n of a text
abbrev pub line : List ℕ → ℕ → ℕ
line ns n = get_or ns (n - 1) 0

-- 29 to 39 the schedule, 40 to 71 the partitions
unfoldable pub first_view : List ℕ → View
first_view ns = older_view (line ns) (λ k. schedule_on (λ j. line ns (29 + j))) (λ p. line ns (40 + p))

-- the edition's line stands before them, and the schedules are eight: 30 to 117, then the partitions
unfoldable pub second_view : List ℕ → View
second_view ns = older_view (λ n. line ns (1 + n)) (λ k. schedule_on (λ j. line ns (30 + 11 * (k % 8) + j))) (λ p. line ns (118 + p))
