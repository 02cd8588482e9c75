-- The windows over a whole log: the ring of marks tells what the rows tell, and each rule keeps its limit, so no stretch holds more.
-- By induction on the records: a crossing's triggers join the list and the ring alike, and a trigger was sent only where the rule allowed it.
use mathlib.Core.Path.{◌≡◌, ◌∙◌}
use mathlib.Core.Logic.{⊎_elim}
use mathlib.Core.Bool.{true, false, false≢true}
use mathlib.Core.List.{List, [], ◌∷◌}
use Prim.Native.Nat.{ℕ, zero, suc, ◌+◌, ◌-◌, ◌≤◌, ◌<◌}
use native.Mathlib.Omega.{arith}
use native.Mathlib.Decide.{ℕ_discrete}
use lib.Dec.{eqb}
use lib.ListN.{get_or}
use Rattle.laws.specs.Base.{one}
use Rattle.laws.proofs.Bools.{both}
use Rattle.laws.proofs.Tests.{either}
use Rattle.answer.specs.Told.{DONE}
use Rattle.settings.specs.declared.Settings.{Settings}
use Rattle.settings.specs.Names.{rules_of}
use Rattle.settings.specs.Check.{checked}
use Rattle.settings.proofs.Bounds.{bounded, ordered}
use Rattle.throttle.specs.Marks.{passed}
use Rattle.throttle.specs.Windows.{count_of, Kept, Tells, refused_after}
use Rattle.throttle.proofs.Windows.{tells_on, none_told}
use Rattle.throttle.proofs.Instances.{Plain, Near, refused_told, kept_on, rule_window, rule_low}
use Rattle.states.specs.Names.{WARN}
use Rattle.ptc.specs.Crossing.{rule_in}
use Rattle.records.specs.Records.{rec_at, is_crossing}
use Rattle.records.specs.Rows.{carries}
use Rattle.records.specs.Refusal.{records_in}
use Rattle.board.specs.declared.Board.{Board}
use Rattle.eight.specs.Eight.{byte_of}
use Rattle.board.specs.Crossing.{eight, crossed_by}
use Rattle.board.specs.Command.{commanded_by}
use Rattle.board.specs.Run.{stepped, ran}
use Rattle.board.specs.Fresh.{fresh_board}
use Rattle.board.proofs.Keeps.{crossed_count}
use Rattle.daybook.specs.Row.{row_at, sends_in, triggers_in, warns_in}
use Rattle.daybook.specs.Whole.{Taken, Crossing, whole}
use Rattle.daybook.proofs.Ground.{fit_at}
use Rattle.daybook.proofs.Seen.{scene_in}
use Rattle.windows.specs.Windows.{crossing_rows, triggers, in_stretch, rule_at, sent_warned, Windows}
use Rattle.windows.proofs.Carried.{some_sent, carried, bit, sent_one, who_sent, rule_seen, allowed}

-- ---- the four rules, as the window fact has them

plain_rule : (s : Settings) → checked s ≡ DONE → (r : ℕ) → r < 4 → Plain (rule_at s r)
plain_rule s ok zero h = omega (arith, bounded s ok)
plain_rule s ok (suc zero) h = omega (arith, bounded s ok, ordered s ok)
plain_rule s ok (suc (suc zero)) h = omega (arith, bounded s ok, ordered s ok)
plain_rule s ok (suc (suc (suc zero))) h = omega (arith, bounded s ok, ordered s ok)
plain_rule s ok (suc (suc (suc (suc r)))) h = absurd (omega arith)

module _ {s : Settings} {log buffer : List ℕ} (t : Taken s log buffer) where
  abbrev rows : List ℕ
  rows = (whole s log buffer).rows

  abbrev before : ℕ → Board
  before i = ran i (fresh_board s) log

  -- the triggers of the crossings so far
  abbrev sofar : ℕ → List ℕ
  sofar i = triggers (crossing_rows log rows i)

  -- ---- the ring tells what the rows tell

  fresh_tells : Tells (before 0).marks (before 0).clock.crossings (sofar 0)
  unfolding ran fresh_board crossing_rows
  fresh_tells = none_told 0

  module _ (i : ℕ) (c : Crossing log i) where
    marks_next : (before (suc i)).marks ≡ passed (before i).marks (before i).clock.crossings (one (carries (eight byte_of (before i) (rec_at log i))))
    unfolding ran stepped crossed_by
    marks_next = rw c.kind

    count_next : (before (suc i)).clock.crossings ≡ (before i).clock.crossings + 1
    unfolding ran stepped
    count_next = rw c.kind (crossed_count (before i) (rec_at log i))

    sofar_next : sofar (suc i) ≡ triggers_in (row_at rows i) ∷ sofar i
    unfolding crossing_rows
    sofar_next = rw c.kind

    crossing_tells : Tells (before i).marks (before i).clock.crossings (sofar i)
        → Tells (before (suc i)).marks (before (suc i)).clock.crossings (sofar (suc i))
    crossing_tells told =
        let b = before i in
        let long = (fit_at t i (omega (arith, c.among))).marks in
        rw (marks_next, count_next, sofar_next, ← carried t c)
        (tells_on b.marks b.clock.crossings (sofar i) (triggers_in (row_at rows i)) long (omega (arith, bit t c)) told)

  tells : (i : ℕ) → i ≤ records_in log → Tells (before i).marks (before i).clock.crossings (sofar i)
  unfolding ran stepped commanded_by crossing_rows
  tells zero h = fresh_tells
  tells (suc i) h =
      let old = tells i (omega arith) in
      ⊎_elim
      (λ (e : is_crossing (rec_at log i) ≡ true). crossing_tells i (record { among = h; kind = e }) old)
      (λ (e : is_crossing (rec_at log i) ≡ false). rw e old)
      (either (is_crossing (rec_at log i)))

  -- ---- which rule refuses a trigger, by the rows of the crossings before

  near_rules : Near (rules_of s)
  near_rules = omega (arith, bounded s t.checks)

  pub rule_told : {i : ℕ} → Crossing log i → (state : ℕ)
      → rule_in (scene_in s log i) state ≡ refused_after (rules_of s) (sofar i) (eqb state WARN)
  rule_told {i} c state =
      let told = tells i (omega (arith, c.among)) in
      rule_seen t c state
      ∙ refused_told (rules_of s) near_rules (before i).marks (before i).clock.crossings (sofar i) told (eqb state WARN)

  -- ---- each rule keeps its normal limit, and a trigger sent under warning the low one

  module _ (r : ℕ) (four : r < 4) where
    plain : Plain (rule_at s r)
    plain = plain_rule s t.checks r four

    crossing_kept : (i : ℕ) (c : Crossing log i) → Kept ((rule_at s r).period - 1) (rule_at s r).norm (sofar i)
        → Kept ((rule_at s r).period - 1) (rule_at s r).norm (triggers_in (row_at rows i) ∷ sofar i)
    crossing_kept i c kept = go (ℕ_discrete (triggers_in (row_at rows i)) 1)
      where
        go : Dec (triggers_in (row_at rows i) ≡ 1) → Kept ((rule_at s r).period - 1) (rule_at s r).norm (triggers_in (row_at rows i) ∷ sofar i)
        go (yes e) =
            let w = who_sent t c e in
            kept_on (rule_at s r) plain (before i).marks (before i).clock.crossings (sofar i) (tells i (omega (arith, c.among)))
            (warns_in (row_at rows i) w.who) (triggers_in (row_at rows i)) (bit t c) (λ q. allowed t c w.who w.low w.sends r four) kept
        go (no e) =
            kept_on (rule_at s r) plain (before i).marks (before i).clock.crossings (sofar i) (tells i (omega (arith, c.among)))
            false (triggers_in (row_at rows i)) (bit t c) (λ q. absurd (e q)) kept

    kept : (i : ℕ) → i ≤ records_in log → Kept ((rule_at s r).period - 1) (rule_at s r).norm (sofar i)
    unfolding crossing_rows
    kept zero h = tt
    kept (suc i) h =
        let old = kept i (omega arith) in
        ⊎_elim
        (λ (e : is_crossing (rec_at log i) ≡ true).
        let c : Crossing log i = record { among = h; kind = e } in
        rw (sofar_next i c) (crossing_kept i c old))
        (λ (e : is_crossing (rec_at log i) ≡ false). rw e old)
        (either (is_crossing (rec_at log i)))

    -- the crossing of record i itself, sent under warning
    low_here : (i : ℕ) (c : Crossing log i) (k : ℕ) → k < 8 → sent_warned (row_at rows i) k ≡ true
        → count_of (rule_at s r).period (triggers_in (row_at rows i) ∷ sofar i) ≤ (rule_at s r).low
    low_here i c k less e =
        let w = both (sends_in (row_at rows i) k) (warns_in (row_at rows i) k) e in
        let yes = rw w.1 at (allowed t c k less w.0 r four) in
        rw (sent_one t c k less w.0)
        (rule_low (rule_at s r) plain (before i).marks (before i).clock.crossings (sofar i) (tells i (omega (arith, c.among))) yes)

    low_next : (i : ℕ) (c : Crossing log i) (k : ℕ) → k < 8
        → ((from : ℕ) → sent_warned (get_or (crossing_rows log rows i) from []) k ≡ true → in_stretch (rule_at s r).period from (crossing_rows log rows i) ≤ (rule_at s r).low)
        → (from : ℕ) → sent_warned (get_or (row_at rows i ∷ crossing_rows log rows i) from []) k ≡ true
        → in_stretch (rule_at s r).period from (row_at rows i ∷ crossing_rows log rows i) ≤ (rule_at s r).low
    low_next i c k less older zero e = low_here i c k less e
    low_next i c k less older (suc from) e = older from e

    low_then : (i : ℕ) → i ≤ records_in log → (k : ℕ) → k < 8 → (from : ℕ) → sent_warned (get_or (crossing_rows log rows i) from []) k ≡ true
        → in_stretch (rule_at s r).period from (crossing_rows log rows i) ≤ (rule_at s r).low
    unfolding crossing_rows
    low_then zero h k less from e = absurd (false≢true e)
    low_then (suc i) h k less from e =
        let older = low_then i (omega arith) k less in
        ⊎_elim
        (λ (q : is_crossing (rec_at log i) ≡ true). rw q (low_next i (record { among = h; kind = q }) k less older from (rw q at e)))
        (λ (q : is_crossing (rec_at log i) ≡ false). rw q (older from (rw q at e)))
        (either (is_crossing (rec_at log i)))

-- ---- a low limit of 0

-- a stretch that ends with a trigger holds one
ends_with_one : (long : ℕ) → 0 < long → (rows : List (List ℕ)) (from k : ℕ) → k < 8 → sends_in (get_or rows from []) k ≡ true → 1 ≤ in_stretch long from rows
unfolding count_of
ends_with_one long some [] from k less e = absurd (false≢true e)
ends_with_one zero some (row ∷ rows) zero k less e = absurd (omega arith)
ends_with_one (suc long) some (row ∷ rows) zero k less e = omega (arith, some_sent row 8 k less e)
ends_with_one long some (row ∷ rows) (suc from) k less e = ends_with_one long some rows from k less e

none_warned : (long limit : ℕ) → 0 < long → limit ≡ 0 → (rows : List (List ℕ)) (from k : ℕ) → k < 8
    → (sent_warned (get_or rows from []) k ≡ true → in_stretch long from rows ≤ limit) → sent_warned (get_or rows from []) k ≡ false
none_warned long limit some z rows from k less most =
    ⊎_elim
    (λ (e : sent_warned (get_or rows from []) k ≡ true).
    let sends = (both (sends_in (get_or rows from []) k) (warns_in (get_or rows from []) k) e).0 in
    absurd (omega (arith, z, most e, ends_with_one long some rows from k less sends)))
    (λ (e : sent_warned (get_or rows from []) k ≡ false). e)
    (either (sent_warned (get_or rows from []) k))

pub windows : Windows
windows s log buffer t r four =
    record {
      normal = rule_window (rule_at s r) (plain t r four) (sofar t (records_in log)) (kept t r four (records_in log) (omega arith));
      low = λ from k less. low_then t r four (records_in log) (omega arith) k less from;
      none = λ z from k less.
          none_warned (rule_at s r).period (rule_at s r).low (plain t r four).some z (crossing_rows log (whole s log buffer).rows (records_in log)) from k less
          (low_then t r four (records_in log) (omega arith) k less from);
    }
