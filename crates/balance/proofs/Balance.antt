-- The balance over a whole log: a bench's reading of settings, records and rows has the closing board's counts, and the sums agree.
-- By induction on the records the reading follows the controller; a sound board's sums agree, so the reading's do.
use mathlib.Core.Path.{◌≡◌, refl, sym, ap, ◌∙◌}
use mathlib.Core.Logic.{⊎_elim}
use mathlib.Core.Bool.{true, false}
use mathlib.Core.List.{List, [], ◌∷◌, ◌++◌}
use Prim.Native.Nat.{ℕ, zero, suc, ◌+◌, ◌≤◌, ◌<◌}
use native.Mathlib.Nat.{zero-add, add-zero, add-suc, suc-add}
use native.Mathlib.Omega.{arith}
use borrow.Author.Tests.{le-leb, leb-true, eqb-true, eqb-false}
use lib.Dec.{leb, eqb, lit<}
use lib.ListN.{length, drop, get_or, set, get_or-replicate}
use lib.Seq.{get_or-set_same, get_or-set_other}
use Rattle.laws.specs.Base.{one, map_i}
use Rattle.laws.proofs.Bools.{both}
use Rattle.laws.proofs.Tests.{either}
use Rattle.answer.specs.Told.{DONE}
use Rattle.text.specs.Lines.{lines_text}
use Rattle.keys.specs.Report.{common_keys}
use Rattle.settings.specs.declared.Settings.{Settings}
use Rattle.settings.specs.Names.{waits_of, schedule_of}
use Rattle.settings.proofs.Bounds.{times_apart}
use Rattle.counts.proofs.Balance.{Balanced as CountsBalanced, counts_read}
use Rattle.ptc.specs.declared.Ptc.{Ptc}
use Rattle.ptc.specs.Command.{commanded_of}
use Rattle.ptc.proofs.Keeps.{Sound, sound_read}
use Rattle.records.specs.Records.{rec_at, is_crossing, asked_in}
use Rattle.records.specs.Rows.{command_row}
use Rattle.records.specs.Refusal.{records_in}
use Rattle.board.specs.declared.Board.{Board}
use Rattle.ptc.specs.Fresh.{fresh_ptc}
use Rattle.board.specs.Command.{command_in, command_by, commanded_by, command_row_by}
use Rattle.board.specs.Run.{stepped, row_of, ran}
use Rattle.board.specs.Sound.{sound_board}
use Rattle.board.specs.Fresh.{fresh_board}
use Rattle.board.proofs.Settled.{sound_parts_lem}
use Rattle.board.proofs.Keeps.{Fit}
use Rattle.eight.proofs.Sound.{ptc_at}
use Rattle.report.specs.Report.{common_values, controller_text, blocks_from, report_text, report_answer, reported}
use Rattle.daybook.specs.Row.{row_at, taken_in}
use Rattle.daybook.specs.Whole.{Taken, Crossing, whole}
use Rattle.daybook.proofs.Decoding.{row_taken}
use Rattle.daybook.proofs.Ground.{ground, fit_at, row_at_lem}
use Rattle.daybook.proofs.Beams.{own_settings}
use Rattle.daybook.proofs.Seen.{scene_in, ptc_in, class_in, crossed_in, code_told, sent_told, cal_told, runs_told, warns_told, next_told}
use Rattle.slots.proofs.Slots.{number_seen, holder_seen}
use Rattle.windows.proofs.Windows.{rule_told}
use Rattle.balance.specs.Reading.{Reading, look_at, past_crossing, past_command, counted, reading_of}
use Rattle.balance.specs.Balanced.{settled, shown_as, read, Balanced, read_off, Reported, Balances}
use Rattle.balance.proofs.Steps.{Follows, look_of, crossing_follows, command_follows, passed_by}

-- ---- what a sound board says of controller k

module _ (b : Board) (fit : Fit b) (k : ℕ) where
  sound_here : Sound k (eqb k b.turn.holder) b.clock.crossings (get_or b.ptcs k fresh_ptc)
  sound_here =
      let own = eqb k b.turn.holder in
      let m = b.clock.crossings in
      sound_read k own m (get_or b.ptcs k fresh_ptc) (ptc_at b.turn.holder m b.ptcs k (sound_parts_lem b fit.sound).eight)

  cycle_few : (get_or b.ptcs k fresh_ptc).cycle ≤ 2
  cycle_few = let p = get_or b.ptcs k fresh_ptc in leb-true p.cycle 2 (both (leb p.cycle 2) _ sound_here.cycle).0

  sums_agree : CountsBalanced b.clock.crossings (get_or b.ptcs k fresh_ptc).counts
  sums_agree = counts_read b.clock.crossings (get_or b.ptcs k fresh_ptc).counts sound_here.counts

module _ {s : Settings} {log buffer : List ℕ} (t : Taken s log buffer) (k : ℕ) (low : k < 8) where
  abbrev rows : List ℕ
  rows = (whole s log buffer).rows

  abbrev before : ℕ → Board
  before i = ran i (fresh_board s) log

  abbrev reading : ℕ → Reading
  reading i = reading_of s log rows k i

  -- ---- the reading follows the controller

  pub look_told : (i : ℕ) (c : Crossing log i)
      → look_at s log rows k i ≡ look_of s (scene_in s log i) k (class_in s log i k) (asked_in (get_or (rec_at log i) 2 0) k) (ptc_in s log i k)
  unfolding look_at
  look_told i c =
      rw (
        sent_told t c k low,
        cal_told t c k low,
        code_told t c k low,
        runs_told t c k low,
        warns_told t c k low,
        ← rule_told t c (crossed_in s log i k).ptc.state,
        ← holder_seen t c,
        ← number_seen t c,
      )

  -- at at_wte no other code is due, and a cycle has three values
  pub away : (schedule_of s k).wte ≡ (schedule_of s k).bc0 → ⊥
  away e = times_apart s t.checks k 0 9 (lit< tt) (lit< tt) (rw add-zero (sym e))

  pub later : (schedule_of s k).wte ≡ (schedule_of s k).gap → ⊥
  later e = times_apart s t.checks k 8 9 (lit< tt) (lit< tt) (sym e)

  pub few : (i : ℕ) → Crossing log i → (ptc_in s log i k).cycle ≤ 2
  few i c = cycle_few (before i) (fit_at t i (omega (arith, c.among))) k

  past_crossing_lem : (i : ℕ) (c : Crossing log i) → Follows (reading i) (ptc_in s log i k)
      → Follows (past_crossing s k (look_at s log rows k i) (reading i)) (ptc_in s log (suc i) k)
  past_crossing_lem i c f =
      rw (look_told i c, next_told t c k low)
      (crossing_follows s (scene_in s log i) k (class_in s log i k) (asked_in (get_or (rec_at log i) 2 0) k) (ptc_in s log i k) away later (few i c) (reading i) f)

  module _ (i : ℕ) (h : i < records_in log) (kind : is_crossing (rec_at log i) ≡ false) where
    says_taken : taken_in (row_at rows i) ≡ (command_in (before i) (rec_at log i)).taken
    unfolding row_of command_row_by
    says_taken =
        let row : row_at rows i ≡ command_row (command_in (before i) (rec_at log i)).taken = row_at_lem t i h ∙ rw kind in
        rw row (row_taken (command_in (before i) (rec_at log i)).taken)

    set_next : (before (suc i)).ptcs ≡ set (before i).ptcs (get_or (rec_at log i) 1 0) (command_in (before i) (rec_at log i)).ptc
    unfolding ran stepped commanded_by
    set_next = rw kind

    to_other : eqb (get_or (rec_at log i) 1 0) k ≡ false → Follows (reading i) (ptc_in s log i k)
        → Follows (past_command (rec_at log i) (row_at rows i) k (reading i)) (ptc_in s log (suc i) k)
    to_other e f =
        let other : k ≡ get_or (rec_at log i) 1 0 → ⊥ = λ q. eqb-false (get_or (rec_at log i) 1 0) k e (sym q) in
        let same = get_or-set_other (before i).ptcs (get_or (rec_at log i) 1 0) k (command_in (before i) (rec_at log i)).ptc fresh_ptc other in
        rw (passed_by (rec_at log i) (row_at rows i) k (reading i) e, set_next, same) f

    to_this : eqb (get_or (rec_at log i) 1 0) k ≡ true → Follows (reading i) (ptc_in s log i k)
        → Follows (past_command (rec_at log i) (row_at rows i) k (reading i)) (ptc_in s log (suc i) k)
    unfolding command_by
    to_this e f =
        let same : get_or (rec_at log i) 1 0 ≡ k = eqb-true (get_or (rec_at log i) 1 0) k e in
        let inside : k < length (before i).ptcs = omega (arith, (fit_at t i (omega arith)).ptcs) in
        let got = command_follows (waits_of (before i).settings) (rec_at log i) (row_at rows i) k (ptc_in s log i k) (reading i) e
        (says_taken ∙ rw same) f in
        let next = (commanded_of (waits_of (before i).settings) (get_or (rec_at log i) 2 0) (ptc_in s log i k)).ptc in
        rw (set_next, same, get_or-set_same (before i).ptcs k next fresh_ptc inside) got

  fresh_follows : Follows (reading 0) (ptc_in s log 0 k)
  unfolding reading_of ran fresh_board
  fresh_follows = rw (get_or-replicate {A = Ptc} 8 k fresh_ptc fresh_ptc low) (record { calibrating = refl; counts = refl; events = refl })

  pub follows : (i : ℕ) → i ≤ records_in log → Follows (reading i) (ptc_in s log i k)
  unfolding reading_of
  follows zero h = fresh_follows
  follows (suc i) h =
      let f = follows i (omega arith) in
      ⊎_elim
      (λ (e : is_crossing (rec_at log i) ≡ true). rw e (past_crossing_lem i (record { among = h; kind = e }) f))
      (λ (e : is_crossing (rec_at log i) ≡ false).
      rw e (⊎_elim (λ q. to_this i h e q f) (λ q. to_other i h e q f) (either (eqb (get_or (rec_at log i) 1 0) k))))
      (either (is_crossing (rec_at log i)))

  -- ---- the three sums, and one cause for each request

  sums_read : (i : ℕ) → i ≤ records_in log → CountsBalanced (before i).clock.crossings (reading i).counts
  sums_read i h = rw (follows i h).counts (sums_agree (before i) (fit_at t i h) k)

  settles : (i : ℕ) → i ≤ records_in log → (reading i).counts.requested ≡ settled (reading i).counts
  settles i h = let sums = (sums_read i h).requests in omega (arith, sums.balance, sums.throttled)

  asked_next : (i : ℕ) (c : Crossing log i) → (reading (suc i)).counts.requested ≡ (reading i).counts.requested + one (look_at s log rows k i).asked
  unfolding reading_of past_crossing counted
  asked_next i c = rw c.kind

  settled_next : (i : ℕ) → Crossing log i → settled (reading (suc i)).counts ≡ settled (reading i).counts + one (look_at s log rows k i).asked
  settled_next i c =
      sym (settles (suc i) c.among) ∙ asked_next i c ∙ ap (λ (n : ℕ). n + one (look_at s log rows k i).asked) (settles i (omega (arith, c.among)))

  closing_counts : (get_or (whole s log buffer).board.ptcs k fresh_ptc).counts ≡ (reading (records_in log)).counts
  closing_counts = rw (ground t).closing (sym (follows (records_in log) (omega arith)).counts)

  closing_events : (get_or (whole s log buffer).board.ptcs k fresh_ptc).events ≡ (reading (records_in log)).events
  closing_events = rw (ground t).closing (sym (follows (records_in log) (omega arith)).events)

  balanced : Balanced s log rows (whole s log buffer).board k
  balanced =
      record {
        requests = settles (records_in log) (omega arith);
        throttled = (sums_read (records_in log) (omega arith)).requests.throttled;
        calibrations = (sums_read (records_in log) (omega arith)).cals.balance;
        counts = closing_counts;
        events = closing_events;
        once = settled_next;
      }

-- ---- the report

-- a block is what a controller's state, counts and events are
block_same : (s : Settings) (k : ℕ) (p : Ptc) (r : Reading) → p.counts ≡ r.counts → p.events ≡ r.events → controller_text s k p ≡ controller_text s k (shown_as r p.state)
unfolding controller_text
block_same s k p r c e = rw (c, e)

blocks_same : (s : Settings) (f : ℕ → Ptc → Ptc) (j : ℕ) (ps : List Ptc)
    → ((k : ℕ) → k < length ps → controller_text s (j + k) (get_or ps k fresh_ptc) ≡ controller_text s (j + k) (f (j + k) (get_or ps k fresh_ptc)))
    → blocks_from s j ps ≡ blocks_from s j (map_i f j ps)
unfolding blocks_from map_i
blocks_same s f j [] each = refl
blocks_same s f j (p ∷ ps) each =
    let first : controller_text s j p ≡ controller_text s j (f j p) = rw add-zero at (each 0 (omega arith)) in
    let rest = blocks_same s f (suc j) ps (λ k h. rw (suc-add, ← add-suc) (each (suc k) (omega arith))) in
    rw (first, rest)

text_told : {s : Settings} {log buffer : List ℕ} → Taken s log buffer
    → report_text (whole s log buffer).board ≡ read_off s log (whole s log buffer).rows (whole s log buffer).board
unfolding report_text
text_told {s} {log} {buffer} t =
    let closing = (whole s log buffer).board in
    let own : closing.settings ≡ s = rw (ground t).closing (own_settings s log (records_in log)) in
    let long : length closing.ptcs ≡ 8 = rw (ground t).closing (fit_at t (records_in log) (omega arith)).ptcs in
    let blocks =
    blocks_same s (λ k p. shown_as (read s log (whole s log buffer).rows k) p.state) 0 closing.ptcs
    (λ k h.
    rw zero-add
    (block_same s k (get_or closing.ptcs k fresh_ptc) (read s log (whole s log buffer).rows k)
    (closing_counts t k (rw long at h)) (closing_events t k (rw long at h)))) in
    rw own (ap (λ (l : List ℕ). lines_text common_keys (common_values closing) ++ l) blocks)

-- a board that has run a log is sound, so its report is refused for nothing but room
report_written : {s : Settings} {log buffer : List ℕ} → Taken s log buffer → (out : List ℕ) → length (report_text (whole s log buffer).board) ≤ length out
    → reported (whole s log buffer).board out
    ≡ record { answer = DONE; buffer = report_text (whole s log buffer).board ++ drop (length (report_text (whole s log buffer).board)) out }
unfolding reported report_answer
report_written {s} {log} {buffer} t out h =
    let sound : sound_board (whole s log buffer).board ≡ true = rw (ground t).closing (fit_at t (records_in log) (omega arith)).sound in
    rw (sound, le-leb _ _ h)

report_read_off : {s : Settings} {log buffer : List ℕ} → Taken s log buffer → Reported s log (whole s log buffer).rows (whole s log buffer).board
report_read_off t out h = rw (text_told t) at (report_written t out (rw (text_told t) h))

pub balance : Balances
balance s log buffer t = record { each = balanced t; reported = report_read_off t }
