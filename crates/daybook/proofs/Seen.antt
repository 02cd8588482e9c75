-- A crossing's row tells of each controller what the definition of its crossing gives: code, triggers, and status after the move.
-- The row's bytes are the map of that definition over the eight, so place k of it is controller k's.
use mathlib.Core.Path.{◌≡◌, sym, ap, ◌∙◌}
use mathlib.Core.Logic.{⊎_elim}
use mathlib.Core.Bool.{not, ◌||◌}
use mathlib.Core.List.{List}
use Prim.Native.Nat.{ℕ, suc, ◌≤◌, ◌<◌}
use native.Mathlib.Nat.{zero-add}
use native.Mathlib.Omega.{arith}
use lib.Dec.{eqb, ltb}
use lib.ListN.{length, get_or, get_or-eq_default}
use Rattle.laws.proofs.Tests.{lt_or_ge}
use Rattle.laws.proofs.Over.{length-map_i, get_or-map_i}
use Rattle.settings.specs.declared.Settings.{Settings}
use Rattle.states.specs.Names.{WARN, running, status_of}
use Rattle.states.proofs.Keeps.{status_low, shows_warn, shows_runs}
use Rattle.ptc.specs.declared.Ptc.{Ptc}
use Rattle.ptc.specs.declared.Scene.{Scene}
use Rattle.ptc.specs.declared.Crossed.{Crossed}
use Rattle.ptc.specs.Crossing.{crossed_of}
use Rattle.ptc.proofs.Triggers.{code_fits}
use Rattle.records.specs.Records.{rec_at, marker_in, asked_in}
use Rattle.records.specs.Rows.{row_byte}
use Rattle.records.proofs.Laws.{byte_code, byte_fires}
use Rattle.board.specs.declared.Board.{Board}
use Rattle.kit.specs.Kit.{plan_of}
use Rattle.board.specs.Crossing.{scene_of, classes_in, eight, board_crossed, crossed_by, row_crossed, crossing_row_by}
use Rattle.eight.specs.Eight.{act_of, byte_of, shown_of}
use Rattle.ptc.specs.Fresh.{fresh_ptc}
use Rattle.board.specs.Run.{stepped, row_of, ran}
use Rattle.board.specs.Fresh.{fresh_board}
use Rattle.daybook.specs.Row.{row_at, code_in, sent_in, cal_in, sends_in, status_in, runs_in, warns_in}
use Rattle.daybook.specs.Whole.{Taken, Crossing, whole}
use Rattle.daybook.proofs.Decoding.{byte_sent, byte_cal, row_byte_lem, row_status}
use Rattle.daybook.proofs.Ground.{fit_at, row_at_lem}
use Rattle.daybook.proofs.Beams.{own_settings}

-- ---- one crossing of any board

-- controller k through it
abbrev crossed_at : Board → List ℕ → ℕ → Crossed
crossed_at b rec k =
    crossed_of (plan_of b.settings k) (scene_of b (marker_in rec)) k (get_or (classes_in b rec) k 0) (asked_in (get_or rec 2 0) k)
    (get_or b.ptcs k fresh_ptc)

module _ (b : Board) (rec : List ℕ) (long : length b.ptcs ≡ 8) where
  bytes_long : length (eight byte_of b rec) ≡ 8
  bytes_long = length-map_i _ 0 b.ptcs ∙ long

  shown_long : length (eight shown_of b rec) ≡ 8
  shown_long = length-map_i _ 0 b.ptcs ∙ long

  module _ (k : ℕ) (low : k < 8) where
    byte_told : get_or (row_crossed b rec) k 0 ≡ row_byte (crossed_at b rec k).code (crossed_at b rec k).sent (crossed_at b rec k).cal
    unfolding crossing_row_by byte_of act_of
    byte_told =
        row_byte_lem (eight byte_of b rec) (eight shown_of b rec) bytes_long k low
        ∙ get_or-map_i _ 0 k b.ptcs fresh_ptc 0 (rw long low)
        ∙ rw zero-add

    fits : (crossed_at b rec k).code < 16
    fits =
        let class = get_or (classes_in b rec) k 0 in
        omega (arith, code_fits (plan_of b.settings k) (scene_of b (marker_in rec)) k class (asked_in (get_or rec 2 0) k) (get_or b.ptcs k fresh_ptc))

    code_seen : code_in (row_crossed b rec) k ≡ (crossed_at b rec k).code
    code_seen = rw byte_told (byte_code (crossed_at b rec k).code (crossed_at b rec k).sent (crossed_at b rec k).cal fits)

    sent_seen : sent_in (row_crossed b rec) k ≡ (crossed_at b rec k).sent
    sent_seen = rw byte_told (byte_sent (crossed_at b rec k).code (crossed_at b rec k).sent (crossed_at b rec k).cal fits)

    cal_seen : cal_in (row_crossed b rec) k ≡ (crossed_at b rec k).cal
    cal_seen = rw byte_told (byte_cal (crossed_at b rec k).code (crossed_at b rec k).sent (crossed_at b rec k).cal fits)

    -- a byte below 16 has no trigger in it
    fires_seen : ltb (get_or (eight byte_of b rec) k 0) 16 ≡ not ((crossed_at b rec k).sent || (crossed_at b rec k).cal)
    unfolding crossing_row_by
    fires_seen =
        ap (λ (x : ℕ). ltb x 16) (sym (row_byte_lem (eight byte_of b rec) (eight shown_of b rec) bytes_long k low) ∙ byte_told)
        ∙ byte_fires (crossed_at b rec k).code (crossed_at b rec k).sent (crossed_at b rec k).cal fits

    shown_told : get_or (eight shown_of b rec) k 0 ≡ status_of (crossed_at b rec k).ptc.state
    unfolding shown_of act_of
    shown_told = get_or-map_i _ 0 k b.ptcs fresh_ptc 0 (rw long low) ∙ rw zero-add

    ptc_seen : get_or (board_crossed b rec).ptcs k fresh_ptc ≡ (crossed_at b rec k).ptc
    unfolding crossed_by act_of
    ptc_seen = get_or-map_i _ 0 k b.ptcs fresh_ptc fresh_ptc (rw long low) ∙ rw zero-add

  shown_low : (j : ℕ) → get_or (eight shown_of b rec) j 0 < 16
  shown_low j =
      ⊎_elim
      (λ (h : j < 8). rw (shown_told j h) (omega (arith, status_low (crossed_at b rec j).ptc.state)))
      (λ (h : 8 ≤ j).
      let past : length (eight shown_of b rec) ≤ j = rw shown_long h in
      rw (get_or-eq_default (eight shown_of b rec) 0 past) (omega arith))
      (lt_or_ge j 8)

  status_seen : (k : ℕ) → k < 8 → status_in (row_crossed b rec) k ≡ status_of (crossed_at b rec k).ptc.state
  unfolding crossing_row_by
  status_seen k low = row_status (eight byte_of b rec) (eight shown_of b rec) bytes_long shown_long shown_low k low ∙ shown_told k low

-- ---- a crossing of a log that was accepted

-- what all eight see of it, controller k before it, and controller k through it
abbrev pub scene_in : Settings → List ℕ → ℕ → Scene
scene_in s log i = scene_of (ran i (fresh_board s) log) (marker_in (rec_at log i))

abbrev pub ptc_in : Settings → List ℕ → ℕ → ℕ → Ptc
ptc_in s log i k = get_or (ran i (fresh_board s) log).ptcs k fresh_ptc

abbrev pub class_in : Settings → List ℕ → ℕ → ℕ → ℕ
class_in s log i k = get_or (classes_in (ran i (fresh_board s) log) (rec_at log i)) k 0

abbrev pub crossed_in : Settings → List ℕ → ℕ → ℕ → Crossed
crossed_in s log i k =
    crossed_of (plan_of s k) (scene_in s log i) k (class_in s log i k) (asked_in (get_or (rec_at log i) 2 0) k) (ptc_in s log i k)

module _ {s : Settings} {log buffer : List ℕ} (t : Taken s log buffer) {i : ℕ} (c : Crossing log i) (k : ℕ) (low : k < 8) where
  own_crossed : crossed_at (ran i (fresh_board s) log) (rec_at log i) k ≡ crossed_in s log i k
  own_crossed = rw (own_settings s log i)

  row_crossed_lem : row_at (whole s log buffer).rows i ≡ row_crossed (ran i (fresh_board s) log) (rec_at log i)
  unfolding row_of
  row_crossed_lem = row_at_lem t i c.among ∙ rw c.kind

  long_here : length (ran i (fresh_board s) log).ptcs ≡ 8
  long_here = (fit_at t i (omega (arith, c.among))).ptcs

  pub code_told : code_in (row_at (whole s log buffer).rows i) k ≡ (crossed_in s log i k).code
  code_told =
      ap (λ (row : List ℕ). code_in row k) row_crossed_lem ∙ code_seen (ran i (fresh_board s) log) (rec_at log i) long_here k low
      ∙ ap (λ (x : Crossed). x.code) own_crossed

  pub sent_told : sent_in (row_at (whole s log buffer).rows i) k ≡ (crossed_in s log i k).sent
  sent_told =
      ap (λ (row : List ℕ). sent_in row k) row_crossed_lem ∙ sent_seen (ran i (fresh_board s) log) (rec_at log i) long_here k low
      ∙ ap (λ (x : Crossed). x.sent) own_crossed

  pub cal_told : cal_in (row_at (whole s log buffer).rows i) k ≡ (crossed_in s log i k).cal
  cal_told =
      ap (λ (row : List ℕ). cal_in row k) row_crossed_lem ∙ cal_seen (ran i (fresh_board s) log) (rec_at log i) long_here k low
      ∙ ap (λ (x : Crossed). x.cal) own_crossed

  pub status_told : status_in (row_at (whole s log buffer).rows i) k ≡ status_of (crossed_in s log i k).ptc.state
  status_told =
      ap (λ (row : List ℕ). status_in row k) row_crossed_lem ∙ status_seen (ran i (fresh_board s) log) (rec_at log i) long_here k low
      ∙ ap (λ (x : Crossed). status_of x.ptc.state) own_crossed

  pub next_told : ptc_in s log (suc i) k ≡ (crossed_in s log i k).ptc
  unfolding ran stepped
  next_told =
      rw c.kind (ptc_seen (ran i (fresh_board s) log) (rec_at log i) long_here k low) ∙ ap (λ (x : Crossed). x.ptc) own_crossed

  pub runs_told : runs_in (row_at (whole s log buffer).rows i) k ≡ running (crossed_in s log i k).ptc.state
  runs_told = rw status_told (shows_runs (crossed_in s log i k).ptc.state)

  pub warns_told : warns_in (row_at (whole s log buffer).rows i) k ≡ eqb (crossed_in s log i k).ptc.state WARN
  warns_told = rw status_told (shows_warn (crossed_in s log i k).ptc.state)

  pub fires_told : ltb (get_or (eight byte_of (ran i (fresh_board s) log) (rec_at log i)) k 0) 16 ≡ not (sends_in (row_at (whole s log buffer).rows i) k)
  fires_told =
      fires_seen (ran i (fresh_board s) log) (rec_at log i) long_here k low ∙ ap (λ (x : Crossed). not (x.sent || x.cal)) own_crossed
      ∙ rw (sent_told, cal_told)
