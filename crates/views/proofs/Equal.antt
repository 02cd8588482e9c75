-- A fresh board of settings with some view gives what a run by that view gives; so equal views give the same.
-- The run by its own view, with the settings carried; equal views are put in for each other.
use mathlib.Core.Path.{◌≡◌, refl, ap, ap₂, ◌∙◌}
use mathlib.Core.Bool.{Bool, true, false}
use mathlib.Core.List.{List}
use Prim.Native.Nat.{ℕ}
use lib.ListN.{length}
use Rattle.laws.specs.Base.{if}
use Rattle.answer.specs.Told.{succeeded, DONE}
use Rattle.settings.specs.declared.Settings.{Settings}
use Rattle.settings.specs.Check.{checked}
use Rattle.records.specs.Refusal.{records_in, refusal_of}
use Rattle.kit.specs.View.{View, view_of}
use Rattle.board.specs.Fresh.{fresh_board}
use Rattle.board.specs.Run.{ran, rows_of}
use Rattle.board.specs.Block.{RanOut, answer_of, block_of}
use Rattle.board.proofs.Keeps.{fresh_sound, ran_ptcs_long, ran_settings}
use Rattle.report.specs.Report.{report_text}
use Rattle.views.specs.Run.{ran_by, rows_by, report_by, opened_by, Given, given_by}
use Rattle.views.specs.AsBefore.{given, EqualViews}
use Rattle.views.proofs.By.{with_settings, ran_by_lem, rows_by_lem, ran_carries, rows_carry, report_by_lem}

module _ (s : Settings) (ok : checked s ≡ DONE) (log buffer : List ℕ) where
  abbrev v : View
  v = view_of s

  rows_are : (n : ℕ) → rows_of n (fresh_board s) log ≡ rows_by v n (opened_by v) log
  unfolding fresh_board
  rows_are n = rows_by_lem (fresh_board s) log n ∙ rows_carry s v n (opened_by v) log

  ran_is : (n : ℕ) → ran n (fresh_board s) log ≡ with_settings s (ran_by v n (opened_by v) log)
  unfolding fresh_board
  ran_is n = ran_by_lem (fresh_board s) log n ∙ ran_carries s v n (opened_by v) log

  fresh_reads : report_text (fresh_board s) ≡ report_by v (opened_by v)
  unfolding fresh_board report_by
  fresh_reads = report_by_lem (fresh_board s) refl

  ran_reads : (n : ℕ) → report_text (ran n (fresh_board s) log) ≡ report_by v (ran_by v n (opened_by v) log)
  unfolding fresh_board report_by
  ran_reads n =
      let long : length (ran n (fresh_board s) log).ptcs ≡ 8 = ran_ptcs_long (fresh_board s) log n in
      report_by_lem (ran n (fresh_board s) log) long ∙ ap₂ report_by (ap view_of (ran_settings (fresh_board s) log n)) (ran_is n)

  told : answer_of (fresh_board s) log (length buffer) ≡ refusal_of 0 log (length buffer)
  unfolding answer_of fresh_board
  told = rw (fresh_sound s ok)

  given_if : (t : Bool) (x y : RanOut) (g h : Given)
      → record { answer = x.answer; rows = x.rows; report = report_text x.board } ≡ g
      → record { answer = y.answer; rows = y.rows; report = report_text y.board } ≡ h
      → let o = if t x y in ◌≡◌ {A = Given} (record { answer = o.answer; rows = o.rows; report = report_text o.board }) (if t g h)
  given_if true x y g h p q = p
  given_if false x y g h p q = q

  as_viewed : given s log buffer ≡ given_by v log buffer
  unfolding block_of given_by
  as_viewed = rw told
      (given_if (succeeded (refusal_of 0 log (length buffer))) _ _ _ _
      (rw (rows_are (records_in log), ran_reads (records_in log)))
      (rw fresh_reads))

pub equal_views : EqualViews
equal_views s older e ok log buffer = as_viewed s ok log buffer ∙ ap (λ (v : View). given_by v log buffer) e
