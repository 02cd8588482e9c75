-- What is printed, by the desk's own operations: the board that the blocks leave is fit, so its report is written, and whole logs give their rows.
-- Each is the definition at the way that the answers show, with the laws of the report's room, of the pieces and of the program.
use mathlib.Core.Path.{◌≡◌, sym, ap, ◌∙◌}
use mathlib.Core.List.{List, ◌++◌}
use Prim.Native.Nat.{ℕ, ◌*◌, ◌≤◌}
use lib.ListN.{length, drop}
use Rattle.answer.specs.Told.{DONE}
use Rattle.records.specs.Refusal.{records_in}
use Rattle.board.specs.Block.{RanOut, block_of}
use Rattle.board.proofs.Answers.{block_ready, block_answer}
use Rattle.board.proofs.Keeps.{Fit}
use Rattle.report.specs.Report.{report_text, reported}
use Rattle.report.specs.Fits.{report_room}
use Rattle.report.proofs.Fits.{report_fits}
use Rattle.replay.specs.Replay.{opened_of, blocks_in, in_blocks}
use Rattle.replay.specs.Printed.{replayed, printed_by, printed_of, rows_printed}
use Rattle.replay.proofs.Laws.{opened_by_start}
use Rattle.cut.proofs.Program.{program}
use Rattle.pieces.specs.Printing.{outcome_of, Printing}
use Rattle.pieces.proofs.Pieces.{as_replayed}
use Rattle.pieces.proofs.Kept.{blocks_fit, opened_fit}

module _ (text log : List ℕ) where
  closing_fit : Fit (outcome_of text log).board
  unfolding replayed
  closing_fit = blocks_fit (blocks_in log) (opened_of text).board log _ (opened_fit text)

  module _ (opens : (opened_of text).answer ≡ DONE) (through : (outcome_of text log).answer ≡ DONE) where
    pub shown_is : (shown : RanOut → List ℕ) → printed_by shown text log ≡ shown (outcome_of text log)
    unfolding printed_by
    shown_is shown = rw (opens, through)

    report : (buffer : List ℕ) → report_room ≤ length buffer
        → reported (outcome_of text log).board buffer ≡ record { answer = DONE; buffer = printed_of text log ++ drop (length (printed_of text log)) buffer }
    report buffer room =
        rw (shown_is (λ o. report_text o.board)) (report_fits.written (outcome_of text log).board buffer closing_fit.ptcs closing_fit.sound room)

  rows : (buffer : List ℕ) → (opened_of text).answer ≡ DONE → (block_of (opened_of text).board log buffer).answer ≡ DONE
      → (block_of (opened_of text).board log buffer).rows ≡ rows_printed text log ++ drop (12 * records_in log) buffer
  rows buffer opens done =
      let b = (opened_of text).board in
      let fit = opened_fit text in
      let same = program.same b log buffer (record { ptcs = fit.ptcs; marks = fit.marks }) done in
      let room = (block_ready b log (length buffer) (sym (block_answer b log buffer) ∙ done)).1.space in
      let so = as_replayed b log fit.ptcs buffer room in
      let through : (in_blocks (blocks_in log) b log buffer).answer ≡ DONE = ap (λ (o : RanOut). o.answer) same ∙ done in
      rw (← same, shown_is opens (sym so.answer ∙ through) (λ o. o.rows)) (so.rows through)

pub printing : Printing
unfolding printed_by
printing =
    record {
      by_start = λ shown text log. rw (opened_by_start text);
      sound = λ text log. (closing_fit text log).sound;
      report = λ text log buffer opens through room. report text log opens through buffer room;
      rows = rows;
    }
