-- From the files to what is printed: the board that is reported is the closing one of what was read, and its report is laid whole.
-- Both files were accepted, so what is printed of them is the report, and that fits the buffer.
use mathlib.Core.Path.{◌≡◌, sym, ap, ◌∙◌}
use mathlib.Core.Bool.{Bool, false}
use mathlib.Core.List.{List, ◌++◌}
use Prim.Native.Nat.{ℕ, ◌≤◌}
use native.Mathlib.Omega.{arith}
use lib.ListN.{length, take, drop, length-append}
use lib.Seq.{take_at}
use Rattle.answer.specs.Told.{Answer, told}
use Rattle.board.specs.declared.Board.{Board}
use Rattle.board.specs.declared.Made.{Made}
use Rattle.board.specs.Fresh.{MadeOut}
use Rattle.board.specs.Block.{RanOut}
use Rattle.report.specs.Report.{report_text, ReportOut, report_out, reported}
use Rattle.report.specs.Fits.{report_room}
use Rattle.replay.specs.Printed.{replayed, printed_of}
use Rattle.pieces.proofs.Printing.{printing, shown_is}
use Rattle.ending.specs.Ends.{over}
use Rattle.ending.proofs.Ends.{went_on}
use Rattle.shell.specs.Opened.{OfSomeText}
use Rattle.shell.specs.Logs.{OfSomeLog}
use Rattle.desk.specs.Printed.{Closing, OfSomeFiles}

pub closing : (m : Made) (a : Answer) (b : Board) (unread stopped : Bool) → OfSomeText m → OfSomeLog m.board a b → over unread (told m.answer) ≡ false
    → over stopped (told a) ≡ false → Closing b
closing m a b unread stopped some of on through =
    let same = ap (λ (o : MadeOut). replayed o.board of.0) some.1 in
    record {
      text = some.0;
      log = of.0;
      opens = sym (ap (λ (o : MadeOut). o.answer) some.1) ∙ went_on unread m.answer on;
      through = sym (of.1 ∙ ap (λ (o : RanOut). o.answer) same) ∙ went_on stopped a through;
      is = of.2 ∙ ap (λ (o : RanOut). o.board) same;
    }

module _ (b : Board) (c : Closing b) (before after : List ℕ) (room : report_room ≤ length before) (a : Answer) (wrote : report_out a after ≡ reported b before)
    (n : ℕ) (long : n ≡ length (report_text b)) where
  -- the report is what is printed
  shows : report_text b ≡ printed_of c.text c.log
  shows = ap report_text c.is ∙ sym (shown_is c.text c.log c.opens c.through (λ o. report_text o.board))

  laid : after ≡ printed_of c.text c.log ++ drop (length (printed_of c.text c.log)) before
  laid =
      ap (λ (o : ReportOut). o.buffer)
      (wrote ∙ ap (λ (x : Board). reported x before) c.is ∙ printing.report c.text c.log before c.opens c.through room)

  pub laid_long : n ≤ length after
  laid_long = rw (laid, length-append) (omega (arith, ap length shows))

  pub laid_are : OfSomeFiles (take n after)
  laid_are =
      record { text = c.text; log = c.log; are = ap (take n) laid ∙ take_at (printed_of c.text c.log) _ n (sym (long ∙ ap length shows)) }
