-- The store that is printed is the one that followed what was read: the settings text and the log were both read and accepted.
-- What `accepted` hands on is not over.
use Rattle.std.proofs.Common.{◌≡◌, Bool, true, false, not, sym, refl, is_some}
use mathlib.Core.Bool.{false≢true}
use Rattle.desk_history.specs.Printed.{OpenedBy}
use Rattle.desk_history.proofs.Laws.{opened_by_lem, opened_sound, closing}
use Rattle.desk_history.proofs.run.Goals as goal

goes_on : (over : Bool) → true ≡ not over → over ≡ false
goes_on true e = absurd (false≢true (sym e))
goes_on false e = refl

pub go_through-pass-requires : goal.go_through-pass-requires
go_through-pass-requires g c =
    let o = c.open_board-opened in
    let opened : OpenedBy o.result.made.board = opened_by_lem o.result.made (is_some o.result.failed) o.ensures (goes_on _ c.in_ok-accepted.ensures.goes_on) in
    (opened_sound _ opened, c.if-input-gt-LAST_INPUT.false)

pub print_history-requires : goal.print_history-requires
print_history-requires g c =
    let o = c.open_board-opened in
    let p = c.go_through-pass in
    let opened : OpenedBy o.result.made.board = opened_by_lem o.result.made (is_some o.result.failed) o.ensures (goes_on _ c.in_ok-accepted.ensures.goes_on) in
    closing _ _ opened p.result.answer p.result.store (is_some p.result.failed) c.if-input-gt-LAST_INPUT.false p.ensures (goes_on _ c.in_ok-accepted-2.ensures.goes_on)
