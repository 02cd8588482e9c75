-- A text that is refused decides alone.
use Rattle.std.proofs.Common.{sym, ap, not, ◌∙◌}
use Rattle.answer.proofs.Told.{is_err_told}
use Rattle.desk_why.proofs.Laws.{text_why}
use Rattle.desk_why.proofs.main.Goals as goal

pub print_why-requires : goal.print_why-requires
print_why-requires c =
    let o = c.open_board-opened in
    text_why o.result.made o.ensures (is_err_told _ ∙ ap not (sym c.is_err.ensures.value ∙ c.if-is_err.true)) 0
