-- What is printed is what the text and the log that was found decide: the law of a log over the board of an accepted text.
use Rattle.std.proofs.Common.{◌≡◌, ap, sym, ◌∙◌}
use Rattle.std.specs.Prelude.{Ok, Err, is_err, not}
use Rattle.answer.specs.Told.{Answer, told, succeeded}
use Rattle.answer.proofs.Told.{is_err_told}
use Rattle.desk_why.proofs.Laws.{log_why}
use Rattle.desk_why.proofs.tell_log.Goals as goal

refuses : (a : Answer) → not (succeeded (told a)) ≡ is_err a
refuses (Ok done) = ap not (is_err_told (Ok done))
refuses (Err r) = ap not (is_err_told (Err r))

pub print_why-requires : goal.print_why-requires
print_why-requires g c =
    let f = c.find-found in
    rw (c.is_err.ensures.value ∙ sym (refuses f.result.answer)) (log_why c.args.fresh c.requires f.result.answer f.result.block f.ensures)
