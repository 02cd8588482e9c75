-- `replay::opened` meets its contract: the reading's answer says which way the definition goes.
-- Each way is one law of opening; the standard settings make the board of a refused text.
use mathlib.Core.Path.{ap, ◌∙◌}
use Rattle.answer.specs.Told.{Answer, told, succeeded}
use Rattle.answer.proofs.Told.{refused}
use Rattle.replay.proofs.Laws.{opened_done, opened_refused}
use Rattle.replay.proofs.opened.Goals as goal

pub returns-in-Ok : goal.returns-in-Ok
returns-in-Ok c =
    let r = c.read_text-answer in
    opened_done _ r.result r.ensures c.fresh.result (ap (λ (a : Answer). succeeded (told a)) c.in-Ok.is) c.fresh.ensures

pub returns-in-Err : goal.returns-in-Err
returns-in-Err c =
    let r = c.read_text-answer in
    opened_refused _ r.result r.ensures c.fresh-in-Err.result (ap (λ (a : Answer). succeeded (told a)) c.in-Err.is ∙ refused _) _ c.standard.ensures c.fresh-in-Err.ensures
