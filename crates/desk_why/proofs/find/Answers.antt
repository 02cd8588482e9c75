-- Each turn is the law of one block more. Behind the last turn nothing was run, as after a failed read.
use Rattle.std.proofs.Common.{◌≡◌, length, rules, refl, sym, ◌∙◌, is_some}
use Rattle.laws.proofs.Tests.{mapped_long}
use Rattle.desk_why.proofs.Laws.{begun, last_found, one_counted}
use Rattle.desk_why.proofs.find.Goals as goal

pub loop-block-init : goal.loop-block-init
loop-block-init g c = (refl, refl, begun c.args.fresh)

pub returns-then-not-goes_on : goal.returns-then-not-goes_on
returns-then-not-goes_on g c =
    let l = c.loop-block in
    let r = c.run_piece-step in
    let long : length c.args.fresh.ptcs ≡ 8 = search (rules, mapped_long) in
    last_found _ l.board _ l.invariant.2 long r.result.got.«count» r.new.piece l.rows (search rules) l.invariant.1 (is_some r.result.got.failed) r.result.answer _ _ r.ensures.1

pub loop-block-preserved : goal.loop-block-preserved
loop-block-preserved g c =
    let l = c.loop-block in
    let r = c.run_piece-step in
    let long : length c.args.fresh.ptcs ≡ 8 = search (rules, mapped_long) in
    let piece : length r.new.piece ≡ 1536 = search rules in (
      piece,
      search rules,
      one_counted _ l.board _ l.invariant.2 long r.result.got.«count» r.new.piece l.rows piece l.invariant.1 (is_some r.result.got.failed) r.result.answer _ _ r.ensures.1
          (sym c.goes_on.ensures ∙ c.if-not-goes_on.false),
    )
