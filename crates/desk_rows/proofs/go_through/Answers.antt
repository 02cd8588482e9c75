-- Each turn is the law of one piece more.
use Rattle.std.proofs.Common.{◌≡◌, length, rules, refl, sym, ◌∙◌, is_some}
use Rattle.laws.proofs.Tests.{mapped_long}
use Rattle.shell.proofs.Laws.{start, last, goes_on}
use Rattle.desk_rows.proofs.go_through.Goals as goal

pub loop-init : goal.loop-init
loop-init g c = (refl, refl, start c.args.fresh)

pub returns-then-is_err : goal.returns-then-is_err
returns-then-is_err g c =
    let l = c.loop in
    let r = c.run_piece-step in
    let long : length c.args.fresh.ptcs ≡ 8 = search (rules, mapped_long) in
    let o = last _ l.board l.invariant.2 long r.result.got.«count» r.new.piece l.rows (search rules) l.invariant.1 (is_some r.result.got.failed) r.result.answer _ _ r.ensures.1 in
    rw c.after-pass.ensures (o.0, o.1)

pub loop-preserved : goal.loop-preserved
loop-preserved g c =
    let l = c.loop in
    let r = c.run_piece-step in
    let long : length c.args.fresh.ptcs ≡ 8 = search (rules, mapped_long) in
    let piece : length r.new.piece ≡ 61440 = search rules in (
      piece,
      search rules,
      goes_on _ l.board l.invariant.2 long r.result.got.«count» r.new.piece l.rows piece l.invariant.1 (is_some r.result.got.failed) r.result.answer _ _ r.ensures.1
          (sym c.is_full.ensures ∙ c.if-not-is_full.false),
    )
