-- Each turn is the law of one piece more. Behind the last turn nothing was run, as after a failed read.
use Rattle.std.proofs.Common.{◌≡◌, length, rules, refl, sym, ◌∙◌, is_some}
use Rattle.shell.proofs.Laws.{start, last, goes_on}
use Rattle.shell.proofs.replay_log.Goals as goal

pub loop-init : goal.loop-init
loop-init g c = (refl, refl, start c.args.board.now)

pub returns-then-not-is_full : goal.returns-then-not-is_full
returns-then-not-is_full g c =
    let l = c.loop in
    let r = c.run_piece-step in
    last _ l.board l.invariant.2 c.eight.ensures.0 r.result.got.«count» r.new.piece l.rows (search rules) l.invariant.1 (is_some r.result.got.failed) r.result.answer _ _ r.ensures.1

pub loop-preserved : goal.loop-preserved
loop-preserved g c =
    let l = c.loop in
    let r = c.run_piece-step in
    let piece : length r.new.piece ≡ 61440 = search rules in (
      piece,
      search rules,
      goes_on _ l.board l.invariant.2 c.eight.ensures.0 r.result.got.«count» r.new.piece l.rows piece l.invariant.1 (is_some r.result.got.failed) r.result.answer _ _ r.ensures.1
          (sym c.is_full.ensures ∙ c.if-not-is_full.false),
    )
