-- Each turn is the law of one piece more. Behind the last turn nothing was run, as after a failed read.
use Rattle.std.proofs.Common.{◌≡◌, length, rules, refl, sym, ◌∙◌, is_some}
use Rattle.laws.proofs.Tests.{mapped_long}
use Rattle.cut.specs.Blocks.{Whole}
use Rattle.desk_history.proofs.Laws.{begun, may_follow, last_followed, goes_on_followed}
use Rattle.desk_history.proofs.go_through.Goals as goal

pub loop-init : goal.loop-init
loop-init g c = (refl, refl, rw c.fresh-store.ensures (begun _ _))

pub follow_piece-requires : goal.follow_piece-requires
follow_piece-requires g c =
    let l = c.loop in
    let r = c.run_piece-step in
    let wholly : Whole c.args.fresh = record { ptcs = search (rules, mapped_long); marks = search rules } in
    let failed = is_some r.result.got.failed in
    (may_follow _ _ l.board wholly c.requires.0 l.store l.invariant.2 r.result.got.«count» r.new.piece l.rows _ (search rules) l.invariant.1 (search rules) r.result.answer _ failed r.ensures.1, l.invariant.2.sound, c.requires.1)

pub returns-then-not-is_full : goal.returns-then-not-is_full
returns-then-not-is_full g c =
    let l = c.loop in
    let r = c.run_piece-step in
    let k = c.follow_piece in
    let wholly : Whole c.args.fresh = record { ptcs = search (rules, mapped_long); marks = search rules } in
    let failed = is_some r.result.got.failed in
    last_followed _ _ l.board wholly c.requires.0 l.store l.invariant.2 r.result.got.«count» r.new.piece l.rows _ (search rules) l.invariant.1 (search rules) r.result.answer _ failed r.ensures.1 k.new.store k.ensures.1 k.ensures.0

pub loop-preserved : goal.loop-preserved
loop-preserved g c =
    let l = c.loop in
    let r = c.run_piece-step in
    let k = c.follow_piece in
    let wholly : Whole c.args.fresh = record { ptcs = search (rules, mapped_long); marks = search rules } in
    let failed = is_some r.result.got.failed in
    let piece : length r.new.piece ≡ 61440 = search rules in (
      piece,
      search rules,
      goes_on_followed _ _ l.board wholly c.requires.0 l.store l.invariant.2 r.result.got.«count» r.new.piece l.rows _ piece l.invariant.1 (search rules) r.result.answer _ failed r.ensures.1
          (sym c.is_full.ensures ∙ c.if-not-is_full.false) k.new.store k.ensures.1 k.ensures.0,
    )
