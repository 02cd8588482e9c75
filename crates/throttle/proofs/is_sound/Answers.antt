-- The closure tests one place by its distance from the first.
-- A test of all distances is a test of all places.
use Rattle.std.proofs.Common.{refl, ◌∙◌, ◌+◌, ◌-◌, eqb, arith, rules, tests}
use Rattle.std.proofs.lemmas.Iterator.{YieldsList-from_range}
use Rattle.std.proofs.lemmas.Iterator.Search.{all_from_yields_List}
use Rattle.throttle.specs.Marks.{mark_at}
use Rattle.throttle.proofs.Sound.{sound_all}
use Rattle.throttle.proofs.is_sound.Goals as goal

pub returns : goal.returns
returns c =
    let ws = c.args.marks.now in
    let n = c.args.n in
    all_from_yields_List (λ d. eqb (mark_at ws (n + d)) 0) _ _ _ c.all.ensures.ran (YieldsList-from_range 0 (2048 - c.min.result) (2048 - c.min.result) refl (omega arith)) (λ x b q k. search (rules, tests))
    ∙ sound_all ws n c.min.result c.min.ensures
