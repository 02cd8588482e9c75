-- `steady::Held::believe` meets its contract: a loop believes the bytes in order, each in its place.
-- The first k places hold the believed codes already, the others those that came in.
use mathlib.Core.Path.{◌≡◌, refl, ◌∙◌}
use native.Mathlib.Omega.{arith}
use borrow.Author.Rules.{rules}
use lib.ListN.{length}
use Rattle.laws.proofs.Over.{over}
use Rattle.steady.proofs.Turn.{turn, done}
use Rattle.steady.proofs.Held.believe.Goals as goal

pub loop-k-init : goal.loop-k-init
unfolding over
loop-k-init c = (refl, refl)

pub loop-k-preserved : goal.loop-k-preserved
loop-k-preserved c =
    let i = c.loop-k.invariant in
    let long : length c.args.self.now.believed ≡ 21 = search rules in
    (i.0, turn c.args.self.now.carried c.args.self.now.believed c.args.codes.now long c.loop-k.k c.loop-k-test.true c.loop-k.self.believed _ i.1 (c.byte.ensures ∙ rw i.0))

pub returns : goal.returns
returns c =
    let end : c.loop-k.k ≡ 21 = omega arith in
    let long : length c.args.self.now.believed ≡ 21 = search rules in
    let i = c.loop-k.invariant in
    (done c.args.self.now.carried c.args.self.now.believed c.args.codes.now long c.loop-k.self.believed (rw end at i.1), i.0)
