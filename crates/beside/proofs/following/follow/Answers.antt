-- `beside::follow` meets its contract: after i records the store is that of their changes, and the follower stands where the board does.
-- A turn is the law of a crossing or of a command (`Turns`).
use mathlib.Core.Path.{◌≡◌}
use mathlib.Core.Bool.{true, false}
use native.Mathlib.Omega.{arith}
use borrow.Author.Rules.{rules}
use borrow.Author.Tests.{eq-eqb, ne_eqb}
use lib.ListN.{length, length-drop}
use Rattle.std.proofs.lemmas.List.{take_rest}
use Rattle.laws.proofs.Tests.{mapped_long}
use Rattle.records.specs.Records.{rec_at, is_crossing}
use Rattle.records.specs.Refusal.{records_in}
use Rattle.beside.proofs.Turns.{stands_first, record_lent, long, gtfe, asked, command_stands, crossing_stands}
use Rattle.beside.proofs.following.follow.Goals.{then-record-eq0, else-record-eq0}
use Rattle.beside.proofs.following.follow.Goals as goal

pub loop-i-init : goal.loop-i-init
loop-i-init c =
    let words : length c.args.store.now.words ≡ 1024 = search rules in
    stands_first _ _ _ _ _ _ c.of-pen.ensures words c.requires.1 c.first-seen.ensures

pub code_at-code-requires : goal.code_at-code-requires
code_at-code-requires c =
    let ptcs : length c.args.board.ptcs ≡ 8 = search (rules, mapped_long) in
    let marks : length c.args.board.marks ≡ 32 = search rules in
    let log = c.args.log.now in
    let i = c.loop-i.i in
    let r = record_lent log i in
    let th = c.requires.0 in
    let h = c.loop-i-test.true in
    let cross : is_crossing (rec_at log i) ≡ true = eq-eqb _ 0 (rw r at c.if-record-eq0.true) in
    let whole = long _ _ _ th ptcs marks i h in
    rw (r, take_rest (rec_at log i) 3) (rw length-drop (omega (arith, whole)), gtfe _ _ _ th ptcs marks i h cross, c.requires.2)

pub crossed-requires : goal.crossed-requires
crossed-requires c =
    let ptcs : length c.args.board.ptcs ≡ 8 = search (rules, mapped_long) in
    let marks : length c.args.board.marks ≡ 32 = search rules in
    let a = asked _ _ _ c.requires.0 ptcs marks c.loop-i.i c.loop-i-test.true _ _ _ _ _ c.loop-i.invariant in
    (a.0, a.1, a.2, a.3, c.code_at-code.ensures.1)

pub loop-i-preserved : goal.loop-i-preserved
loop-i-preserved c =
    let ptcs : length c.args.board.ptcs ≡ 8 = search (rules, mapped_long) in
    let marks : length c.args.board.marks ≡ 32 = search rules in
    let log = c.args.log.now in
    let i = c.loop-i.i in
    let r = record_lent log i in
    let h = c.loop-i-test.true in
    elim c.if-record-eq0.branch [
      | then-record-eq0 w ↦
          let cross : is_crossing (rec_at log i) ≡ true = eq-eqb _ 0 (rw r at w.if-record-eq0.true) in
          let code = rw (r, take_rest (rec_at log i) 3) at w.code_at-code.ensures in
          let e = rw (r, c.orbit-orbit.ensures) at w.crossed.ensures in
          rw (w.store-is, w.pen-is, w.seen-is)
          (crossing_stands _ _ _ c.requires.0 ptcs marks i h _ _ _ _ _ c.loop-i.invariant cross c.requires.2 _ code.0 code.1 _ _ _ e.0 e.1 e.2)
      | else-record-eq0 w ↦
          let command : is_crossing (rec_at log i) ≡ false = ne_eqb _ 0 (rw r at w.if-record-eq0.false) in
          rw (w.store-is, w.pen-is, w.seen-is) (command_stands _ _ _ c.requires.0 ptcs marks i h _ _ _ _ _ c.loop-i.invariant command)
    ]

pub returns : goal.returns
returns c =
    let st = c.loop-i.invariant in
    let end : c.loop-i.i ≡ records_in c.args.log.now = omega (arith, st.most, c.loop-i-test.false) in
    (rw end at st.store, st.aligned.sound)
