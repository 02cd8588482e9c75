-- `board::Board::block` meets its contract: the answer of the tests says which way it goes, as the definition does.
-- Each way is one law of the answer.
use mathlib.Core.Path.{◌≡◌, refl, ap}
use mathlib.Core.Bool.{false≢true}
use Rattle.std.specs.Prelude.{Ok, Err, IsErr, IsErrAnd}
use Rattle.answer.specs.declared.Refusal.{Refusal}
use Rattle.answer.specs.Told.{Answer}
use Rattle.answer.proofs.Told.{refused}
use Rattle.board.proofs.Answers.{run_asked, done_is, refused_is}
use Rattle.board.proofs.Board.block.Goals as goal

same_err : (r : Answer) (e : Refusal) → IsErr r → IsErrAnd r (λ y. y ≡ e) → r ≡ Err e
same_err (Ok x) e bad same = absurd (false≢true bad)
same_err (Err y) e bad same = ap (λ (x : Refusal). Err x) same

pub run-requires : goal.run-requires
run-requires c =
    let a = c.args in
    run_asked a.self.now a.log.now a.rows.now (Ok tt) (rw c.in_ok-test_block.was at c.test_block.ensures) refl

pub returns-in_err-test_block : goal.returns-in_err-test_block
returns-in_err-test_block c =
    let a = c.args in
    let h = c.from_residual.ensures in
    let same = same_err _ c.in_err-test_block.field-0.0 h.0 h.1 in
    refused_is a.self.now a.log.now a.rows.now _ (rw same (rw c.in_err-test_block.was at c.test_block.ensures)) (rw same (refused _))

pub returns : goal.returns
returns c =
    let a = c.args in
    let e = c.run.ensures in
    done_is a.self.now a.log.now a.rows.now (Ok tt) (rw c.in_ok-test_block.was at c.test_block.ensures) _ _ refl e.0 e.1
