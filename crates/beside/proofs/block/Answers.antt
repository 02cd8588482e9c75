-- `beside::block` meets its contract: its own refusals first, then what the block without a store gives, and the store that follows it.
-- Each way is one law of the answer.
use mathlib.Core.Path.{◌≡◌, refl, ap}
use mathlib.Core.Bool.{false≢true}
use Rattle.std.specs.Prelude.{Ok, Err, IsErr, IsErrAnd}
use Rattle.answer.specs.declared.Refusal.{Refusal}
use Rattle.answer.specs.Told.{Answer}
use Rattle.answer.proofs.Told.{refused}
use Rattle.beside.proofs.Answers.{allowed, refused_is, ran_is, run_through}
use borrow.Author.Rules.{rules}
use Rattle.beside.proofs.block.Goals as goal

same_err : (r : Answer) (e : Refusal) → IsErr r → IsErrAnd r (λ y. y ≡ e) → r ≡ Err e
same_err (Ok x) e bad same = absurd (false≢true bad)
same_err (Err y) e bad same = ap (λ (x : Refusal). Err x) same

pub returns-in_err-test : goal.returns-in_err-test
returns-in_err-test c =
    let a = c.args in
    let h = c.from_residual.ensures in
    let same = same_err _ c.in_err-test.field-0.0 h.0 h.1 in
    refused_is a.board.now a.store.now a.input _ (rw same (rw c.in_err-test.was at c.test.ensures)) a.log.now a.rows.now (rw same (refused _))

pub keep_if-requires : goal.keep_if-requires
keep_if-requires c =
    let a = c.args in
    let w = allowed a.board.now a.store.now a.input (Ok tt) (rw c.in_ok-test.was at c.test.ensures) refl in
    (run_through a.board.now a.log.now a.rows.now _ c.block-answer.result _ c.block-answer.ensures (search rules), w.0, w.1)

pub returns : goal.returns
returns c =
    let a = c.args in
    ran_is a.board.now a.store.now a.input (Ok tt) (rw c.in_ok-test.was at c.test.ensures) a.log.now a.rows.now refl c.block-answer.result _ _ c.keep_if.new.store
    c.block-answer.ensures c.keep_if.ensures.0
