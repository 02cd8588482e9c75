-- `salvage::put_mend` meets its contract: a byte that stays has no entry, another's is the place, and behind it the new value.
-- By the widths of its numbers the entry has at most 44 and 8 bytes.
use mathlib.Core.Path.{sym, ◌∙◌}
use native.Mathlib.Omega.{arith}
use borrow.Author.Tests.{eq-eqb, ne_eqb}
use Rattle.text.specs.Bytes.{bytes}
use Rattle.salvage.specs.Changes.{change_text, list_text}
use Rattle.salvage.proofs.Laws.{laid_none, laid_on, text_one, byte_same, byte_other, place_most}
use Rattle.salvage.proofs.list.put_mend.Goals as goal

pub returns-then-becomes-was-clause-laid : goal.returns-then-becomes-was-clause-laid
unfolding list_text
returns-then-becomes-was-clause-laid c =
    let a = c.args in
    rw (byte_same a.number a.kind a.k a.was (eq-eqb _ _ (sym c.mend-becomes.ensures ∙ c.if-becomes-was.true))) (laid_none a.list.now a.at)

pub returns-clause-laid : goal.returns-clause-laid
unfolding bytes change_text
returns-clause-laid c =
    let a = c.args in
    let m = c.mend-becomes.ensures in
    let other = byte_other a.number a.kind a.k a.was (ne_eqb _ _ (λ h. c.if-becomes-was.false (m ∙ h))) in
    let place_fits = place_most a.number a.k a.was (omega (arith, c.ranges)) c.requires.inside (omega (arith, c.ranges)) in
    rw (other, text_one, ← m, ← c.from.ensures) (laid_on _ _ _ _ _ _ _ _ (omega (arith, c.requires.room, place_fits)) c.put_place-now_at.ensures c.put_line.ensures)
