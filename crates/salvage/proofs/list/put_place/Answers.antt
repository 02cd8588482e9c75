-- `salvage::put_place` meets its contract: the three lines are laid one after the other.
-- What is laid behind what was laid before makes one text (`laid_on`).
use native.Mathlib.Omega.{arith}
use Rattle.text.specs.Bytes.{bytes}
use Rattle.salvage.specs.Changes.{place_text}
use Rattle.salvage.proofs.Laws.{laid_on, place_parts}
use Rattle.salvage.proofs.list.put_place.Goals as goal

pub returns : goal.returns
unfolding bytes place_text
returns c =
    let a = c.args in
    let parts = place_parts a.number a.byte a.was in
    let last = laid_on _ _ _ _ _ _ _ _ (omega (arith, c.requires, parts, c.put_line-byte_at.ensures.0, c.put_line-byte_at.auto.out)) c.put_line-was_at.ensures c.put_line.ensures in
    rw (← c.from.ensures) (laid_on _ _ _ _ _ _ _ _ (omega (arith, c.requires, parts)) c.put_line-byte_at.ensures last)
