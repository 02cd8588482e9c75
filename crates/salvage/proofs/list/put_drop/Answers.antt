-- `salvage::put_drop` meets its contract: the place, and behind it `now=drop`.
-- By the widths of its numbers the place has at most 43 bytes, since `byte=0` is one digit.
use native.Mathlib.Omega.{arith}
use Rattle.text.specs.Bytes.{bytes}
use Rattle.salvage.specs.Changes.{change_text}
use Rattle.salvage.proofs.Laws.{laid_on, drop_place_most}
use Rattle.salvage.proofs.list.put_drop.Goals as goal

pub returns-clause-laid : goal.returns-clause-laid
unfolding bytes change_text
returns-clause-laid c =
    let place_fits = drop_place_most c.args.number c.args.was (omega (arith, c.ranges)) (omega (arith, c.ranges)) in
    laid_on _ _ _ _ _ _ _ _ (omega (arith, c.requires, place_fits)) c.put_place-now_at.ensures c.put_bytes.ensures
