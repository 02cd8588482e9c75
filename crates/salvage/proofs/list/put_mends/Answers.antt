-- `salvage::put_mends` meets its contract: after k turns the entries of the first k bytes are laid, none longer than 52 bytes.
-- A turn is one byte more (`bytes_next`).
use native.Mathlib.Omega.{arith}
use Rattle.salvage.specs.Changes.{changes_to, list_text}
use Rattle.salvage.proofs.Laws.{laid_none, laid_on, bytes_next}
use Rattle.salvage.proofs.list.put_mends.Goals as goal

pub loop-k-init : goal.loop-k-init
unfolding changes_to list_text
loop-k-init c = (laid_none _ _, omega arith)

pub loop-k-preserved : goal.loop-k-preserved
loop-k-preserved c =
    let l = c.loop-k in
    let e = c.put_mend-at.ensures in (
      rw (bytes_next l.k c.args.number c.args.rec.now) (laid_on _ _ _ _ _ _ _ _ (omega (arith, l.invariant.0.0, l.invariant.1, c.requires.room)) l.invariant.0 e.laid),
      omega (arith, e.short, l.invariant.1),
    )
