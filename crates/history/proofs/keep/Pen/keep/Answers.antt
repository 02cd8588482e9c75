-- `history::Pen::keep` meets its contract: the change's word lies under the last header, or behind a header of its own.
-- What the calls of each branch leave is what the laws of `Pens` take.
use Rattle.std.proofs.Common.{sym, ◌∙◌}
use Rattle.history.proofs.Pens.{kept_under, kept_own}
use Rattle.history.proofs.keep.Pen.keep.Goals.{then-is_under, else-is_under}
use Rattle.history.proofs.keep.Pen.keep.Goals as goal

pub returns : goal.returns
returns c =
    elim c.if-is_under.branch [
      | then-is_under w ↦ kept_under _ _ _ c.requires.0 c.requires.1 _ _ (sym c.is_under.ensures ∙ w.if-is_under.true) (cc) (cc)
      | else-is_under w ↦ kept_own _ _ _ c.requires.0 c.requires.1 _ _ (sym c.is_under.ensures ∙ w.if-is_under.false) (cc) (cc)
    ]
