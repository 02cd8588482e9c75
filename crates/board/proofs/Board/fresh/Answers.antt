-- `board::Board::fresh` meets its contract: the check's answer, and the board of these settings or of the standard ones.
-- Whether the answer is Ok says which way the definition goes; the standard settings pass the check.
use mathlib.Core.Path.{◌≡◌, sym, ap, ◌∙◌}
use mathlib.Core.Bool.{Bool}
use Rattle.std.specs.Prelude.{is_ok}
use Rattle.answer.specs.Told.{Answer, told, succeeded}
use Rattle.answer.proofs.Told.{is_ok_told}
use Rattle.settings.specs.declared.Settings.{Settings}
use Rattle.settings.specs.Check.{checked}
use Rattle.settings.proofs.Passed.{done_checks}
use Rattle.settings.proofs.Standard.{standard_checks}
use Rattle.board.specs.Fresh.{fresh_of}
use Rattle.board.proofs.Board.fresh.Goals as goal

passes : (s : Settings) (a : Answer) (b t : Bool) → told a ≡ checked s → b ≡ is_ok a → b ≡ t → succeeded (checked s) ≡ t
passes s a b t is e test = ap succeeded (sym is) ∙ sym (is_ok_told a) ∙ sym e ∙ test

pub from_checked-requires : goal.from_checked-requires
from_checked-requires c = done_checks _ (passes _ _ _ _ c.check-answer.ensures c.is_ok.ensures.value c.if-is_ok.true)

pub returns-then-is_ok : goal.returns-then-is_ok
unfolding fresh_of
returns-then-is_ok c =
    rw (c.from_checked.ensures, c.check-answer.ensures, passes _ _ _ _ c.check-answer.ensures c.is_ok.ensures.value c.if-is_ok.true)

pub from_checked-requires-2 : goal.from_checked-requires-2
from_checked-requires-2 c = rw c.standard.ensures standard_checks

pub returns : goal.returns
unfolding fresh_of
returns c =
    rw (c.from_checked-2.ensures, c.standard.ensures, c.check-answer.ensures, passes _ _ _ _ c.check-answer.ensures c.is_ok.ensures.value c.if-is_ok.false)
