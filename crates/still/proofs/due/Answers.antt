-- `still::due` meets its contract: its tests are those of the definition.
-- By the three ways out.
use mathlib.Core.Path.{sym, ◌∙◌}
use Rattle.still.proofs.Passing.{due_moving, due_plain, due_dated}
use Rattle.still.proofs.due.Goals as goal

pub returns-then-not-still : goal.returns-then-not-still
returns-then-not-still c = due_moving _ _ _ _ c.if-not-still.true

pub returns-then-is_plain_number : goal.returns-then-is_plain_number
returns-then-is_plain_number c = due_plain _ _ _ _ c.if-not-still.false (sym c.is_plain_number.ensures ∙ c.if-is_plain_number.true)

pub returns-else-is_plain_number : goal.returns-else-is_plain_number
returns-else-is_plain_number c = due_dated _ _ _ _ c.if-not-still.false (sym c.is_plain_number.ensures ∙ c.if-is_plain_number.false)
