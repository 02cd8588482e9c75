-- `still::asks` meets its contract: the request decides, or else the cycle.
-- By the two ways out.
use mathlib.Core.Path.{sym, ◌∙◌}
use mathlib.Core.Bool.{Bool, true, false, ◌||◌}
use mathlib.Core.Path.{◌≡◌}
use Rattle.still.proofs.asks.Goals as goal

asked_or : (a b : Bool) → a ≡ true → true ≡ (a || b)
asked_or a b e = rw e

cycle_or : (a b : Bool) → a ≡ false → b ≡ (a || b)
cycle_or a b e = rw e

pub returns-then-asked : goal.returns-then-asked
returns-then-asked c = c.if-asked.true ∙ asked_or _ _ (sym c.asked.ensures ∙ c.if-asked.true)

pub returns-else-asked : goal.returns-else-asked
returns-else-asked c = cycle_or _ _ (sym c.asked.ensures ∙ c.if-asked.false)
