-- A sound clock is within the life of a board.
-- It is the first of its four tests.
use mathlib.Core.Path.{◌≡◌}
use mathlib.Core.Bool.{true}
use Prim.Native.Nat.{ℕ, ◌≤◌}
use borrow.Author.Tests.{leb-true}
use lib.Dec.{leb}
use Rattle.laws.proofs.Bools.{both}
use Rattle.clock.specs.declared.Clock.{Clock}
use Rattle.clock.specs.Clock.{sound_clock}
use Rattle.records.specs.Refusal.{LIFETIME}

pub within_life : (orbit : ℕ) (c : Clock) → sound_clock LIFETIME orbit c ≡ true → c.crossings ≤ LIFETIME
unfolding sound_clock
within_life orbit c e = leb-true _ _ (both (leb c.crossings LIFETIME) _ e).0
