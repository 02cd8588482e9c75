-- The clock put together from its parts' answers is what the definition says, and no number is above the one expected.
-- Each answer is replaced by its definition, the last one first.
use mathlib.Core.Path.{◌≡◌}
use mathlib.Core.Bool.{Bool, true, false, not, ◌&&◌}
use Prim.Native.Nat.{ℕ, ◌+◌, ◌≤◌}
use native.Mathlib.Omega.{arith}
use lib.Dec.{eqb}
use Rattle.laws.specs.Base.{one}
use Rattle.clock.specs.declared.Clock.{Clock}
use Rattle.clock.specs.Clock.{number_of, orbit_ends, next_of, ticked_of}

pub number_le : (c : Clock) (marker : Bool) → number_of c marker ≤ c.next
number_le c true = omega arith
number_le c false = omega arith

pub ticked_is : (per : ℕ) (c : Clock) (marker : Bool) {number next ended missed : ℕ} {last wrong : Bool}
    → number ≡ number_of c marker → last ≡ orbit_ends c marker → next ≡ next_of per number → ended ≡ one last
    → wrong ≡ (marker && not (eqb c.next 0)) → missed ≡ one wrong
    → ◌≡◌ {A = Clock} (record { crossings = c.crossings + 1; next = next; orbits = c.orbits + ended; errors = c.errors + missed }) (ticked_of per c marker)
unfolding ticked_of
ticked_is per c marker numbers lasts nexts adds errs counts = rw (counts, errs, adds, nexts, lasts, numbers)
