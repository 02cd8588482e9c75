-- Document 01, "One crossing, in order", step 1: the crossing's number, and the clock after it.
use Rattle.std.specs.Prelude.{ℕ, ◌+◌, Bool, not, ◌&&◌, leb, ltb, eqb}
use Rattle.laws.specs.Base.{if, one}
use Rattle.clock.specs.declared.Clock.{Clock}

-- a marker makes this crossing 0; else it is the one that was expected
abbrev pub number_of : Clock → Bool → ℕ
number_of c marker = if marker 0 c.next

-- a number 0, but on the very first crossing
abbrev pub orbit_ends : Clock → Bool → Bool
orbit_ends c marker = eqb (number_of c marker) 0 && ltb 0 c.crossings

-- after orbit - 1 comes 0
abbrev pub next_of : (orbit number : ℕ) → ℕ
next_of orbit number = if (ltb (number + 1) orbit) (number + 1) 0

-- if the marker came where another was expected, bc_errors grows by 1; at a number 0 the orbit count grows
unfoldable pub ticked_of : (orbit : ℕ) (c : Clock) (marker : Bool) → Clock
ticked_of orbit c marker = record {
  crossings = c.crossings + 1;
  next = next_of orbit (number_of c marker);
  orbits = c.orbits + one (orbit_ends c marker);
  errors = c.errors + one (marker && not (eqb c.next 0));
}

-- a fresh board expects 0
abbrev pub fresh_clock : Clock
fresh_clock = record { crossings = 0; next = 0; orbits = 0; errors = 0 }

-- crossings done ≤ most; next number below orbit; both counts ≤ crossings done
unfoldable pub sound_clock : (most orbit : ℕ) (c : Clock) → Bool
sound_clock most orbit c = leb c.crossings most && (ltb c.next orbit && (leb c.orbits c.crossings && leb c.errors c.crossings))
