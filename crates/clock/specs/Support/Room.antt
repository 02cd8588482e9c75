-- What keeps the clock's and the turn's arithmetic from wrapping: a sound board has it with room to spare.
use Rattle.std.specs.Prelude.{ℕ, ◌<◌, ◌≤◌, ◌^◌, List, get_or}
use Rattle.clock.specs.declared.Clock.{Clock}

pub record ClockRoom (c : Clock) : Type 0 where
  pub crossings : c.crossings < 2 ^ 41
  pub next : c.next < 2 ^ 31
  pub orbits : c.orbits < 2 ^ 41
  pub errors : c.errors < 2 ^ 41

-- slots are at most 255 tens of orbits
pub record SlotRoom (slots : List ℕ) : Type 0 where
  pub most : (k : ℕ) → get_or slots k 0 ≤ 255
