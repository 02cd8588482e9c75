-- `clock::Clock::ticked` meets its contract: each part of the clock is what its function answered.
-- No count is near its end, and a test counts at most 1.
use native.Mathlib.Omega.{arith}
use Rattle.laws.proofs.Bools.{one_le}
use Rattle.clock.proofs.Ticks.{number_le, ticked_is}
use Rattle.clock.proofs.Clock.ticked.Goals as goal

pub next_number-requires : goal.next_number-requires
next_number-requires c =
    omega (arith, c.number-number.ensures, number_le c.args.self c.args.marker, c.requires.next)

pub overflow_add-result-2 : goal.overflow_add-result-2
overflow_add-result-2 c =
    omega (arith, c.one.ensures, one_le c.ends_orbit-ends.result, c.requires.orbits)

pub overflow_add-result-3 : goal.overflow_add-result-3
overflow_add-result-3 c =
    omega (arith, c.one-2.ensures, one_le c.is_error.result, c.requires.errors)

pub returns : goal.returns
returns c =
    let a = c.args in
    ticked_is a.orbit a.self a.marker c.number-number.ensures c.ends_orbit-ends.ensures c.next_number.ensures
    c.one.ensures c.is_error.ensures c.one-2.ensures
