-- `clock::Clock::is_sound` meets its contract: each early return is a part of the conjunction that fails.
-- Past them the last part decides.
use Rattle.laws.proofs.Tests.{tests}
use Rattle.clock.specs.Clock.{sound_clock}
use Rattle.clock.proofs.Clock.is_sound.Goals as goal

pub returns-then-most-self : goal.returns-then-most-self
unfolding sound_clock
returns-then-most-self c = search tests

pub returns-then-orbit-self : goal.returns-then-orbit-self
unfolding sound_clock
returns-then-orbit-self c = search tests

pub returns-then-self : goal.returns-then-self
unfolding sound_clock
returns-then-self c = search tests

pub returns : goal.returns
unfolding sound_clock
returns c = search tests
