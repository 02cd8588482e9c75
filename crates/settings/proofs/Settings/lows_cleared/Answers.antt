-- `settings::Settings::lows_cleared` meets its contract: 0 is written at the places of the three low limits.
-- The three writes are the list of places, opened.
use mathlib.Core.Path.{refl}
use Rattle.settings.specs.Lows.{cleared, lows_cleared}
use Rattle.settings.proofs.Settings.lows_cleared.Goals as goal

pub returns : goal.returns
unfolding cleared lows_cleared
returns c = refl
