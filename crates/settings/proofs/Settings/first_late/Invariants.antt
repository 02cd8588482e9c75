-- `settings::Settings::first_late` meets its contract: a loop that stops at the first controller whose numbers are not all below the orbit.
-- The laws of `first_not`, with what the calls ensure.
use mathlib.Core.Path.{◌≡◌}
use mathlib.Core.Bool.{Bool}
use Prim.Native.Nat.{ℕ, ◌-◌}
use Rattle.laws.specs.Base.{first_not}
use Rattle.settings.specs.declared.Settings.{Settings}
use Rattle.settings.specs.Names.{orbit_of, times_of}
use Rattle.settings.specs.Relations.{below}
use Rattle.settings.proofs.Settings.first_late.Given as goal

abbrev pub in_time : Settings → ℕ → Bool
in_time s k = below (orbit_of s) (times_of s k)

abbrev pub invariant-loop-k : goal.invariant-loop-k
invariant-loop-k l = first_not (in_time l.self) 8 0 ≡ first_not (in_time l.self) (8 - l.k) l.k
