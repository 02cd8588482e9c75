-- `settings::Settings::first_disordered` meets its contract: a loop that stops at the first controller whose cycle is out of order.
-- The laws of `first_not`, with what the two calls ensure.
use mathlib.Core.Path.{◌≡◌}
use mathlib.Core.Bool.{Bool}
use Prim.Native.Nat.{ℕ, ◌-◌}
use Rattle.laws.specs.Base.{first_not}
use Rattle.settings.specs.declared.Settings.{Settings}
use Rattle.settings.specs.Names.{schedule_of}
use Rattle.settings.specs.Relations.{cycle_in_order}
use Rattle.settings.proofs.Settings.first_disordered.Given as goal

abbrev pub ordered : Settings → ℕ → Bool
ordered s k = cycle_in_order (schedule_of s k)

abbrev pub invariant-loop-k : goal.invariant-loop-k
invariant-loop-k l = first_not (ordered l.self) 8 0 ≡ first_not (ordered l.self) (8 - l.k) l.k
