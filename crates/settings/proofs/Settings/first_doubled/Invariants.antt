-- `settings::Settings::first_doubled` meets its contract: a loop that stops at the first controller with a number twice.
-- The laws of `first_not`; before controller k no stamp is above k, so none has its own, which is one more.
use mathlib.Core.Path.{◌≡◌}
use mathlib.Core.Bool.{Bool}
use Prim.Native.Nat.{ℕ, ◌+◌, ◌-◌}
use lib.ListN.{length}
use Rattle.laws.specs.Base.{first_not}
use Rattle.settings.specs.declared.Settings.{Settings}
use Rattle.settings.specs.Names.{times_of}
use Rattle.settings.specs.Relations.{distinct}
use Rattle.settings.specs.Support.Stamps.{places, Lower}
use Rattle.settings.proofs.Settings.first_doubled.Given as goal

abbrev pub apart : Settings → ℕ → Bool
apart s k = distinct (times_of s k)

abbrev pub invariant-loop-k : goal.invariant-loop-k
invariant-loop-k l = (length l.seen ≡ places) × Lower (l.k + 1) l.seen × (first_not (apart l.self) 8 0 ≡ first_not (apart l.self) (8 - l.k) l.k)
