-- `settings::Settings::first_out` meets its contract: the ranges that are left decide as all do.
-- A turn is the law of one line; the first value out of range ends the loop with its line.
use mathlib.Core.Path.{◌≡◌}
use Prim.Native.Nat.{◌+◌}
use lib.ListN.{drop}
use Rattle.text.specs.Lines.{ranges_of, first_out}
use Rattle.keys.specs.Settings.{value_lines}
use Rattle.settings.proofs.Settings.first_out.Given as goal

abbrev pub invariant-loop-n : goal.invariant-loop-n
invariant-loop-n l = first_out (ranges_of value_lines) 2 l.self.values ≡ first_out (drop l.n (ranges_of value_lines)) (l.n + 2) (drop l.n l.self.values)
