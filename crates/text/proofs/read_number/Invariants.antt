-- `text::read_number` meets its contract: the digits that are left to read decide as the whole does.
-- Each way out is one law of `number` or `more`; the value stays below the power of ten that the digits read allow.
use mathlib.Core.Path.{◌≡◌}
use Prim.Native.Nat.{◌-◌, ◌<◌, ◌^◌}
use lib.ListN.{drop}
use Rattle.text.specs.Number.{more, number}
use Rattle.text.proofs.read_number.Given as goal

abbrev pub invariant-loop-i : goal.invariant-loop-i
invariant-loop-i l = (l.left < 8) × (l.v < 10 ^ (8 - l.left)) × (more l.left l.v (drop l.i l.text) ≡ number l.digits (drop l.at l.text))
