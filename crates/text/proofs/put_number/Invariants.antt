-- `text::put_number` meets its contract: the digits that are left, laid from the same place, make what the whole number makes.
-- A turn lays the last digit of what is left.
use mathlib.Core.Path.{◌≡◌}
use Prim.Native.Nat.{◌-◌}
use lib.ListN.{length}
use Rattle.text.specs.Bytes.{put}
use Rattle.text.specs.Decimal.{decimal}
use Rattle.text.proofs.Decimal.{last_digits}
use Rattle.text.proofs.put_number.Given as goal

abbrev pub invariant-loop-p : goal.invariant-loop-p
invariant-loop-p l = (length l.out ≡ length l.initial.out) × (put l.out l.at (last_digits (l.p - l.at) l.rest) ≡ put l.initial.out l.at (decimal l.n))
