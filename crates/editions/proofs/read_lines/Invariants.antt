-- `editions::read_lines` meets its contract: the lines that are left decide as the whole text does.
-- Each turn and each way out is one law of the reading loop; the line's answer gives the number and the next place.
use Prim.Native.Nat.{◌≤◌}
use lib.ListN.{length}
use Rattle.editions.proofs.Reading.{Before}
use Rattle.editions.proofs.read_lines.Given as goal

abbrev pub invariant-loop-n : goal.invariant-loop-n
invariant-loop-n l = (l.at ≤ length l.text) × Before l.edition l.numbers l.text l.at l.n-counter
