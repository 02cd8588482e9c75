-- The sum is below 2^40 and the base below 2^24, so with a digit added it stays below 2^64.
use Rattle.std.proofs.Common.{◌<◌}
use Rattle.desk_rows.proofs.summed.Given as goal

abbrev pub invariant-loop-digit : goal.invariant-loop-digit
invariant-loop-digit l = l.sum < 1099511627776
