-- Behind the first bytes stand their spaces and the number that is read so far.
use Rattle.std.proofs.Common.{◌≡◌, ◌≤◌}
use Rattle.cases.specs.Words.{spaces_in, number_in}
use Rattle.cases.proofs.line.number.Given as goal

abbrev pub invariant-loop-b : goal.invariant-loop-b
invariant-loop-b l = (l.spaces ≤ l.b-index) × (l.spaces ≡ spaces_in l.b-index l.line) × (l.value ≡ number_in l.skip l.line l.b-index)
