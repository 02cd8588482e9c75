-- A well-formed record passes unchanged at its place in any log, whatever stands before and behind it.
-- The log is three pieces, and the record is a log of its own.
use mathlib.Core.Path.{◌≡◌, ◌∙◌}
use mathlib.Core.List.{◌++◌}
use Prim.Native.Nat.{ℕ, ◌+◌, ◌/◌, ◌%◌}
use native.Mathlib.Omega.{arith}
use lib.ListN.{length}
use Rattle.faithful.specs.Faithful.{RecordPasses}
use Rattle.faithful.proofs.Passing.{log_passes}
use Rattle.faithful.proofs.Joining.{joined}
use Rattle.faithful.proofs.Forming.{one_formed}

pub record_passes : RecordPasses
record_passes first a rec b between long w =
    let whole : length rec % 24 ≡ 0 = omega arith in
    let next : ℕ = first + length a / 24 in
    let outer = joined first a (rec ++ b) (λ h. between) in
    let inner = joined next rec b (λ h. whole) in
    let alone = log_passes next rec (one_formed rec long w) in
    let one : next + length rec / 24 ≡ next + 1 = omega arith in
    record {
      log = outer.0 ∙ rw (inner.0, alone.0);
      list = outer.1 ∙ rw (inner.1, alone.1, one);
    }
