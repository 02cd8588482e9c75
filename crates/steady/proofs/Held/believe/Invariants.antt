-- `steady::Held::believe` meets its contract: a loop believes the bytes in order, each in its place.
-- The first k places hold the believed codes already, the others those that came in.
use mathlib.Core.Path.{◌≡◌}
use Rattle.laws.proofs.Over.{over}
use Rattle.steady.specs.Steady.{believed_of}
use Rattle.steady.proofs.Held.believe.Given as goal

abbrev pub invariant-loop-k : goal.invariant-loop-k
invariant-loop-k l =
    (l.self.carried ≡ l.initial.self.carried) × (l.self.believed ≡ over l.k (believed_of l.initial.self.carried l.initial.self.believed l.codes) l.initial.self.believed)
