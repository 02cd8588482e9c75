-- `settings::relations::stamp_all` meets its contract: the table has the stamp at those numbers that stand after place i.
-- A turn is the law of one number more; one with the stamp already stands twice.
use mathlib.Core.Path.{◌≡◌}
use lib.ListN.{length, drop}
use Rattle.settings.specs.Support.Stamps.{places}
use Rattle.settings.proofs.Stamps.{Stamped}
use Rattle.settings.proofs.relations.stamp_all.Given as goal

abbrev pub invariant-loop-i : goal.invariant-loop-i
invariant-loop-i l = (length l.seen ≡ places) × Stamped l.stamp l.seen (drop l.i l.times)
