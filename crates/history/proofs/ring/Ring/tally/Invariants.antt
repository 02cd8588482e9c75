-- `history::Ring::tally` meets its contract: what is left of the words, scanned from here, is what all of them are from the start.
-- A turn takes one word off the list that is left.
use Rattle.std.proofs.Common.{◌≡◌, ◌+◌, length}
use Rattle.history.specs.Scan.{start, scanned, read}
use Rattle.history.specs.Support.Ring.{in_use}
use Rattle.history.proofs.ring.Ring.tally.Given as goal

abbrev pub invariant-loop-word : goal.invariant-loop-word
invariant-loop-word l =
    (goal.iterator-loop-word).can_next l.word-iterator
    × (goal.iterator-loop-word).is_finite l.word-iterator
    × (scanned start (in_use l.fn.self) ≡ scanned l.scan (in_use l.word-iterator))
    × (length (read start (in_use l.fn.self)) ≡ l.changes + length (read l.scan (in_use l.word-iterator)))
