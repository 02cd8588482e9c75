-- `history::Store::put_changes` meets its contract: the changes that are left, laid from here, make what all of them make.
-- A turn lays what one word has; at the end nothing is left to lay.
use Rattle.std.proofs.Common.{◌≡◌, ◌+◌, ◌≤◌, length}
use Rattle.text.specs.Bytes.{put}
use Rattle.history.specs.Scan.{read}
use Rattle.history.specs.Read.{bytes_of_all, read_bytes}
use Rattle.history.specs.Support.Ring.{in_use}
use Rattle.history.proofs.Store.put_changes.Given as goal

abbrev pub invariant-loop-word : goal.invariant-loop-word
invariant-loop-word l =
    (goal.iterator-loop-word).can_next l.word-iterator
    × (goal.iterator-loop-word).is_finite l.word-iterator
    × (length l.out ≡ length l.initial.out)
    × (l.at + length (bytes_of_all (read l.scan (in_use l.word-iterator))) ≤ length l.out)
    × (put l.out l.at (bytes_of_all (read l.scan (in_use l.word-iterator))) ≡ put l.initial.out 0 (read_bytes l.self))
