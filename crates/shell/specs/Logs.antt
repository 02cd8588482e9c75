-- A log that was read from a file, one piece after the other: no contract can say which bytes those are.
use Rattle.std.specs.Prelude.{◌≡◌, List, ℕ}
use Rattle.answer.specs.Told.{Answer, told}
use Rattle.board.specs.declared.Board.{Board}
use Rattle.replay.specs.Printed.{replayed}

-- the answer to some log in blocks of 64 records
abbrev pub AnswerToSomeLog : Board → Answer → Type 0
AnswerToSomeLog b a = (log : List ℕ) × (told a ≡ (replayed b log).answer)

-- whatever was read, answer and board are those of some log in blocks of 64 records
abbrev pub OfSomeLog : Board → Answer → Board → Type 0
OfSomeLog b a after = (log : List ℕ) × (told a ≡ (replayed b log).answer) × (after ≡ (replayed b log).board)
