-- An answer as lines `key=number`: its number, what it carries, and for a log the block that is refused.
use Rattle.std.specs.Prelude.{ℕ, List, [], ◌∷◌, ◌++◌}
use Rattle.answer.specs.Told.{Told}
use Rattle.text.specs.Bytes.{bytes}
use Rattle.text.specs.Lines.{line_head, line_text}

-- a line `carries=` for each value, in the order of the table
unfoldable pub carries_text : List ℕ → List ℕ
carries_text [] = []
carries_text (v ∷ vs) = line_text (line_head (bytes "carries")) v ++ carries_text vs

-- the line `answer=`, 0 for a success, and the lines of what the answer carries
unfoldable pub answer_text : Told → List ℕ
answer_text t = line_text (line_head (bytes "answer")) t.number ++ carries_text t.carries

-- the line `block=`: how many blocks were run before the one that is refused
unfoldable pub block_text : ℕ → List ℕ
block_text n = line_text (line_head (bytes "block")) n
