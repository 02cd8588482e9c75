-- What ties the ring's words to document 01's marks: after a crossing its own mark is the newest, and every other lies one further back.
-- Above this no definition speaks of words, but by the mark so many crossings back.
use Rattle.std.specs.Prelude.{◌≡◌, List, ℕ, ◌+◌, ◌<◌, length}
use Rattle.throttle.specs.Marks.{passed, mark_back}

pub record Passes (ws : List ℕ) (n x : ℕ) : Type 0 where
  pub newest : mark_back (passed ws n x) (n + 1) 0 ≡ x
  pub older : (d : ℕ) → d < 2046 → mark_back (passed ws n x) (n + 1) (d + 1) ≡ mark_back ws n d

-- a ring of 32 words, n crossings done, and the mark x of the next
abbrev pub Marking : Type 0
Marking = (ws : List ℕ) (n x : ℕ) → length ws ≡ 32 → x < 2 → Passes ws n x
