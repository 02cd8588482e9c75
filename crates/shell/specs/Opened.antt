-- The board of a text that was read from a file: no contract can say which bytes those are.
use Rattle.std.specs.Prelude.{◌≡◌, List, ℕ}
use Rattle.board.specs.declared.Made.{Made}
use Rattle.board.specs.Fresh.{made_out}
use Rattle.replay.specs.Replay.{opened_of}

-- whatever was read, it is what some text opens
abbrev pub OfSomeText : Made → Type 0
OfSomeText m = (text : List ℕ) × (made_out m ≡ opened_of text)
