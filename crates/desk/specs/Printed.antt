-- What `desk` prints of files that it has read: no contract can say which bytes they hold, but that is decided by them.
use Rattle.std.specs.Prelude.{◌≡◌, List, ℕ}
use Rattle.answer.specs.Told.{DONE}
use Rattle.board.specs.declared.Board.{Board}
use Rattle.replay.specs.Replay.{opened_of}
use Rattle.replay.specs.Printed.{printed_of}
use Rattle.pieces.specs.Printing.{outcome_of}

-- the closing board of some text and some log, both accepted
pub record Closing (b : Board) : Type 0 where
  pub text : List ℕ
  pub log : List ℕ
  pub opens : (opened_of text).answer ≡ DONE
  pub through : (outcome_of text log).answer ≡ DONE
  pub is : b ≡ (outcome_of text log).board

-- what is printed for some text and some log
pub record OfSomeFiles (bytes : List ℕ) : Type 0 where
  pub text : List ℕ
  pub log : List ℕ
  pub are : bytes ≡ printed_of text log
