-- A block that was run over a board, whose rows lie at the front of a buffer: what following an input over it goes by.
use Rattle.std.specs.Prelude.{ℕ, ◌*◌, ◌<◌, ◌≡◌, true, List, length, take}
use Rattle.status.specs.Codes.{code_at}
use Rattle.records.specs.Refusal.{records_in, Ready}
use Rattle.board.specs.declared.Board.{Board}
use Rattle.board.specs.Sound.{sound_board}
use Rattle.board.specs.Run.{rows_of}
use Rattle.follower.specs.declared.Follower.{Follower}

pub record Through (b : Board) (log rows : List ℕ) : Type 0 where
  pub sound : sound_board b ≡ true
  pub ready : Ready b.clock.crossings log (length rows)
  pub laid : take (12 * records_in log) rows ≡ rows_of (records_in log) b log

-- a follower of input x that stands where the board does
pub record Tracks (x : ℕ) (b : Board) (f : Follower) : Type 0 where
  pub long : length b.held.believed ≡ 21
  pub clock : f.clock ≡ b.clock
  pub carried : f.carried ≡ code_at b.held.carried x
  pub believed : f.believed ≡ code_at b.held.believed x
  pub low : f.believed < 16
