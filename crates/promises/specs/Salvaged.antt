-- Document 02, P7: a block made of a salvaged log never gets RECORD.
use Rattle.std.specs.Prelude.{ℕ, ◌*◌, ◌≡◌, List, take, drop}
use Rattle.salvage.specs.Mending.{salvaged_log}
use Rattle.board.specs.declared.Board.{Board}
use Rattle.board.specs.Block.{block_of}

-- of any length, after any number of its records, over any board, into any rows
abbrev pub NeverIllFormed : Type 0
NeverIllFormed = (b : Board) (log : List ℕ) (before long : ℕ) (rows : List ℕ) → (block_of b (take long (drop (24 * before) (salvaged_log log))) rows).answer.number ≡ 7 → ⊥
