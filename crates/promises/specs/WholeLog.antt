-- Demand 3 in one claim, about what the caller has in hand: the rows that the blocks gave one after the other, and the board that the
-- last one handed back.
use Rattle.std.specs.Prelude.{ℕ, ◌≤◌, ◌<◌, ◌≡◌, true, List}
use Rattle.answer.specs.Told.{DONE}
use Rattle.settings.specs.declared.Settings.{Settings}
use Rattle.settings.specs.Check.{checked}
use Rattle.records.specs.Refusal.{records_in}
use Rattle.board.specs.declared.Board.{Board}
use Rattle.board.specs.Fresh.{fresh_board}
use Rattle.board.specs.Block.{block_of}
use Rattle.daybook.specs.Whole.{Crossing}
use Rattle.cut.specs.Blocks.{Lent, AllFit, uncut, Outcome, in_turn, at_once}
use Rattle.owner.specs.Owned.{Owned}
use Rattle.windows.specs.Windows.{Throttled, rule_at, crossing_rows}
use Rattle.balance.specs.Exact.{Exact}
use Rattle.balance.specs.Balanced.{Balanced, Reported}
use Rattle.balance.specs.Tuning.{Tuning}

-- of a log's rows and closing board, whatever they came from: each trigger is its owner's, no stretch holds too many, each request is
-- sent or lost for a cause that holds, the counts are those of the records and rows, the report shows them, and a request that was lost to
-- a rule would have been within the rules before it
pub record Promised (s : Settings) (log rows : List ℕ) (closing : Board) : Type 0 where
  pub owned : Owned s log rows
  pub throttled : (r : ℕ) → r < 4 → Throttled (rule_at s r) (crossing_rows log rows (records_in log))
  pub exact : (k : ℕ) → k < 8 → (i : ℕ) → Crossing log i → Exact s log rows k i
  pub balanced : (k : ℕ) → k < 8 → Balanced s log rows closing k
  pub reported : Reported s log rows closing
  pub tuned : (k : ℕ) → k < 8 → (i : ℕ) → Crossing log i → (r : ℕ) → 1 ≤ r → r ≤ 4 → Tuning s log rows k i r

-- what the blocks give over the fresh board
abbrev pub given : Settings → List Lent → Outcome
given s blocks = in_turn (fresh_board s) blocks

-- each block is accepted, rows and closing board are the uncut log's, and all of the above holds of them
pub record WholeLog (s : Settings) (blocks : List Lent) (buffer : List ℕ) : Type 0 where
  pub accepted : (given s blocks).accepted ≡ true
  pub same : given s blocks ≡ at_once (fresh_board s) (uncut blocks) buffer
  pub kept : Promised s (uncut blocks) (given s blocks).rows (given s blocks).closing

-- settings that pass the checks, any blocks that fit, and the uncut log accepted in some buffer
abbrev pub WholeLogs : Type 0
WholeLogs =
    (s : Settings) (blocks : List Lent) (buffer : List ℕ)
    → checked s ≡ DONE
    → AllFit blocks
    → (block_of (fresh_board s) (uncut blocks) buffer).answer ≡ DONE
    → WholeLog s blocks buffer
