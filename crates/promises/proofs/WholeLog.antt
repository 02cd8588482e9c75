-- Demand 3 of the blocks' own rows and closing board: they are those of the log run whole into a buffer of just its rows' length.
-- The cut gives the first equation, an accepted block's outcome the second; then each promise is carried over by it.
use mathlib.Core.Path.{◌≡◌, sym, ap, ◌∙◌}
use mathlib.Core.Bool.{true}
use mathlib.Core.List.{List, [], ◌++◌, append-nil}
use Prim.Native.Nat.{ℕ, ◌*◌, ◌≤◌}
use native.Mathlib.Omega.{arith}
use lib.ListN.{length, drop, replicate, length-replicate, drop_of_length-le}
use Rattle.answer.specs.Told.{DONE}
use Rattle.settings.specs.declared.Settings.{Settings}
use Rattle.settings.specs.Check.{checked}
use Rattle.records.specs.Refusal.{records_in, Ready}
use Rattle.board.specs.declared.Board.{Board}
use Rattle.board.specs.Fresh.{fresh_board}
use Rattle.board.specs.Block.{block_of}
use Rattle.board.specs.Run.{ran, rows_of}
use Rattle.board.proofs.Answers.{block_ready, block_answer, block_done}
use Rattle.board.proofs.Keeps.{fresh_fit, fresh_sound}
use Rattle.daybook.specs.Whole.{Taken, whole}
use Rattle.daybook.proofs.Ground.{ground}
use Rattle.cut.specs.Blocks.{Lent, AllFit, uncut, Outcome, at_once}
use Rattle.cut.proofs.Cut.{cut}
use Rattle.cut.proofs.Accepted.{accepts, rows_taken}
use Rattle.owner.proofs.Owner.{owner}
use Rattle.windows.proofs.Windows.{windows}
use Rattle.balance.proofs.Exact.{exact}
use Rattle.balance.proofs.Balance.{balance}
use Rattle.balance.proofs.Tuning.{tuning}
use Rattle.promises.specs.WholeLog.{Promised, given, WholeLogs}

-- the promises of a log that was run whole
kept_whole : {s : Settings} {log buffer : List ℕ} → Taken s log buffer → Promised s log (whole s log buffer).rows (whole s log buffer).board
kept_whole {s} {log} {buffer} t =
    record {
      owned = owner s log buffer t;
      throttled = windows s log buffer t;
      exact = exact s log buffer t;
      balanced = (balance s log buffer t).each;
      reported = (balance s log buffer t).reported;
      tuned = λ k low i c r. tuning s log (whole s log buffer).rows k i c r;
    }

module _ (s : Settings) (blocks : List Lent) (buffer : List ℕ) (ok : checked s ≡ DONE) (fits : AllFit blocks)
    (done : (block_of (fresh_board s) (uncut blocks) buffer).answer ≡ DONE) where
  abbrev log : List ℕ
  log = uncut blocks

  abbrev b : Board
  b = fresh_board s

  same : given s blocks ≡ at_once b log buffer
  same = cut b blocks buffer (record { ptcs = (fresh_fit s ok).ptcs; marks = (fresh_fit s ok).marks }) fits done

  -- ---- the log whole, into just the room that its rows take

  abbrev just : List ℕ
  just = replicate (12 * records_in log) 0

  just_long : length just ≡ 12 * records_in log
  just_long = length-replicate (12 * records_in log) 0

  taken : Taken s log just
  taken =
      let start : Ready b.clock.crossings log (length buffer) = (block_ready b log (length buffer) (sym (block_answer b log buffer) ∙ done)).1 in
      let there : Ready b.clock.crossings log (length just) =
      record { whole = start.whole; space = omega (arith, just_long); formed = start.formed; life = start.life } in
      record { checks = ok; accepted = accepts b log just (fresh_sound s ok) there }

  -- ---- which gives what the blocks gave

  given_rows : (given s blocks).rows ≡ rows_of (records_in log) b log
  unfolding at_once
  given_rows =
      ap (λ (o : Outcome). o.rows) same
      ∙ rw (block_done b log buffer done) (rows_taken (records_in log) b log (drop (12 * records_in log) buffer) (fresh_fit s ok).ptcs)

  given_board : (given s blocks).closing ≡ ran (records_in log) b log
  unfolding at_once
  given_board = ap (λ (o : Outcome). o.closing) same ∙ rw (block_done b log buffer done)

  accepted : (given s blocks).accepted ≡ true
  unfolding at_once
  accepted = ap (λ (o : Outcome). o.accepted) same ∙ rw done

  none_left : drop (12 * records_in log) just ≡ []
  none_left = let enough : length just ≤ 12 * records_in log = omega (arith, just_long) in drop_of_length-le just enough

  same_rows : (whole s log just).rows ≡ (given s blocks).rows
  same_rows = (ground taken).rows ∙ ap (λ (l : List ℕ). rows_of (records_in log) b log ++ l) none_left ∙ append-nil _ ∙ sym given_rows

  same_board : (whole s log just).board ≡ (given s blocks).closing
  same_board = (ground taken).closing ∙ sym given_board

  kept : Promised s log (given s blocks).rows (given s blocks).closing
  kept = rw (same_rows, same_board) at (kept_whole taken)

pub whole_log : WholeLogs
whole_log s blocks buffer ok fits done =
    record { accepted = accepted s blocks buffer ok fits done; same = same s blocks buffer ok fits done; kept = kept s blocks buffer ok fits done }
