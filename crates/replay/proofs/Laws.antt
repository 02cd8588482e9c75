-- What a text opens, by the way that was taken; and that a refused block is a log's last.
-- Each way is a clause of its definition.
use mathlib.Core.Path.{◌≡◌, ap}
use mathlib.Core.Bool.{true, false}
use mathlib.Core.List.{List}
use Prim.Native.Nat.{ℕ, zero, suc, ◌+◌}
use native.Mathlib.Nat.{zero-add, suc-add}
use lib.ListN.{take}
use Rattle.answer.specs.Told.{told, succeeded}
use Rattle.settings.specs.declared.Settings.{Settings}
use Rattle.settings.specs.Standard.{standard}
use Rattle.settings.proofs.Standard.{standard_checks}
use Rattle.editions.specs.declared.Read.{Read}
use Rattle.editions.specs.Read.{read_text, read_out}
use Rattle.editions.specs.Support.Prefix.{text_most}
use Rattle.editions.proofs.Prefix.{read_by_start}
use Rattle.board.specs.declared.Board.{Board}
use Rattle.board.specs.declared.Made.{Made}
use Rattle.board.specs.Fresh.{fresh_of, MadeOut, made_out}
use Rattle.replay.specs.Replay.{opened_of, in_blocks}

-- ---- the board that a text opens

module _ (text : List ℕ) (r : Read) (is : read_out r ≡ read_text text) (m : Made) where
  pub opened_done : succeeded (told r.answer) ≡ true → made_out m ≡ fresh_of r.settings → made_out m ≡ opened_of text
  unfolding opened_of
  opened_done d made = rw (← is, d) made

  pub opened_refused : succeeded (told r.answer) ≡ false → (s : Settings) → s ≡ standard → made_out m ≡ fresh_of s
      → made_out (record { answer = r.answer; board = m.board }) ≡ opened_of text
  unfolding opened_of fresh_of
  opened_refused d s std made = rw (← is, d, ap (λ (o : MadeOut). o.board) made, std, standard_checks)

-- the first bytes decide what a text opens
pub opened_by_start : (t : List ℕ) → opened_of (take text_most t) ≡ opened_of t
unfolding opened_of
opened_by_start t = rw (read_by_start t)

-- ---- the blocks

module _ (b₀ : Board) (log rows₀ : List ℕ) where
  pub stays : (k i : ℕ) → succeeded (in_blocks i b₀ log rows₀).answer ≡ false → in_blocks (k + i) b₀ log rows₀ ≡ in_blocks i b₀ log rows₀
  unfolding in_blocks
  stays zero i d = rw zero-add
  stays (suc k) i d = rw (suc-add, stays k i d, d)
