-- The report as it is laid: the common lines, then block after block; and what writing answers, by the way that was taken.
-- The keys' laws say which lines the table's keys make, `put_append` lays part after part, a block is opened where it is the first left.
use mathlib.Core.Path.{◌≡◌, ap, ◌∙◌}
use mathlib.Core.Bool.{true, false}
use mathlib.Core.List.{List, [], ◌++◌}
use Prim.Native.Nat.{ℕ, ◌+◌, ◌≤◌, ◌<◌}
use native.Mathlib.Numerals.{add-one}
use native.Mathlib.Omega.{arith}
use borrow.Author.Tests.{le-leb, lt-leb}
use lib.Dec.{ltb}
use lib.ListN.{length, drop, get_or, length-append, drop_of_length-le}
use lib.Seq.{drop-cons}
use Rattle.std.specs.Prelude.{Ok, Err}
use Rattle.answer.specs.declared.Refusal.TheVariants.{Board as Refused, Room}
use Rattle.text.specs.Bytes.{put}
use Rattle.text.specs.Lines.{lines_text}
use Rattle.text.proofs.Bytes.{put_append, put_front, put_nil}
use Rattle.keys.specs.Keys.{keys, common_first, block_first}
use Rattle.keys.proofs.Writing.{common_text, block_text_lem}
use Rattle.settings.specs.declared.Settings.{Settings}
use Rattle.settings.specs.Names.{slot_of}
use Rattle.ptc.specs.declared.Ptc.{Ptc}
use Rattle.board.specs.declared.Board.{Board}
use Rattle.board.specs.Sound.{sound_board}
use Rattle.report.specs.Report.{common_values, block_values, controller_text, blocks_from, report_text, report_out, report_answer, reported}

-- ---- one block

module _ (s : Settings) (k : ℕ) (p : Ptc) where
  pub block_none : ltb 0 (slot_of s k) ≡ false → controller_text s k p ≡ []
  unfolding controller_text
  block_none off = rw off

  pub block_is : ltb 0 (slot_of s k) ≡ true → (vs : List ℕ) → vs ≡ block_values k p → controller_text s k p ≡ lines_text (drop block_first keys) vs
  unfolding controller_text
  block_is on vs is = rw (on, is, block_text_lem)

-- ---- the blocks from k on

abbrev pub Rest : Settings → List Ptc → ℕ → List ℕ
Rest s ps k = blocks_from s k (drop k ps)

module _ (s : Settings) (ps : List Ptc) (k : ℕ) (d : Ptc) (more : k < length ps) where
  abbrev Block : List ℕ
  Block = controller_text s k (get_or ps k d)

  next : Rest s ps k ≡ Block ++ Rest s ps (k + 1)
  unfolding blocks_from
  next = rw (drop-cons ps k d more, add-one)

  pub rest_longer : length (Rest s ps k) ≡ length Block + length (Rest s ps (k + 1))
  rest_longer = rw (next, length-append)

  pub rest_laid : (o : List ℕ) (at : ℕ) → at + length Block ≤ length o → put o at (Rest s ps k) ≡ put (put o at Block) (at + length Block) (Rest s ps (k + 1))
  rest_laid o at room = ap (put o at) next ∙ put_append o at _ _ room

pub rest_none : (s : Settings) (ps : List Ptc) (k : ℕ) → length ps ≤ k → Rest s ps k ≡ []
unfolding blocks_from
rest_none s ps k done = rw (drop_of_length-le ps done)

-- ---- the whole

module _ (b : Board) (vs : List ℕ) (is : vs ≡ common_values b) where
  parts : report_text b ≡ lines_text (drop common_first keys) vs ++ blocks_from b.settings 0 b.ptcs
  unfolding report_text
  parts = rw (is, common_text (common_values b) (omega arith))

  pub text_longer : length (report_text b) ≡ length (lines_text (drop common_first keys) vs) + length (blocks_from b.settings 0 b.ptcs)
  text_longer = rw (parts, length-append)

  pub text_laid : (o : List ℕ) → length (report_text b) ≤ length o
      → put o 0 (report_text b) ≡ put (put o 0 (lines_text (drop common_first keys) vs)) (0 + length (lines_text (drop common_first keys) vs)) (blocks_from b.settings 0 b.ptcs)
  text_laid o room = ap (put o 0) parts ∙ put_append o 0 _ _ (omega (arith, text_longer))

pub ruleset block_by_block = (block_none, block_is, rest_longer, rest_laid, rest_none, text_longer, text_laid, put_nil)

-- ---- what writing answers and leaves

module _ (b : Board) (d : List ℕ) where
  pub board_is : sound_board b ≡ false → report_out (Err Refused) d ≡ reported b d
  unfolding reported report_answer
  board_is off = rw off

  module _ (ok : sound_board b ≡ true) (need : ℕ) (long : need ≡ length (report_text b)) where
    pub room_is : length d < need → report_out (Err (Room need)) d ≡ reported b d
    unfolding reported report_answer
    room_is h = rw (ok, ← long, lt-leb need (length d) h)

    pub done_is : need ≤ length d → (e : List ℕ) → e ≡ put d 0 (report_text b) → report_out (Ok tt) e ≡ reported b d
    unfolding reported report_answer
    done_is h e laid = rw (ok, le-leb (length (report_text b)) (length d) (rw (← long) h), laid, put_front)

pub ruleset written = (board_is, room_is, done_is)
