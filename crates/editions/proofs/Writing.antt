-- The settings text as that of the first keys, and what writing answers by the way that was taken.
-- The text by the law of the keys, the answers by cases on what the check told.
use mathlib.Core.Path.{◌≡◌, sym}
use mathlib.Core.List.{List}
use Prim.Native.Nat.{ℕ, ◌≤◌, ◌<◌}
use native.Mathlib.Omega.{arith}
use borrow.Author.Tests.{le-leb, lt-leb}
use lib.ListN.{length}
use Rattle.answer.specs.declared.Refusal.{Refusal}
use Rattle.answer.specs.Told.{told_refusal, DONE, ROOM}
use Rattle.answer.proofs.Told.{refused}
use Rattle.text.specs.Bytes.{put}
use Rattle.text.proofs.Bytes.{put_front}
use Rattle.text.specs.Lines.{lines_text}
use Rattle.keys.specs.Keys.{keys}
use Rattle.keys.proofs.Writing.{newest_text}
use Rattle.settings.specs.declared.Settings.{Settings}
use Rattle.settings.specs.Check.{checked}
use Rattle.editions.specs.Write.{text_of, numbers_of, write_answer, written}

-- the text is that of the first keys of the table
pub text_is : (s : Settings) → length s.values ≡ 147 → text_of s ≡ lines_text keys (numbers_of s)
unfolding text_of
text_is s long = sym (newest_text (numbers_of s) (omega arith))

-- what writing answers and leaves, by the way that was taken
module _ (s : Settings) (d : List ℕ) where
  pub refused_is : (r : Refusal) → told_refusal r ≡ checked s → written s d ≡ record { answer = told_refusal r; buffer = d }
  unfolding written write_answer
  refused_is r is = rw (← is, refused r, refused r)

  module _ (fine : DONE ≡ checked s) where
    pub room_is : length d < length (text_of s) → written s d ≡ record { answer = ROOM (length (text_of s)); buffer = d }
    unfolding written write_answer
    room_is h = rw (← fine, lt-leb (length (text_of s)) (length d) h)

    pub done_is : length (text_of s) ≤ length d → written s d ≡ record { answer = DONE; buffer = put d 0 (text_of s) }
    unfolding written write_answer
    done_is h = rw (← fine, le-leb (length (text_of s)) (length d) h, put_front)

pub ruleset writing = (text_is, refused_is, room_is, done_is)
