-- The settings text written, in the newest edition: RANGE, RELATION, ROOM; a success writes exactly the text, and later bytes stay.
use Rattle.std.specs.Prelude.{ℕ, List, ◌∷◌, ◌++◌, leb, length, drop}
use Rattle.answer.specs.Told.{Told, Answer, told, DONE, ROOM, succeeded}
use Rattle.laws.specs.Base.{if}
use Rattle.text.specs.Lines.{keys_of, lines_text}
use Rattle.keys.specs.Settings.{newest, table_of}
use Rattle.settings.specs.declared.Settings.{Settings}
use Rattle.settings.specs.Check.{checked}

-- the numbers of its lines: the edition, then the values
abbrev pub numbers_of : Settings → List ℕ
numbers_of s = newest ∷ s.values

unfoldable pub text_of : Settings → List ℕ
text_of s = lines_text (keys_of (table_of newest)) (numbers_of s)

-- what writing leaves: the answer, and the lent buffer
pub record WriteOut : Type 0 where
  pub answer : Told
  pub buffer : List ℕ

abbrev pub write_out : Answer → List ℕ → WriteOut
write_out a buffer = record { answer = told a; buffer = buffer }

-- what writing into a buffer of that room answers
unfoldable pub write_answer : Settings → ℕ → Told
write_answer s room =
    if (succeeded (checked s)) (if (leb (length (text_of s)) room) DONE (ROOM (length (text_of s)))) (checked s)

unfoldable pub written : Settings → List ℕ → WriteOut
written s d =
    let a = write_answer s (length d) in
    record { answer = a; buffer = if (succeeded a) (text_of s ++ drop (length (text_of s)) d) d }
