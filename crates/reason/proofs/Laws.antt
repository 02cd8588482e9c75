-- The lines of an answer, by the bytes of their keys, and how long they may be.
-- Each opens one definition; a line is as long as its key, the digits of its number and a newline.
use mathlib.Core.Path.{◌≡◌, refl}
use mathlib.Core.List.{[], ◌∷◌, ◌++◌, append-nil}
use Prim.Native.Nat.{ℕ, ◌^◌, ◌≤◌, ◌<◌}
use native.Mathlib.Omega.{arith}
use lib.ListN.{length, length-append}
use Rattle.answer.specs.Told.{Told}
use Rattle.text.specs.Bytes.{bytes}
use Rattle.text.specs.Lines.{line_head, line_text}
use Rattle.text.proofs.Bytes.{put_append, put_nil}
use Rattle.text.proofs.Decimal.{digits_most, one_digit}
use Rattle.text.proofs.Rows.{row_length}
use Rattle.reason.specs.Reason.{carries_text, answer_text, block_text}
use Rattle.reason.specs.Support.Room.{value_most, block_most}

pub value_text : (v : ℕ) → carries_text (v ∷ []) ≡ line_text (bytes "carries=") v
unfolding carries_text line_head bytes
value_text v = append-nil _

pub value_most_lem : (v : ℕ) → v < 2 ^ 64 → length (line_text (bytes "carries=") v) ≤ value_most
unfolding bytes
value_most_lem v h = omega (arith, row_length (bytes "carries=") v, digits_most v h)

pub ruleset value_line = (value_text, value_most_lem)

pub block_text_lem : (n : ℕ) → block_text n ≡ line_text (bytes "block=") n
unfolding block_text line_head bytes
block_text_lem n = refl

pub block_most_lem : (n : ℕ) → n < 2 ^ 64 → length (line_text (bytes "block=") n) ≤ block_most
unfolding bytes
block_most_lem n h = omega (arith, row_length (bytes "block=") n, digits_most n h)

pub ruleset block_line = (block_text_lem, block_most_lem)

pub answer_text_lem : (t : Told) → answer_text t ≡ line_text (bytes "answer=") t.number ++ carries_text t.carries
unfolding answer_text line_head bytes
answer_text_lem t = refl

pub no_value : carries_text [] ≡ []
unfolding carries_text
no_value = refl

pub two_values : (v w : ℕ) → carries_text (v ∷ w ∷ []) ≡ carries_text (v ∷ []) ++ carries_text (w ∷ [])
unfolding carries_text
two_values v w = simp append-nil

pub number_most : (n : ℕ) → n < 10 → length (line_text (bytes "answer=") n) ≡ 9
unfolding bytes
number_most n h = omega (arith, row_length (bytes "answer=") n, one_digit n h)

pub ruleset answer_lines = (answer_text_lem, no_value, two_values, number_most, put_append, put_nil, length-append)
