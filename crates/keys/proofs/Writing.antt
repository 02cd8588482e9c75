-- Lines of the keys from a place of the table on: a loop lays one line or adds up its length, and at the end nothing is left.
-- The walks over any keys, at these; which keys stand at the places of the settings and of the report is computed from the table.
use mathlib.Core.Path.{◌≡◌, refl, ap, ◌∙◌}
use mathlib.Core.List.{List, [], ◌++◌}
use Prim.Native.Nat.{ℕ, ◌+◌, ◌≤◌, ◌<◌}
use native.Mathlib.Omega.{arith}
use lib.ListN.{length, drop, get_or, length-drop}
use lib.Seq.{get_or-drop}
use Rattle.text.specs.Bytes.{put}
use Rattle.text.specs.Lines.{keys_of, line_head, line_text, lines_text}
use Rattle.text.proofs.Bytes.{put_nil}
use Rattle.text.proofs.Walk.{length_more, put_more, text_end, text_within}
use Rattle.keys.specs.Settings.{newest, table_of}
use Rattle.keys.specs.Report.{common_keys, block_keys}
use Rattle.keys.specs.Keys.{keys, key_at, key_count, common_first, block_first}
use Rattle.keys.proofs.Parts.{key_count_lem}

-- ---- a loop over the values

-- the text of the values from n on, the first value's key at place `first`
abbrev pub Left : ℕ → List ℕ → ℕ → List ℕ
Left first vs n = lines_text (drop n (drop first keys)) (drop n vs)

module _ (first : ℕ) (vs : List ℕ) (n : ℕ) (fits : first + length vs ≤ key_count) (more : n < length vs) where
  inside : n < length (drop first keys)
  inside = rw length-drop (omega (arith, key_count_lem))

  key_is : get_or (drop first keys) n [] ≡ key_at (first + n)
  unfolding key_at
  key_is = get_or-drop first keys n []

  pub longer : length (Left first vs n) ≡ length (line_text (line_head (key_at (first + n))) (get_or vs n 0)) + length (Left first vs (n + 1))
  longer = rw (← key_is) (length_more (drop first keys) vs n [] inside more)

  pub laid_on : (o : List ℕ) (at : ℕ) → at + length (line_text (line_head (key_at (first + n))) (get_or vs n 0)) ≤ length o
      → put o at (Left first vs n) ≡ put (put o at (line_text (line_head (key_at (first + n))) (get_or vs n 0))) (at + length (line_text (line_head (key_at (first + n))) (get_or vs n 0))) (Left first vs (n + 1))
  laid_on o at = rw (← key_is) (put_more (drop first keys) vs n [] inside more o at)

pub left_none : (first : ℕ) (vs : List ℕ) (n : ℕ) → length vs ≤ n → Left first vs n ≡ []
left_none first vs n = text_end (drop first keys) vs n

pub ruleset line_after_line = (longer, laid_on, left_none, put_nil)

-- ---- which keys these are

-- the newest edition's are the first
apart : keys ≡ keys_of (table_of newest) ++ drop 148 keys
unfolding keys table_of
apart = refl

newest_count : length (keys_of (table_of newest)) ≡ 148
unfolding table_of
newest_count = refl

pub newest_text : (vs : List ℕ) → length vs ≤ 148 → lines_text keys vs ≡ lines_text (keys_of (table_of newest)) vs
newest_text vs h =
    ap (λ (ks : List (List ℕ)). lines_text ks vs) apart ∙ text_within (keys_of (table_of newest)) (drop 148 keys) vs (omega (arith, newest_count))

pub common_text : (vs : List ℕ) → length vs ≤ 4 → lines_text (drop common_first keys) vs ≡ lines_text common_keys vs
unfolding keys
common_text vs h = text_within common_keys block_keys vs h

pub block_text_lem : (vs : List ℕ) → lines_text (drop block_first keys) vs ≡ lines_text block_keys vs
unfolding keys
block_text_lem vs = refl
