-- Loops over a table of lines: reading it, laying its text, adding up its length, and finding the first value out of range.
-- In each, what is left of the table decides as the whole does; a law opens the line at place n. For any table.
use mathlib.Core.Path.{◌≡◌, refl, sym, ap, ◌∙◌}
use mathlib.Core.Bool.{true, false}
use mathlib.Core.List.{List, [], ◌∷◌, ◌++◌}
use Prim.Native.Nat.{ℕ, suc, ◌+◌, ◌≤◌, ◌<◌}
use native.Mathlib.Nat.{le_of_suc-le-suc, not-suc-le-zero}
use native.Mathlib.Numerals.{add-one}
use native.Mathlib.Omega.{arith}
use lib.ListN.{length, drop, take, set, get_or, length-append, drop_of_length-le}
use lib.Seq.{drop-cons, length-take-le, take-suc-set}
use Rattle.text.specs.declared.Range.{Range}
use Rattle.text.specs.Bytes.{put}
use Rattle.text.specs.Lines.{Entry, line_head, line_text, lines_text, taken, ill, out, within, read_line, all, text_at, range_at, read_lines, first_out}
use Rattle.text.proofs.Bytes.{put_append}

-- ---- reading

module _ (ls : List Entry) (vs s : List ℕ) (at n : ℕ) (d : Entry) (inv : read_lines ls [] s ≡ read_lines (drop n ls) (take n vs) (drop at s))
    (more : n < length ls) (known : n < length vs) where
  counted : suc (length (take n vs)) ≡ n + 1
  counted = omega (arith, length-take-le n vs (omega arith))

  pub at_ill : ill ≡ read_line (line_head (get_or ls n d).key) (get_or ls n d).range (drop at s) → read_lines ls [] s ≡ text_at (n + 1)
  at_ill e = inv ∙ rw (drop-cons ls n d more, ← e, counted)

  pub at_out : out ≡ read_line (line_head (get_or ls n d).key) (get_or ls n d).range (drop at s) → read_lines ls [] s ≡ range_at (n + 1)
  at_out e = inv ∙ rw (drop-cons ls n d more, ← e, counted)

  pub at_value : (v next : ℕ) → taken v (drop next s) ≡ read_line (line_head (get_or ls n d).key) (get_or ls n d).range (drop at s)
      → read_lines ls [] s ≡ read_lines (drop (n + 1) ls) (take (n + 1) (set vs n v)) (drop next s)
  at_value v next e = inv ∙ rw (drop-cons ls n d more, ← e, add-one, take-suc-set vs n v known)

pub at_end : (ls : List Entry) (vs s : List ℕ) (at n : ℕ) → read_lines ls [] s ≡ read_lines (drop n ls) (take n vs) (drop at s)
    → length ls ≤ n → read_lines ls [] s ≡ all (take n vs) (drop at s)
at_end ls vs s at n inv done = inv ∙ rw (drop_of_length-le ls done)

-- ---- writing

module _ (ks : List (List ℕ)) (vs : List ℕ) (n : ℕ) (d : List ℕ) (more : n < length ks) (known : n < length vs) where
  text_more : lines_text (drop n ks) (drop n vs) ≡ line_text (line_head (get_or ks n d)) (get_or vs n 0) ++ lines_text (drop (n + 1) ks) (drop (n + 1) vs)
  text_more = rw (drop-cons ks n d more, drop-cons vs n 0 known, add-one)

  pub length_more : length (lines_text (drop n ks) (drop n vs)) ≡ length (line_text (line_head (get_or ks n d)) (get_or vs n 0)) + length (lines_text (drop (n + 1) ks) (drop (n + 1) vs))
  length_more = rw (text_more, length-append)

  pub put_more : (o : List ℕ) (at : ℕ) → at + length (line_text (line_head (get_or ks n d)) (get_or vs n 0)) ≤ length o
      → put o at (lines_text (drop n ks) (drop n vs)) ≡ put (put o at (line_text (line_head (get_or ks n d)) (get_or vs n 0))) (at + length (line_text (line_head (get_or ks n d)) (get_or vs n 0))) (lines_text (drop (n + 1) ks) (drop (n + 1) vs))
  put_more o at room = ap (put o at) text_more ∙ put_append o at _ _ room

text_none : (ks : List (List ℕ)) → lines_text ks [] ≡ []
text_none [] = refl
text_none (k ∷ ks) = refl

pub text_end : (ks : List (List ℕ)) (vs : List ℕ) (n : ℕ) → length vs ≤ n → lines_text (drop n ks) (drop n vs) ≡ []
text_end ks vs n done = rw (drop_of_length-le vs done) (text_none (drop n ks))

-- keys beyond the values are not written
pub text_within : (ks more : List (List ℕ)) (vs : List ℕ) → length vs ≤ length ks → lines_text (ks ++ more) vs ≡ lines_text ks vs
text_within ks more [] h = text_none (ks ++ more) ∙ sym (text_none ks)
text_within [] more (v ∷ vs) h = absurd (not-suc-le-zero h)
text_within (k ∷ ks) more (v ∷ vs) h = ap (λ (t : List ℕ). line_text (line_head k) v ++ t) (text_within ks more vs (le_of_suc-le-suc h))

-- ---- ranges

-- line n has the number k
module _ (rs : List Range) (vs : List ℕ) (n k : ℕ) (d : Range) (more : n < length rs) (known : n < length vs) where
  pub out_here : within (get_or rs n d) (get_or vs n 0) ≡ false → first_out (drop n rs) k (drop n vs) ≡ k
  out_here e = rw (drop-cons rs n d more, drop-cons vs n 0 known, e)

  pub out_later : within (get_or rs n d) (get_or vs n 0) ≡ true → first_out (drop n rs) k (drop n vs) ≡ first_out (drop (n + 1) rs) (suc k) (drop (n + 1) vs)
  out_later e = rw (drop-cons rs n d more, drop-cons vs n 0 known, e, add-one)

pub out_none : (rs : List Range) (vs : List ℕ) (n k : ℕ) → length rs ≤ n → first_out (drop n rs) k vs ≡ 0
out_none rs vs n k done = rw (drop_of_length-le rs done)
