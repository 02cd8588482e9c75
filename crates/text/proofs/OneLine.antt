-- One line: what is written is read, what is read is what is written, and what each way through the reader answers.
-- By the number's round trips, with the key compared before and the range tested after.
use mathlib.Core.Path.{◌≡◌, sym, ap, ◌∙◌}
use mathlib.Core.Logic.{⊎_elim}
use mathlib.Core.Bool.{true, false}
use mathlib.Core.List.{List, ◌++◌, append_assoc}
use Prim.Native.Nat.{ℕ, ◌+◌, ◌<◌, ◌^◌}
use native.Mathlib.Omega.{arith}
use borrow.Author.Tests.{leb-true}
use lib.Dec.{leb}
use lib.ListN.{length, drop}
use lib.Seq.{drop-append_seam, drop-drop}
use Rattle.laws.proofs.Bools.{both}
use Rattle.laws.proofs.Tests.{either}
use Rattle.text.specs.declared.Range.{Range}
use Rattle.text.specs.Bytes.{starts}
use Rattle.text.specs.Number.{Parsed, value, none, number}
use Rattle.text.specs.Lines.{line_text, taken, ill, out, within, ranged, read_line}
use Rattle.text.proofs.Bytes.{starts_append, starts_is}
use Rattle.text.proofs.Reading.{read_back, written}

-- a line that was written is read
pub line_back : (h : List ℕ) (r : Range) (v : ℕ) (t : List ℕ) → 0 < r.digits → r.high < 10 ^ r.digits → within r v ≡ true
    → read_line h r (line_text h v ++ t) ≡ taken v t
unfolding read_line line_text
line_back h r v t some fits ok =
    let most = leb-true v r.high (both (leb r.low v) (leb v r.high) ok).1 in
    rw (append_assoc, starts_append, drop-append_seam, append_assoc, read_back v r.digits t some (omega arith), ok)

ranged_is : (r : Range) (p : Parsed) (v : ℕ) (t : List ℕ) → ranged r p ≡ taken v t → (p ≡ value v t) × (within r v ≡ true)
ranged_is r (value w u) v t e =
    ⊎_elim
    (λ (ok : within r w ≡ true). let same : taken w u ≡ taken v t = rw ok at e in (cc, (let x : w ≡ v = cc in rw (← x) ok)))
    (λ (off : within r w ≡ false). let no : out ≡ taken v t = rw off at e in (cc, cc))
    (either (within r w))
ranged_is r none v t e = (cc, cc)

-- a line that was read is what is written
pub line_written : (h : List ℕ) (r : Range) (v : ℕ) (t u : List ℕ) → read_line h r t ≡ taken v u → (t ≡ line_text h v ++ u) × (within r v ≡ true)
unfolding read_line line_text
line_written h r v t u e =
    ⊎_elim
    (λ (s : starts h t ≡ true).
    let got = ranged_is r (number r.digits (drop (length h) t)) v u (rw s at e) in
    let rest = written r.digits (drop (length h) t) u v got.0 in
    (starts_is h t s ∙ rw (rest, append_assoc, append_assoc), got.1))
    (λ (s : starts h t ≡ false). let no : ill ≡ taken v u = rw s at e in (cc, cc))
    (either (starts h t))

-- one line, read at a place of a text
module _ (h : List ℕ) (r : Range) (s : List ℕ) (at : ℕ) where
  pub no_key : starts h (drop at s) ≡ false → read_line h r (drop at s) ≡ ill
  unfolding read_line
  no_key e = rw e

  module _ (key : starts h (drop at s) ≡ true) where
    after : read_line h r (drop at s) ≡ ranged r (number r.digits (drop (at + length h) s))
    unfolding read_line
    after = rw (key, drop-drop)

    pub no_number : none ≡ number r.digits (drop (at + length h) s) → read_line h r (drop at s) ≡ ill
    no_number e = after ∙ ap (ranged r) (sym e)

    module _ (v next : ℕ) (e : value v (drop next s) ≡ number r.digits (drop (at + length h) s)) where
      pub out_of_range : within r v ≡ false → read_line h r (drop at s) ≡ out
      out_of_range w = after ∙ rw (← e, w)

      pub in_range : within r v ≡ true → read_line h r (drop at s) ≡ taken v (drop next s)
      in_range w = after ∙ rw (← e, w)
