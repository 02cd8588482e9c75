-- Which edition the first line opens, by the way that the code took; and that it is one that the desk knows.
-- The two keys and the range are computed from the table; a number that was read is within its range.
use mathlib.Core.Path.{◌≡◌, refl, sym, ap, ◌∙◌}
use mathlib.Core.Logic.{⊎_elim}
use mathlib.Core.Bool.{true, false}
use mathlib.Core.List.{List}
use Prim.Native.Nat.{ℕ, ◌≤◌}
use native.Mathlib.Omega.{arith}
use borrow.Author.Tests.{leb-true}
use lib.Dec.{leb}
use Rattle.std.specs.Prelude.{Result, Ok, Err}
use Rattle.laws.proofs.Bools.{both}
use Rattle.laws.proofs.Tests.{either}
use Rattle.text.specs.declared.LineFault.{LineFault}
use Rattle.text.specs.declared.LineFault.TheVariants as fault
use Rattle.text.specs.declared.Range.{Range}
use Rattle.text.specs.Bytes.{bytes, starts}
use Rattle.text.specs.Lines.{line_head, LineRead, taken, ill, out, read_line}
use Rattle.text.specs.Support.Seen.{LineIs, line_seen}
use Rattle.text.proofs.OneLine.{line_written}
use Rattle.keys.specs.Settings.{newest, opening}
use Rattle.keys.specs.Keys.{keys, key_at}
use Rattle.keys.specs.Support.Lines.{lines, range_at}
use Rattle.editions.specs.Read.{stated, edition_of}

orbit_key : key_at 1 ≡ bytes "orbit"
unfolding key_at keys bytes
orbit_key = refl

edition_key : key_at 0 ≡ opening.key
unfolding key_at keys opening
edition_key = refl

edition_range : range_at 0 ≡ opening.range
unfolding range_at lines opening
edition_range = refl

-- a number on the first line is that of an edition
inside : (h : List ℕ) (t : List ℕ) (l : LineRead) → l ≡ read_line h opening.range t → (v : ℕ) (u : List ℕ) → l ≡ taken v u → (2 ≤ v) × (v ≤ newest)
unfolding opening
inside h t l is v u e =
    let w = both (leb 2 v) (leb v newest) (line_written h opening.range v t u (sym is ∙ e)).1 in
    (leb-true _ _ w.0, leb-true _ _ w.1)

-- what the code's reading of the first line says of the edition
abbrev pub number_read : Result (ℕ × ℕ) LineFault → ℕ
number_read (Ok p) = p.0
number_read (Err f) = 0

read_is : (t : List ℕ) (r : Result (ℕ × ℕ) LineFault) → stated (line_seen t r) ≡ number_read r
read_is t (Ok p) = refl
read_is t (Err fault.Ill) = refl
read_is t (Err fault.Out) = refl

module _ (t : List ℕ) where
  pub opens_first : starts (line_head (key_at 1)) t ≡ true → edition_of t ≡ 1
  unfolding edition_of
  opens_first e = rw (rw orbit_key at e)

  module _ (range : Range) (same : range ≡ range_at 0) where
    pub opens_later : (r : Result (ℕ × ℕ) LineFault) → starts (line_head (key_at 1)) t ≡ false → LineIs t 0 (line_head (key_at 0)) range r → edition_of t ≡ number_read r
    unfolding edition_of
    opens_later r e is =
        rw (rw orbit_key at e) (ap stated (sym (rw (same, edition_range, edition_key) at is.says)) ∙ read_is t r)

    pub opens_known : (p : ℕ × ℕ) → LineIs t 0 (line_head (key_at 0)) range (Ok p) → (2 ≤ p.0) × (p.0 ≤ newest)
    opens_known p is = inside (line_head opening.key) t _ (rw (same, edition_range, edition_key) at is.says) p.0 _ refl

pub ruleset opens = (opens_first, opens_later, opens_known)

stated_most : (h : List ℕ) (t : List ℕ) (l : LineRead) → l ≡ read_line h opening.range t → stated l ≤ newest
stated_most h t (taken v u) is = (inside h t _ is v u refl).1
stated_most h t ill is = omega arith
stated_most h t out is = omega arith

pub edition_most : (t : List ℕ) → edition_of t ≤ newest
unfolding edition_of
edition_most t =
    ⊎_elim
    (λ (e : starts (line_head (bytes "orbit")) t ≡ true). rw e (omega arith))
    (λ (e : starts (line_head (bytes "orbit")) t ≡ false). rw e (stated_most (line_head opening.key) t _ refl))
    (either (starts (line_head (bytes "orbit")) t))
