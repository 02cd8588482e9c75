-- What an answer of the code says of the text: the value and what follows, where the code gives the next place.
use Rattle.std.specs.Prelude.{ℕ, ◌≤◌, ◌≡◌, List, length, drop, Option, Some, None, Result, Ok, Err}
use Rattle.text.specs.declared.LineFault.{LineFault}
use Rattle.text.specs.declared.LineFault.TheVariants as fault
use Rattle.text.specs.declared.Range.{Range}
use Rattle.text.specs.Number.{Parsed, value, none, number}
use Rattle.text.specs.Lines.{LineRead, taken, ill, out, read_line}

abbrev pub seen : List ℕ → Option (ℕ × ℕ) → Parsed
seen s (Some r) = value r.0 (drop r.1 s)
seen s None = none

-- the next place is within the text
abbrev pub Within : List ℕ → Option (ℕ × ℕ) → Type 0
Within s (Some r) = r.1 ≤ length s
Within s None = Unit {0}

pub record NumberIs (s : List ℕ) (at k : ℕ) (r : Option (ℕ × ℕ)) : Type 0 where
  pub says : seen s r ≡ number k (drop at s)
  pub inside : Within s r

abbrev pub line_seen : List ℕ → Result (ℕ × ℕ) LineFault → LineRead
line_seen s (Ok r) = taken r.0 (drop r.1 s)
line_seen s (Err fault.Ill) = ill
line_seen s (Err fault.Out) = out

abbrev pub LineWithin : List ℕ → Result (ℕ × ℕ) LineFault → Type 0
LineWithin s (Ok r) = r.1 ≤ length s
LineWithin s (Err f) = Unit {0}

pub record LineIs (s : List ℕ) (at : ℕ) (h : List ℕ) (range : Range) (r : Result (ℕ × ℕ) LineFault) : Type 0 where
  pub says : line_seen s r ≡ read_line h range (drop at s)
  pub inside : LineWithin s r
