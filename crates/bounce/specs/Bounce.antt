-- Document 02, P1, for the bench with the bad connector: an input that never carries the same new code in two consecutive crossings
-- changes nothing.
use Rattle.std.specs.Prelude.{ℕ, ◌<◌, ◌≡◌, ◌⊎◌, List, ◌∷◌, ◌++◌, length, get_or, replicate}
use Rattle.settings.specs.declared.Settings.{Settings}
use Rattle.status.specs.Codes.{code_at}
use Rattle.records.specs.Records.{rec_at}
use Rattle.records.specs.Refusal.{records_in}
use Rattle.board.specs.declared.Board.{Board}
use Rattle.board.specs.Block.{RanOut}
use Rattle.daybook.specs.Whole.{Taken, Crossing, whole}
use Rattle.bounce.specs.Input.{code_now, code_before, believed_before}

-- two logs that differ in the codes of input x, and in nothing else
pub record OnlyIn (x : ℕ) (a b : List ℕ) : Type 0 where
  pub long : length a ≡ length b
  -- kind, marker and requests of a crossing; kind, controller and command
  pub heads : (i n : ℕ) → i < records_in a → n < 3 → get_or (rec_at a i) n 0 ≡ get_or (rec_at b i) n 0
  pub others : (i y : ℕ) → Crossing a i → y < 41 → (y ≡ x → ⊥) → code_now a y i ≡ code_now b y i

-- in crossing i input x brings no new code for the second time: where its code is that of the crossing before, it is believed already
abbrev pub NothingNew : (x : ℕ) (log : List ℕ) (i : ℕ) → Type 0
NothingNew x log i = code_now log x i ≡ code_before log x i → code_now log x i ≡ believed_before log x i

-- nor in any other crossing
abbrev pub Bounces : (x : ℕ) (log : List ℕ) → Type 0
Bounces x log = (i : ℕ) → Crossing log i → NothingNew x log i

-- two logs do not differ in crossing i, nor in the one before it
pub record Alike (x : ℕ) (a b : List ℕ) (i : ℕ) : Type 0 where
  pub now : code_now a x i ≡ code_now b x i
  pub before : code_before a x i ≡ code_before b x i

-- input x may bring new codes, but only where the logs are alike
abbrev pub BouncesApart : (x : ℕ) (a b : List ℕ) → Type 0
BouncesApart x a b = (i : ℕ) → Crossing a i → Alike x a b i ⊎ ((NothingNew x a i) × (NothingNew x b i))

-- a board, had the last crossing carried these codes
abbrev pub carrying : Board → List ℕ → Board
carrying b codes = record {
  settings = b.settings;
  clock = b.clock;
  turn = b.turn;
  ptcs = b.ptcs;
  held = record { carried = codes; believed = b.held.believed };
  marks = b.marks;
}

-- the same rows, and the same board but for the code that input x carried last
pub record SameButCarried (x : ℕ) (p q : RanOut) : Type 0 where
  pub rows : p.rows ≡ q.rows
  pub board : p.board ≡ carrying q.board p.board.held.carried
  pub others : (y : ℕ) → y < 41 → (y ≡ x → ⊥) → code_at p.board.held.carried y ≡ code_at q.board.held.carried y

-- of any two logs that a fresh board accepts
abbrev pub Bounce : Type 0
Bounce =
    (s : Settings) (a b buffer : List ℕ) (x : ℕ)
    → Taken s a buffer
    → Taken s b buffer
    → OnlyIn x a b
    → BouncesApart x a b
    → SameButCarried x (whole s a buffer) (whole s b buffer)

-- and so where the input bounces all along
abbrev pub NeverTwice : Type 0
NeverTwice =
    (s : Settings) (a b buffer : List ℕ) (x : ℕ)
    → Taken s a buffer
    → Taken s b buffer
    → OnlyIn x a b
    → Bounces x a
    → Bounces x b
    → SameButCarried x (whole s a buffer) (whole s b buffer)

-- worked: 8 8 8 8 of the GTFE input beside 8 8 0 8, where 8 stays believed
abbrev pub gtfe : ℕ → List ℕ
gtfe code = 0 ∷ 0 ∷ 0 ∷ code ∷ replicate 20 0

abbrev pub firm : List ℕ
firm = gtfe 8 ++ gtfe 8 ++ gtfe 8 ++ gtfe 8

abbrev pub loose : List ℕ
loose = gtfe 8 ++ gtfe 8 ++ gtfe 0 ++ gtfe 8

pub record Sample : Type 0 where
  pub only : OnlyIn 40 firm loose
  pub apart : BouncesApart 40 firm loose
  pub believed : believed_before loose 40 4 ≡ 8
