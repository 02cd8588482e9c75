-- Lines `key=value`, each ended by one newline, written over a list of keys and read over a table of keys and ranges.
use Rattle.std.specs.Prelude.{ℕ, suc, ◌^◌, Bool, ◌&&◌, List, [], ◌∷◌, ◌++◌, map, leb, ltb, length, drop}
use Rattle.laws.specs.Base.{if, all_b}
use Rattle.text.specs.declared.Range.{Range}
use Rattle.text.specs.Bytes.{starts}
use Rattle.text.specs.Decimal.{decimal}
use Rattle.text.specs.Number.{Parsed, value, none, number}

-- ---- writing

-- a key with its `=`
unfoldable pub line_head : List ℕ → List ℕ
line_head key = key ++ (61 ∷ [])

-- a line: what stands up to the `=`, the number, the newline
unfoldable pub line_text : List ℕ → ℕ → List ℕ
line_text h v = h ++ (decimal v ++ (10 ∷ []))

-- the lines of some keys with their values
abbrev pub lines_text : List (List ℕ) → List ℕ → List ℕ
lines_text [] vs = []
lines_text (k ∷ ks) [] = []
lines_text (k ∷ ks) (v ∷ vs) = line_text (line_head k) v ++ lines_text ks vs

-- ---- reading

-- a line of a table; an edition of a text is a list of them
pub record Entry : Type 0 where
  pub key : List ℕ
  pub range : Range

abbrev pub keys_of : List Entry → List (List ℕ)
keys_of = map (λ (l : Entry). l.key)

abbrev pub ranges_of : List Entry → List Range
ranges_of = map (λ (l : Entry). l.range)

abbrev pub within : Range → ℕ → Bool
within r v = leb r.low v && leb v r.high

-- a value and what follows its line; TEXT; RANGE
pub data LineRead : Type 0 where
  taken : ℕ → List ℕ → LineRead
  ill : LineRead
  out : LineRead

abbrev pub ranged : Range → Parsed → LineRead
ranged r (value v t) = if (within r v) (taken v t) out
ranged r none = ill

-- the expected key and `=`, a well-formed number, the newline; in a line TEXT before RANGE
unfoldable pub read_line : List ℕ → Range → List ℕ → LineRead
read_line h r t = if (starts h t) (ranged r (number r.digits (drop (length h) t))) ill

-- all values and what follows the last line; or the number of the first faulty line
pub data Lines : Type 0 where
  all : List ℕ → List ℕ → Lines
  text_at : ℕ → Lines
  range_at : ℕ → Lines

abbrev pub and_then : LineRead → ℕ → (ℕ → List ℕ → Lines) → Lines
and_then (taken v t) n k = k v t
and_then ill n k = text_at n
and_then out n k = range_at n

-- vs are the values of the lines before
abbrev pub read_lines : List Entry → List ℕ → List ℕ → Lines
read_lines [] vs t = all vs t
read_lines (l ∷ ls) vs t =
    and_then (read_line (line_head l.key) l.range t) (suc (length vs)) (λ v r. read_lines ls (vs ++ (v ∷ [])) r)

-- ---- values on their own

-- the number of the first line whose value is out of range, the lines being counted from n; 0 where there is none
abbrev pub first_out : List Range → ℕ → List ℕ → ℕ
first_out [] n vs = 0
first_out (r ∷ rs) n [] = n
first_out (r ∷ rs) n (v ∷ vs) = let later = first_out rs (suc n) vs in if (within r v) later n

-- a line may have some digits, and enough for its greatest value
abbrev pub sensible : List Range → Bool
sensible = all_b (λ r. ltb 0 r.digits && ltb r.high (10 ^ r.digits))
