-- The merge by lanes: byte k of a word, its lane k, has bit r where a member of controller k has class r.
use Rattle.std.specs.Prelude.{List, ℕ, zero, suc, ◌+◌, ◌-◌, ◌*◌, ◌/◌, ◌%◌, ◌^◌, ltb, eqb, get_or}
use Rattle.std.specs.Int.Bits.{bit_or}
use Rattle.std.specs.Int.Count.{count_leading_zeros}
use Rattle.laws.specs.Base.{if, tabulate}
use Rattle.status.specs.declared.Merger.{Merger}
use Rattle.status.specs.Support.Merger.{half}

-- the bit of a class; none for no class
unfoldable pub bit_of : ℕ → ℕ
bit_of r = if (eqb r 0) 0 (if (ltb r 8) (2 ^ r) 0)

-- in the lane of one controller; above 7: in none
unfoldable pub in_lane : (b k : ℕ) → ℕ
in_lane b k = if (ltb k 8) (b * 2 ^ (8 * k)) 0

-- in all eight
unfoldable pub in_all : ℕ → ℕ
in_all b = b * 72340172838076673

-- the class that a place of the table counts: each input has 16 places, one for each code
unfoldable pub rank_of : (ranks : List ℕ) (n : ℕ) → ℕ
rank_of ranks n = get_or ranks (half (n / 16) + n % 16) 0

unfoldable pub entry_of : (owners ranks : List ℕ) (n : ℕ) → ℕ
entry_of owners ranks n = let b = bit_of (rank_of ranks n) in if (ltb n 640) (in_lane b (get_or owners (n / 16) 0)) (in_all b)

unfoldable pub table_of : Merger → List ℕ
table_of m = tabulate (entry_of m.owners m.ranks) 0 656

-- what the two inputs of byte j put in the lanes
unfoldable pub pair_of : (t codes : List ℕ) (j : ℕ) → ℕ
pair_of t codes j = let b = get_or codes (1 + j) 0 in bit_or (get_or t (32 * j + b % 16) 0) (get_or t (32 * j + 16 + b / 16) 0)

-- the lanes after the GTFE code and the first n bytes of the others
unfoldable pub lanes_of : (t codes : List ℕ) (n : ℕ) → ℕ
lanes_of t codes zero = get_or t (640 + get_or codes 0 0) 0
lanes_of t codes (suc n) = bit_or (lanes_of t codes n) (pair_of t codes n)

abbrev pub lane_at : (w k : ℕ) → ℕ
lane_at w k = w / 2 ^ (8 * k) % 256

-- the highest bit above bit 0, which is no class
unfoldable pub top_of : ℕ → ℕ
top_of x = 63 - count_leading_zeros 64 (bit_or 1 x)

unfoldable pub class_in : (w k : ℕ) → ℕ
class_in w k = top_of (lane_at w k)

unfoldable pub lane_classes : (t codes : List ℕ) → List ℕ
lane_classes t codes = tabulate (class_in (lanes_of t codes 20)) 0 8
