-- Document 01, "Sound": for each of the last 2,047 crossings a mark whether it carried a trigger, none before crossing 0.
-- The marks are a ring of 2,048 bits in 32 words: crossing c has bit c % 64 of word c / 64 % 32. The one bit beyond the 2,047 is 0.
use Rattle.std.specs.Prelude.{ℕ, zero, suc, ◌+◌, ◌-◌, ◌*◌, ◌/◌, ◌%◌, ◌^◌, List, ltb, get_or, set}
use Rattle.laws.specs.Base.{if}

unfoldable pub bit_at : ℕ → ℕ → ℕ
bit_at w k = w / 2 ^ k % 2

-- w with x for its bit k
unfoldable pub put_bit : (w k x : ℕ) → ℕ
put_bit w k x = (w / 2 ^ k / 2 * 2 + x) * 2 ^ k + w % 2 ^ k

-- the mark of crossing c
unfoldable pub mark_at : List ℕ → ℕ → ℕ
mark_at ws c = bit_at (get_or ws (c / 64 % 32) 0) (c % 64)

-- the ring with x for crossing c
unfoldable pub marked : (ws : List ℕ) (c x : ℕ) → List ℕ
marked ws c x = set ws (c / 64 % 32) (put_bit (get_or ws (c / 64 % 32) 0) (c % 64) x)

-- the ring after crossing c, the first being 0, whose mark is x
unfoldable pub passed : (ws : List ℕ) (c x : ℕ) → List ℕ
passed ws c x = marked (marked ws c x) (c + 1) 0

-- after n crossings, the mark of the one that has d others after it; none before crossing 0
unfoldable pub mark_back : (ws : List ℕ) (n d : ℕ) → ℕ
mark_back ws n d = if (ltb d n) (mark_at ws (n - 1 - d)) 0

-- after n crossings, how many of the last k are marked
unfoldable pub among : List ℕ → ℕ → ℕ → ℕ
among ws n zero = 0
among ws n (suc k) = among ws n k + mark_back ws n k
