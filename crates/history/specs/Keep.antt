-- Document 02, P6: one change kept. Whether a header comes is decided first; then whole groups go from the oldest, no more than needed.
use Rattle.std.specs.Prelude.{ℕ, suc, ◌+◌, ◌-◌, ◌*◌, ◌/◌, ◌%◌, ◌≤◌, ◌<◌, Bool, ◌&&◌, List, [], ◌∷◌, leb, eqb, length, set, drop}
use Rattle.laws.specs.Base.{if}
use Rattle.history.specs.declared.Store.{Store}
use Rattle.history.specs.declared.scan.Scan.{Scan}
use Rattle.history.specs.declared.keep.Change.{Change}
use Rattle.history.specs.Scan.{start, orbit_of, takes, scanned}
use Rattle.history.specs.Store.{kept}

-- what fits the words: a crossing number of 12 bits, a code that is not 0, an orbit count modulo 2^32
pub record Fits (c : Change) : Type 0 where
  pub number : c.number < 4096
  pub some : 1 ≤ c.code
  pub code : c.code < 16
  pub orbit : c.orbit < 4294967296

abbrev pub word_of : Change → ℕ
word_of c = c.number + 4096 * c.code

-- no header comes: the orbit count is the last header's, and fewer than 64 changes stand under it
unfoldable pub under : Scan → Change → Bool
under q c = takes q && eqb (orbit_of q) c.orbit

-- the words that a change needs
unfoldable pub words_for : Scan → Change → List ℕ
words_for q c = if (under q c) (word_of c ∷ []) (0 ∷ c.orbit / 65536 ∷ c.orbit % 65536 ∷ word_of c ∷ [])

-- how many changes stand before the next header
unfoldable pub leading : List ℕ → ℕ
leading [] = 0
leading (w ∷ ws) = if (leb 4096 w) (suc (leading ws)) 0

-- the words of the oldest group
unfoldable pub group_in : List ℕ → ℕ
group_in ws = 3 + leading (drop 3 ws)

-- without its oldest group
unfoldable pub less_one : Store → Store
less_one s =
    let k = group_in (kept s) in
    record { words = s.words; oldest = (s.oldest + k) % 1024; used = s.used - k }

-- with room for n words, 1 or 4. A group has at least 4, so one that goes is enough: `room_made` (proofs/Keeps.antt)
unfoldable pub roomed : ℕ → Store → Store
roomed n s = if (leb (s.used + n) 1024) s (less_one s)

-- with one word more
unfoldable pub pushed : Store → ℕ → Store
pushed s w = record { words = set s.words ((s.oldest + s.used) % 1024) w; oldest = s.oldest; used = s.used + 1 }

abbrev pub pushed_all : Store → List ℕ → Store
pushed_all s [] = s
pushed_all s (w ∷ ws) = pushed_all (pushed s w) ws

unfoldable pub kept_with : Store → Change → Store
kept_with s c =
    let ws = words_for (scanned start (kept s)) c in
    pushed_all (roomed (length ws) s) ws

-- one change after the other
unfoldable pub kept_all : Store → List Change → Store
kept_all s [] = s
kept_all s (c ∷ cs) = kept_all (kept_with s c) cs
