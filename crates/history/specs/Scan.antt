-- Document 02, P6: words split into groups, each a header (a word 0, then the orbit count's high and low 16 bits) and 1 to 64 changes (the
-- code in the top four bits, the crossing number below), and the changes that stand in them.
use Rattle.std.specs.Prelude.{ℕ, ◌+◌, ◌*◌, ◌/◌, ◌%◌, Bool, ◌&&◌, ◌||◌, List, [], ◌∷◌, ◌++◌, leb, ltb, eqb}
use Rattle.laws.specs.Base.{if}
use Rattle.history.specs.declared.scan.Scan.{Scan}
use Rattle.history.specs.declared.keep.Change.{Change}

-- where a scan stands: place 0 at the beginning, 1 and 2 in a header, 3 after it, 3 + n after the n-th change under it
abbrev pub start : Scan
start = record { place = 0; high = 0; low = 0 }

-- where no group goes on
abbrev pub lost : Scan
lost = record { place = 68; high = 0; low = 0 }

-- the orbit count of the last header
abbrev pub orbit_of : Scan → ℕ
orbit_of q = 65536 * q.high + q.low

-- a change may come: after a header, and after 1 to 63 changes under it
unfoldable pub takes : Scan → Bool
takes q = leb 3 q.place && ltb q.place 67

-- the groups may end: at the beginning, and after 1 to 64 changes
unfoldable pub ends : Scan → Bool
ends q = eqb q.place 0 || (leb 4 q.place && leb q.place 67)

-- this word is a change: its top four bits are 1..15
abbrev pub is_change : Scan → ℕ → Bool
is_change q w = takes q && leb 4096 w

-- this word opens a header
abbrev pub opens : Scan → ℕ → Bool
opens q w = ends q && eqb w 0

unfoldable pub after : Scan → ℕ → Scan
after q w =
    if (eqb q.place 1) (record { place = 2; high = w; low = 0 })
    (if (eqb q.place 2) (record { place = 3; high = q.high; low = w })
    (if (is_change q w) (record { place = q.place + 1; high = q.high; low = q.low })
    (if (opens q w) (record { place = 1; high = 0; low = 0 })
    lost)))

unfoldable pub scanned : Scan → List ℕ → Scan
scanned q [] = q
scanned q (w ∷ ws) = scanned (after q w) ws

-- the change that a word is
abbrev pub change_of : Scan → ℕ → Change
change_of q w = record { orbit = orbit_of q; number = w % 4096; code = w / 4096 }

-- if it is one
abbrev pub found : Scan → ℕ → List Change
found q w = if (is_change q w) (change_of q w ∷ []) []

-- the changes among words, in order
unfoldable pub read : Scan → List ℕ → List Change
read q [] = []
read q (w ∷ ws) = found q w ++ read (after q w) ws
