-- Document 01, "Sound": of the marks, that the places which belong to none of the last 2,047 crossings are clear.
use Rattle.std.specs.Prelude.{ℕ, zero, suc, ◌-◌, min, Bool, true, ◌&&◌, List, eqb}
use Rattle.throttle.specs.Marks.{mark_at}

-- the m places from that of crossing c on carry no mark
unfoldable pub clear_from : List ℕ → ℕ → ℕ → Bool
clear_from ws c zero = true
clear_from ws c (suc m) = eqb (mark_at ws c) 0 && clear_from ws (suc c) m

-- after n crossings the ring's 2,048 places hold the last 2,047, or all n where there were fewer; the others are clear
unfoldable pub sound_marks : ℕ → List ℕ → Bool
sound_marks n ws = clear_from ws n (2048 - min n 2047)
