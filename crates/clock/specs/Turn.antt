-- Document 01, "One crossing, in order", step 1: who holds the slot, for how many orbits more, and the hand-over.
use Rattle.std.specs.Prelude.{ℕ, zero, suc, ◌+◌, ◌-◌, ◌*◌, ◌%◌, Bool, ◌&&◌, List, leb, ltb, eqb, get_or}
use Rattle.laws.specs.Base.{if, all_b}
use Rattle.clock.specs.declared.Turn.{Turn}

-- holder 8 is none
abbrev pub nobody : ℕ
nobody = 8

-- the first of the m controllers from i on, cyclically, with a slot above 0
unfoldable pub next_from : List ℕ → ℕ → ℕ → ℕ
next_from slots i zero = nobody
next_from slots i (suc m) = if (ltb 0 (get_or slots (i % 8) 0)) (i % 8) (next_from slots (suc i) m)

-- it takes over with 10 × slot orbits
unfoldable pub takes_over : List ℕ → ℕ → Turn
takes_over slots k = record { holder = k; left = 10 * get_or slots k 0 }

-- its orbits left fall by 1; at none left the next controller cyclically with a slot above 0 takes over (itself if alone)
unfoldable pub fallen_of : List ℕ → Turn → Turn
fallen_of slots t =
    if (ltb 1 t.left) (record { holder = t.holder; left = t.left - 1 }) (takes_over slots (next_from slots (t.holder + 1) 8))

-- at a number 0 that ends an orbit, unless the holder is 8
unfoldable pub turned_of : List ℕ → Bool → Turn → Turn
turned_of slots ends t = if ends (if (eqb t.holder nobody) t (fallen_of slots t)) t

-- fresh holder: the lowest with a slot above 0, with 10 × slot left, or 8
unfoldable pub fresh_turn : List ℕ → Turn
fresh_turn slots = takes_over slots (next_from slots 0 8)

-- a slot above 0 and 1..10 × slot orbits left
abbrev pub held : List ℕ → Turn → Bool
held slots t = ltb 0 (get_or slots t.holder 0) && (leb 1 t.left && leb t.left (10 * get_or slots t.holder 0))

-- a holder with a slot, or holder 8 with 0 left when all slots are 0
unfoldable pub sound_turn : List ℕ → Turn → Bool
sound_turn slots t =
    if (ltb t.holder 8)
    (held slots t)
    (eqb t.holder nobody && (eqb t.left 0 && all_b (λ s. eqb s 0) slots))
