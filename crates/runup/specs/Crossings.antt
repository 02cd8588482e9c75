-- A board through crossing records, one after the other: what controller 0 sends on the way, and the board after them.
use Rattle.std.specs.Prelude.{Bool, ◌||◌, List, [], ◌∷◌, ℕ, zero, suc, eqb, get_or, replicate}
use Rattle.laws.specs.Base.{if}
use Rattle.settings.specs.Standard.{standard}
use Rattle.board.specs.declared.Board.{Board}
use Rattle.board.specs.Run.{stepped, row_of}
use Rattle.board.specs.Fresh.{fresh_board}

-- GTFE code 1 under warning and 8 else, every other code 8
abbrev pub codes_under : Bool → List ℕ
codes_under warn = if warn 1 8 ∷ replicate 20 136

-- a crossing without a marker that carries these
abbrev pub crossing_with : Bool → ℕ → List ℕ
crossing_with warn requests = 0 ∷ 0 ∷ requests ∷ codes_under warn

-- recs gives the record of each crossing, by how many were before. What controller 0 sends in the next crossings: how many
-- were before and its byte of the row, where that is more than the codes 1 and 11 of every orbit.
unfoldable pub tells : (ℕ → List ℕ) → ℕ → ℕ → Board → List ℕ
tells recs zero k b = []
tells recs (suc left) k b =
    let byte = get_or (row_of b (recs k)) 0 0 in
    let rest = tells recs left (suc k) (stepped b (recs k)) in
    if (eqb byte 0 || (eqb byte 1 || eqb byte 11)) rest (k ∷ byte ∷ rest)

-- the board after them
unfoldable pub later : (ℕ → List ℕ) → ℕ → ℕ → Board → Board
later recs zero k b = b
later recs (suc left) k b = later recs left (suc k) (stepped b (recs k))

-- START to controller 0, before the first crossing
abbrev pub started : Board
started = stepped (fresh_board standard) (1 ∷ 0 ∷ 1 ∷ replicate 21 0)
