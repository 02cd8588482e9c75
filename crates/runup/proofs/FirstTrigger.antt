-- From START to the first trigger: 7,430 crossings, every code 8, a request of controller 0 in each.
-- The first two are opened; the board after them believes code 8 and has no marks, so what is sent is the quick walk, and that is computed.
use mathlib.Core.Path.{◌≡◌, refl, ◌∙◌}
use mathlib.Core.Bool.{false}
use mathlib.Core.List.{List, [], ◌∷◌}
use Prim.Native.Nat.{ℕ, suc}
use Rattle.throttle.proofs.Windows.{none_told}
use Rattle.board.specs.declared.Board.{Board}
use Rattle.board.specs.Crossing.{crossing_row_by}
use Rattle.board.specs.Run.{stepped, row_of}
use Rattle.runup.specs.Crossings.{crossing_with, tells, started}
use Rattle.runup.proofs.Opened.{opened}
use Rattle.runup.proofs.Walk.{steady_under, Follows, walk_same}

abbrev asking : ℕ → List ℕ
asking k = crossing_with false 1

-- a fresh board believes 0 until code 8 came twice
abbrev believing : Board
believing = stepped (stepped started (asking 0)) (asking 1)

-- in them no more is sent than the codes of every orbit
begun : (left : ℕ) → tells asking (suc (suc left)) 0 started ≡ tells asking left 2 believing
unfolding opened tells row_of crossing_row_by
begun left = refl

unmarked : Follows believing (steady_under false)
unfolding opened
unmarked = record { std = refl; carried = refl; believed = refl; long = refl; told = none_told 2 }

pub to_first_trigger : tells asking 7430 0 started ≡ 100 ∷ 5 ∷ 3964 ∷ 8 ∷ 4064 ∷ 9 ∷ 7428 ∷ 7 ∷ 7429 ∷ 16 ∷ []
unfolding opened
to_first_trigger = begun 7428 ∙ walk_same (λ k. false) (λ k. 1) 7428 2 unmarked
