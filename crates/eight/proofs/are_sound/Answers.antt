-- `eight::are_sound` meets its contract: the chain asks each controller by its place.
-- All of the pairs is the law of `all_i` from 0 on.
use mathlib.Core.Path.{◌≡◌, refl, ◌∙◌}
use mathlib.Core.Bool.{Bool}
use mathlib.Core.List.{List, [], ◌∷◌}
use Prim.Native.Nat.{ℕ, ◌+◌}
use native.Mathlib.Numerals.{add-one}
use native.Mathlib.Omega.{arith}
use borrow.Author.Rules.{rules}
use lib.ListN.{length}
use Rattle.std.specs.List.{list_all, range_with_len, zip}
use Rattle.std.proofs.lemmas.Iterator.{YieldsList-from_range, YieldsList-from_slice, YieldsList-from_zip}
use Rattle.std.proofs.lemmas.Iterator.Search.{all_from_yields_List}
use Rattle.laws.specs.Base.{all_i}
use Rattle.laws.proofs.Tests.{tests}
use Rattle.eight.specs.Eight.{sound_at, sound_eight}
use Rattle.eight.proofs.are_sound.Goals as goal

all_placed : {A : Type 0} (t : ℕ → A → Bool) (i : ℕ) (l : List A) → list_all (λ (p : ℕ × A). t p.0 p.1) (zip (range_with_len i (length l)) l) ≡ all_i t i l
unfolding all_i
all_placed t i [] = refl
all_placed t i (a ∷ l) = rw (all_placed t (i + 1) l, add-one)

pub returns : goal.returns
unfolding sound_eight
returns c =
    let a = c.args in
    all_from_yields_List (λ p. sound_at a.holder a.m p.0 p.1) c.all.new.self _ c.all.result c.all.ensures.ran
    (YieldsList-from_zip (YieldsList-from_range 0 8 8 (cc) (omega arith)) (YieldsList-from_slice a.ptcs.now (cc)))
    (λ x b q k. search (rules, tests))
    ∙ rw c.told-ptcs at (all_placed (sound_at a.holder a.m) 0 a.ptcs.now)
