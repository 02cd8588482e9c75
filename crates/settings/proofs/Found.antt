-- What a search gives in code: the first that fails, or none, which the definitions call 8 of a controller and 0 of a line.
-- The laws of `first_not`, under the test that tells a number from none; and back from what was found to that test.
use mathlib.Core.Path.{◌≡◌, refl, ap}
use mathlib.Core.Bool.{Bool, true, false, false≢true}
use Prim.Native.Nat.{ℕ, ◌-◌, ◌<◌, ◌≤◌}
use borrow.Author.Tests.{lt-ltb, ltb-true, ltb-false}
use lib.Dec.{ltb}
use Rattle.std.specs.Prelude.{Option, Some, None, is_some}
use Rattle.std.specs.Option.{unwrap_or}
use Rattle.laws.specs.Base.{if, first_not}
use Rattle.laws.proofs.First.{first_here, first_end}
use Rattle.settings.specs.Support.Found.{place_found, line_found}

module _ (p : ℕ → Bool) (k : ℕ) (left : first_not p 8 0 ≡ first_not p (8 - k) k) where
  pub found_here : k < 8 → p k ≡ false → Some k ≡ place_found (first_not p 8 0)
  found_here h e = rw (← first_here p 8 k h e left, lt-ltb k 8 h)

  pub found_none : k ≡ 8 → None ≡ place_found (first_not p 8 0)
  found_none e = rw (← first_end p 8 k e left)

-- ---- what a found number, or none, says of the one that was searched

some_of : (t : Bool) (n x : ℕ) → if t (Some n) None ≡ Some x → (t ≡ true) × (n ≡ x)
some_of true n x e = (refl, ap (λ (o : Option ℕ). unwrap_or o 0) e)
some_of false n x e = absurd (false≢true (ap (λ (o : Option ℕ). is_some o) e))

none_of : (t : Bool) (n : ℕ) → ((x : ℕ) → if t (Some n) None ≡ Some x → ⊥) → t ≡ false
none_of true n none = absurd (none n refl)
none_of false n none = refl

module _ (o : Option ℕ) (n : ℕ) where
  pub is_place : o ≡ place_found n → (x : ℕ) → o ≡ Some x → (ltb n 8 ≡ true) × (n ≡ x)
  is_place e x is = some_of (ltb n 8) n x (rw e at is)

  pub no_place : o ≡ place_found n → ((x : ℕ) → o ≡ Some x → ⊥) → ltb n 8 ≡ false
  no_place e none = none_of (ltb n 8) n (rw e at none)

  pub is_line : o ≡ line_found n → (x : ℕ) → o ≡ Some x → (0 < n) × (n ≡ x)
  is_line e x is = let w = some_of (ltb 0 n) n x (rw e at is) in (ltb-true 0 n w.0, w.1)

  pub no_line : o ≡ line_found n → ((x : ℕ) → o ≡ Some x → ⊥) → n ≤ 0
  no_line e none = ltb-false 0 n (none_of (ltb 0 n) n (rw e at none))

pub line_here : (line n : ℕ) → 0 < line → n ≡ line → Some line ≡ line_found n
line_here line n some e = rw (e, lt-ltb 0 line some)

pub line_nowhere : (n : ℕ) → n ≡ 0 → None ≡ line_found n
line_nowhere n e = rw e
