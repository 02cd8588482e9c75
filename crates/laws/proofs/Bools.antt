-- Laws of `&&` and `if`: what a true conjunction says of its parts, and which way an `if` went.
-- By cases on the Bools.
use mathlib.Core.Path.{◌≡◌, refl}
use mathlib.Core.Logic.{◌⊎◌, inl, inr}
use mathlib.Core.Bool.{Bool, true, false, ◌&&◌, ◌||◌, false≢true}
use Prim.Native.Nat.{ℕ, ◌≤◌}
use native.Mathlib.Omega.{arith}
use Rattle.laws.specs.Base.{if, one}

pub both : (a b : Bool) → a && b ≡ true → (a ≡ true) × (b ≡ true)
both true b e = (refl, e)
both false b e = absurd (false≢true e)

pub and_yes : (a b : Bool) → a ≡ true → b ≡ true → a && b ≡ true
and_yes a b p q = rw (p, q)

pub or_true : (a b : Bool) → a || b ≡ true → (a ≡ true) ⊎ (b ≡ true)
or_true true b e = inl refl
or_true false b e = inr e

pub and_true : (a : Bool) → a && true ≡ a
and_true true = refl
and_true false = refl

-- what holds at both arms of an `if` holds of it
pub if_has : {A : Type 0} (P : A → Type 0) (t : Bool) (x y : A) → (t ≡ true → P x) → (t ≡ false → P y) → P (if t x y)
if_has P true x y p q = p refl
if_has P false x y p q = q refl

pub if_most : (t : Bool) (x y b : ℕ) → x ≤ b → y ≤ b → if t x y ≤ b
if_most true x y b p q = p
if_most false x y b p q = q

pub one_le : (t : Bool) → one t ≤ 1
one_le t = if_most t 1 0 1 (omega arith) (omega arith)

-- which way an `if` went, from a value that its other branch is not
pub if_yes : {A : Type 0} (t : Bool) (x y z : A) → if t x y ≡ z → (y ≡ z → ⊥) → (t ≡ true) × (x ≡ z)
if_yes true x y z e n = (refl, e)
if_yes false x y z e n = absurd (n e)

pub if_no : {A : Type 0} (t : Bool) (x y z : A) → if t x y ≡ z → (x ≡ z → ⊥) → (t ≡ false) × (y ≡ z)
if_no true x y z e n = absurd (n e)
if_no false x y z e n = (refl, e)
