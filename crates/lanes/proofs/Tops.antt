-- The highest bit of a lane: of two lanes or-ed it is the higher of both.
-- The kit's laws of leading zeros give its place; or-ing neither lengthens nor shortens.
use mathlib.Core.Path.{◌≡◌, refl, sym, ◌∙◌}
use mathlib.Core.Logic.{⊎_elim}
use Prim.Native.Nat.{ℕ, suc, ◌+◌, ◌-◌, ◌*◌, ◌/◌, ◌%◌, ◌^◌, ◌≤◌, ◌<◌, max}
use native.Mathlib.Nat.{pow-suc}
use native.Mathlib.Omega.{arith}
use lib.Bits.{bit_and, bit_or, or_lt, or_add_and, and_le_r, and_comm, and_mask, or_comm}
use lib.Count.{count_leading_zeros, leading_top, leading_unique}
use lib.Pow.{pow_mono}
use Rattle.laws.proofs.Tests.{lt_or_ge}
use Rattle.lanes.specs.Support.Lanes.{top_of}

-- bit 0 is set, the others stay
pub odd : (x : ℕ) → bit_or 1 x ≡ x / 2 * 2 + 1
odd x =
    let m : bit_and x 1 ≡ x % 2 = and_mask x 1 in
    omega (arith, or_add_and 1 x, and_comm 1 x, m)

-- the place of its highest bit, as the library's logarithm gives it
pub top_from : (x j : ℕ) → 2 ^ j ≤ bit_or 1 x → bit_or 1 x < 2 * 2 ^ j → j < 64 → j ≡ top_of x
unfolding top_of
top_from x j least most fits =
    let p : 2 ^ suc j ≡ 2 ^ j * 2 = pow-suc 2 j in
    let e = leading_unique 64 (bit_or 1 x) (63 - j) (suc j) (omega arith) (omega arith) (omega arith) in
    omega arith

-- j is the place of the highest bit of x with bit 0 set
pub record Top (x j : ℕ) : Type 0 where
  pub zeros : count_leading_zeros 64 (bit_or 1 x) + suc j ≡ 64
  pub least : 2 ^ j ≤ x / 2 * 2 + 1
  pub most : x / 2 * 2 + 1 < 2 ^ suc j

pub top_at : (x : ℕ) → x < 2 ^ 64 → (j : ℕ) × Top x j
top_at x h =
    let t = leading_top 64 (x / 2 * 2 + 1) (omega arith) (omega arith) in
    (t.0, record { zeros = rw (odd x) t.1; least = t.2; most = t.3 })

top_is : (x j : ℕ) → Top x j → top_of x ≡ j
unfolding top_of
top_is x j t = omega (arith, t.zeros)

-- or-ing with what is no longer
longer : (x y z j i : ℕ) → i ≤ j → Top x j → Top y i → z ≡ bit_or x y → top_of z ≡ j
longer x y z j i l t u e =
    let p : 2 ^ suc j ≡ 2 ^ j * 2 = pow-suc 2 j in
    let q : 2 ^ suc i ≤ 2 ^ suc j = pow_mono (omega arith) in
    let m : z < 2 ^ suc j = rw e (or_lt (suc j) x y (omega (arith, t.most)) (omega (arith, u.most))) in
    let g : x ≤ z = rw e (omega (arith, or_add_and x y, and_le_r x y)) in
    let b : j ≤ 63 = omega (arith, t.zeros) in
    sym (top_from z j (rw (odd z) (omega (arith, t.least))) (rw (odd z) (omega arith)) (omega arith))

pub top_or : (x y : ℕ) → x < 2 ^ 64 → y < 2 ^ 64 → top_of (bit_or x y) ≡ max (top_of x) (top_of y)
top_or x y p q =
    let t = top_at x p in
    let u = top_at y q in
    rw (top_is x t.0 t.1, top_is y u.0 u.1)
    (⊎_elim
    (λ (h : t.0 < u.0). longer y x (bit_or x y) u.0 t.0 (omega arith) u.1 t.1 (or_comm x y) ∙ omega arith)
    (λ (h : u.0 ≤ t.0). longer x y (bit_or x y) t.0 u.0 h t.1 u.1 refl ∙ omega arith)
    (lt_or_ge t.0 u.0))
