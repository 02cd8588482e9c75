-- Laws of words of lanes: or-ing two takes the higher class of each lane, and an entry of the table has its class in its own lanes.
-- The kit's laws of bits make an or one of whole lanes; a lane that is not the entry's lies below all its bits or above them.
use mathlib.Core.Path.{◌≡◌, refl, ap, ◌∙◌}
use mathlib.Core.Logic.{⊎_elim}
use mathlib.Core.Bool.{Bool, true, false}
use Prim.Native.Nat.{ℕ, ◌+◌, ◌-◌, ◌*◌, ◌/◌, ◌%◌, ◌^◌, ◌≤◌, ◌<◌, max}
use native.Mathlib.Nat.{zero-div, div-eq_of_lt, mul_assoc, mul-mod_left}
use native.Mathlib.Omega.{arith}
use borrow.Author.Tests.{eq-eqb, ne_eqb, lt-ltb, le-ltb}
use lib.Arith.{digits_div, digits_mod}
use lib.Bits.{bit_or, or_shr, or_mod}
use lib.Count.{count_leading_zeros}
use lib.Dec.{eqb}
use lib.Pow.{pow-add, pow_mono, shl_lt, shl-shr}
use Rattle.laws.specs.Base.{if}
use Rattle.laws.proofs.Tests.{lt_or_ge, same_or_not}
use Rattle.lanes.specs.Support.Lanes.{bit_of, in_lane, in_all, lane_at, top_of, class_in}
use Rattle.lanes.proofs.Eight.{eight}
use Rattle.lanes.proofs.Tops.{top_or}

pub class_or : (a b k : ℕ) → class_in (bit_or a b) k ≡ max (class_in a k) (class_in b k)
unfolding class_in
class_or a b k =
    let e : lane_at (bit_or a b) k ≡ bit_or (lane_at a k) (lane_at b k) = rw (or_shr a b (8 * k)) (or_mod (a / 2 ^ (8 * k)) (b / 2 ^ (8 * k)) 8) in
    ap top_of e ∙ top_or (lane_at a k) (lane_at b k) (omega arith) (omega arith)

top_bit : (r : ℕ) → r < 8 → top_of (bit_of r) ≡ r
unfolding top_of bit_of count_leading_zeros
top_bit = eight (λ r. top_of (bit_of r) ≡ r) refl refl refl refl refl refl refl refl

bit_low : (r : ℕ) → r < 8 → bit_of r < 256
unfolding bit_of
bit_low = eight (λ r. bit_of r < 256) (omega arith) (omega arith) (omega arith) (omega arith) (omega arith) (omega arith) (omega arith) (omega arith)

-- a digit in base 256
digit : {w m : ℕ} (h b r : ℕ) → b < 256 → r < m → w ≡ (h * 256 + b) * m + r → w / m % 256 ≡ b
digit h b r low p e = rw (e, digits_div (h * 256 + b) p, digits_mod h low)

lane_all : (b k : ℕ) → b < 256 → k < 8 → lane_at (in_all b) k ≡ b
unfolding in_all
lane_all b k h =
    eight
    (λ k. lane_at (in_all b) k ≡ b)
    (digit (b * 282578800148737) b (b * 0) h (omega arith) (omega arith))
    (digit (b * 1103823438081) b (b * 1) h (omega arith) (omega arith))
    (digit (b * 4311810305) b (b * 257) h (omega arith) (omega arith))
    (digit (b * 16843009) b (b * 65793) h (omega arith) (omega arith))
    (digit (b * 65793) b (b * 16843009) h (omega arith) (omega arith))
    (digit (b * 257) b (b * 4311810305) h (omega arith) (omega arith))
    (digit (b * 1) b (b * 1103823438081) h (omega arith) (omega arith))
    (digit (b * 0) b (b * 282578800148737) h (omega arith) (omega arith))
    k

-- lane k of what lies in lane o
module _ (b o k : ℕ) (low : b < 256) where
  beyond : o < k → b * 2 ^ (8 * o) / 2 ^ (8 * k) % 256 ≡ 0
  beyond l =
      let p : b * 2 ^ (8 * o) < 2 ^ (8 + 8 * o) = shl_lt 8 (8 * o) low in
      let q : 2 ^ (8 + 8 * o) ≤ 2 ^ (8 * k) = pow_mono (omega arith) in
      let z : b * 2 ^ (8 * o) < 2 ^ (8 * k) = omega arith in
      rw (div-eq_of_lt z)

  short : k < o → b * 2 ^ (8 * o) / 2 ^ (8 * k) % 256 ≡ 0
  short l =
      let n : ℕ = 8 * (o - k - 1) in
      let e : 8 * o ≡ n + 8 + 8 * k = omega arith in
      rw (e, pow-add 2 (n + 8) (8 * k), pow-add 2 n 8, ← mul_assoc b (2 ^ n * 2 ^ 8) (2 ^ (8 * k)), shl-shr (b * (2 ^ n * 2 ^ 8)) (8 * k), ← mul_assoc b (2 ^ n) (2 ^ 8))
      (mul-mod_left (b * 2 ^ n) 256)

  lane_in : k < 8 → lane_at (in_lane b o) k ≡ if (eqb o k) b 0
  unfolding in_lane
  lane_in h =
      ⊎_elim
      (λ (q : o ≡ k). rw (q, lt-ltb k 8 h, eq-eqb k k refl, shl-shr b (8 * k)) (omega arith))
      (λ (q : o ≡ k → ⊥).
      ⊎_elim
      (λ (w : o < 8). rw (lt-ltb o 8 w, ne_eqb o k q) (⊎_elim (λ (l : o < k). beyond l) (λ (l : k ≤ o). short (omega arith)) (lt_or_ge o k)))
      (λ (w : 8 ≤ o). rw (le-ltb o 8 w, ne_eqb o k q, zero-div (2 ^ (8 * k))))
      (lt_or_ge o 8))
      (same_or_not o k)

chosen : (t : Bool) (r : ℕ) → r < 8 → top_of (if t (bit_of r) 0) ≡ if t r 0
unfolding bit_of
chosen true r h = top_bit r h
chosen false r h = top_bit 0 (omega arith)

module _ (r k : ℕ) (low : r < 8) (inside : k < 8) where
  pub class_in_lane : (o : ℕ) → class_in (in_lane (bit_of r) o) k ≡ if (eqb o k) r 0
  unfolding class_in
  class_in_lane o = ap top_of (lane_in (bit_of r) o k (bit_low r low) inside) ∙ chosen (eqb o k) r low

  pub class_in_all : class_in (in_all (bit_of r)) k ≡ r
  unfolding class_in
  class_in_all = ap top_of (lane_all (bit_of r) k (bit_low r low) inside) ∙ top_bit r low
