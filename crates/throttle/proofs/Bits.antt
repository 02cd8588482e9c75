-- A bit put into a word: the word still fits, the bit is what was put, and every other bit is as it was.
-- By cutting the word at the bit, into a quotient and a remainder by a power of two.
use mathlib.Core.Path.{◌≡◌, ap, sym, ◌∙◌}
use mathlib.Core.Logic.{◌≢◌}
use Prim.Native.Nat.{ℕ, zero, suc, ◌+◌, ◌-◌, ◌*◌, ◌/◌, ◌%◌, ◌^◌, ◌<◌}
use native.Mathlib.Nat.{zero-mul, one-mul, pow-suc, mul_assoc, mul_comm, mod-lt, div-lt_iff_lt-mul, div-div-eq-div-mul, mul-add-div_right}
use native.Mathlib.Omega.{arith}
use native.Mathlib.Numerals.{add-one}
use native.Mathlib.Decide.{dec_lt}
use mathlib.Core.Logic.{⊎_elim}
use Rattle.laws.proofs.Tests.{same_or_not}
use lib.Arith.{digits_lt, digits_div}
use lib.Pow.{pow_pos, pow-add, shl_exact, shr-shr, field, mod-mod-pow}
use lib.Bits.{bit_and, bit_or, or_lt, and_le_l}
use Rattle.std.specs.Int as std
use Rattle.std.specs.Int.{w64}
use Rattle.std.proofs.lemmas.Nat.Bits.{bit_at_or, bit_at_clear_same, bit_at_clear_other, bit_at-pow_same, bit_at-pow_other, bit_at-zero, same_from_bits_below}
use Rattle.throttle.specs.Marks.{bit_at, put_bit}

pub shifted_one : (k : ℕ) → k < 64 → (1 * 2 ^ k) % 2 ^ 64 ≡ 2 ^ k
shifted_one k h = shl_exact 1 k 64 (omega arith) (omega arith) ∙ one-mul (2 ^ k)

-- the word's parts above and below bit k
module _ (w k x : ℕ) (wf : w < 2 ^ 64) (h : k < 64) (b : x < 2) where
  split : 2 ^ (64 - k) * 2 ^ k ≡ 2 ^ 64
  split = let e : 64 - k + k ≡ 64 = omega arith in sym (pow-add 2 (64 - k) k) ∙ ap (λ (n : ℕ). 2 ^ n) e

  even : 2 ^ (64 - k) ≡ 2 ^ (63 - k) * 2
  even = let e : 64 - k ≡ suc (63 - k) = omega arith in rw (e, pow-suc)

  above : w / 2 ^ k < 2 ^ (64 - k)
  above = (div-lt_iff_lt-mul (pow_pos k)).1 (rw split wf)

  pub new_above : w / 2 ^ k / 2 * 2 + x < 2 ^ (64 - k)
  new_above = omega (arith, above, even)

  pub put_lt : put_bit w k x < 2 ^ 64
  unfolding put_bit
  put_lt = rw split at (digits_lt new_above (mod-lt w (pow_pos k)))

-- the bit that was put
pub bit_put : (w k x : ℕ) → x < 2 → bit_at (put_bit w k x) k ≡ x
unfolding bit_at put_bit
bit_put w k x b = rw (digits_div (w / 2 ^ k / 2 * 2 + x) (mod-lt w (pow_pos k))) (omega arith)

-- a bit above, and a bit below
bit_above : (w k i x : ℕ) → x < 2 → bit_at (put_bit w k x) (k + suc i) ≡ bit_at w (k + suc i)
unfolding bit_at put_bit
bit_above w k i x b =
    let q = w / 2 ^ k in
    let e : (q / 2 * 2 + x) / 2 ≡ q / 2 = omega arith in
    ap (λ (n : ℕ). n % 2)
    (sym (shr-shr ((q / 2 * 2 + x) * 2 ^ k + w % 2 ^ k) k (suc i))
    ∙ ap (λ (n : ℕ). n / 2 ^ suc i) (digits_div (q / 2 * 2 + x) (mod-lt w (pow_pos k)))
    ∙ halved (q / 2 * 2 + x)
    ∙ ap (λ (n : ℕ). n / 2 ^ i) e
    ∙ sym (halved q)
    ∙ shr-shr w k (suc i))
  where
    halved : (n : ℕ) → n / 2 ^ suc i ≡ n / 2 / 2 ^ i
    halved n = rw (pow-suc, mul_comm) (sym (div-div-eq-div-mul n 2 (2 ^ i)))

bit_below : (w j i x : ℕ) → bit_at (put_bit w (suc i + j) x) j ≡ bit_at w j
unfolding bit_at put_bit
bit_below w j i x =
    let q = w / 2 ^ (suc i + j) / 2 * 2 + x in
    let a = w / 2 ^ j % 2 ^ suc i in
    let e : q * 2 ^ (suc i + j) ≡ q * 2 ^ suc i * 2 ^ j = rw (pow-add, mul_assoc) in
    let f : a % 2 ≡ w / 2 ^ j % 2 = rw (← add-one i) (mod-mod-pow (w / 2 ^ j) i 1) in
    let g : q * 2 ^ suc i ≡ q * 2 ^ i * 2 = rw (pow-suc, mul_assoc) in
    rw (e, mul-add-div_right (pow_pos j), field, g) (omega (arith, f))

pub bit_other : (w j k x : ℕ) → x < 2 → j ≢ k → bit_at (put_bit w k x) j ≡ bit_at w j
bit_other w j k x b ne = go (dec_lt j k)
  where
    go : Dec (j < k) → bit_at (put_bit w k x) j ≡ bit_at w j
    go (yes h) = let e : k ≡ suc (k - suc j) + j = omega arith in rw e (bit_below w j (k - suc j) x)
    go (no h) = let e : j ≡ k + suc (j - suc k) = omega arith in rw e (bit_above w k (j - suc k) x b)

-- x at bit k alone
placed_same : (k x : ℕ) → k < 64 → x < 2 → std.bit_at ((x * 2 ^ k) % 2 ^ 64) k ≡ x
placed_same k x h b = grind (arith, shifted_one, bit_at-pow_same, bit_at-zero)

placed_other : (k x i : ℕ) → k < 64 → x < 2 → i ≢ k → std.bit_at ((x * 2 ^ k) % 2 ^ 64) i ≡ 0
placed_other k zero i h b ne = rw (zero-mul (2 ^ k)) (bit_at-zero i)
placed_other k (suc zero) i h b ne = rw (shifted_one k h) (bit_at-pow_other k i ne)
placed_other k (suc (suc x)) i h b ne = absurd (omega arith)

-- so or-ing it to the word without bit k puts it there
pub put_is : (w k x : ℕ) → w < 2 ^ 64 → k < 64 → x < 2 → bit_or (bit_and w (2 ^ 64 - 1 - (1 * 2 ^ k) % 2 ^ 64)) ((x * 2 ^ k) % 2 ^ 64) ≡ put_bit w k x
unfolding bit_at
put_is w k x wf h b =
    let rest : ℕ = bit_and w (2 ^ 64 - 1 - (1 * 2 ^ k) % 2 ^ 64) in
    let new : ℕ = (x * 2 ^ k) % 2 ^ 64 in
    same_from_bits_below 64 (bit_or rest new) (put_bit w k x) (or_lt 64 rest new (omega (arith, and_le_l w (2 ^ 64 - 1 - (1 * 2 ^ k) % 2 ^ 64))) (omega arith)) (put_lt w k x wf h b)
    (λ i l.
    let each = bit_at_or rest new i in
    ⊎_elim
    (λ (e : i ≡ k). rw e (omega (arith, rw e at each, bit_at_clear_same w64 w k h, placed_same k x h b, bit_put w k x b)))
    (λ (ne : i ≡ k → ⊥). omega (arith, each, bit_at_clear_other w64 w k h i l ne, placed_other k x i h b ne, bit_other w i k x b ne))
    (same_or_not i k))
