-- Which controllers are looked at: the next one that is due is found, and whoever is passed over does not ask, in a still crossing.
-- Trailing zeros make a number an odd multiple of a power of two, so every bit below is 0; all eight bits of 255 are set.
use mathlib.Core.Path.{◌≡◌, refl, ap, sym, ◌∙◌}
use mathlib.Core.Logic.{◌⊎◌, inl, inr, ⊎_elim}
use mathlib.Core.Bool.{Bool, true, false, ◌&&◌, false≢true}
use mathlib.Core.List.{List}
use Prim.Native.Nat.{ℕ, zero, suc, ◌+◌, ◌-◌, ◌*◌, ◌/◌, ◌%◌, ◌^◌, ◌≤◌, ◌<◌}
use native.Mathlib.Nat.{pow-suc, zero-div, mul_assoc, mul-mod_left, mul-le-mul_right}
use native.Mathlib.Omega.{arith}
use borrow.Author.Tests.{eqb-true, eqb-false, ne_eqb}
use lib.Count.{count_trailing_zeros, under}
use lib.Dec.{eqb}
use lib.ListN.{get_or}
use lib.Pow.{pow_mono, pow-add, shl-shr, shr-shr, shr_lt}
use Rattle.laws.proofs.Bools.{both, if_has}
use Rattle.laws.proofs.Tests.{either, same_or_not, lt_or_ge}
use Rattle.settings.specs.declared.Settings.{Settings}
use Rattle.settings.specs.Names.{schedule_of}
use Rattle.states.specs.Moves.{orbit_code}
use Rattle.ptc.specs.declared.Ptc.{Ptc}
use Rattle.ptc.specs.declared.Plan.{Plan}
use Rattle.ptc.specs.declared.Scene.{Scene}
use Rattle.ptc.specs.Support.Rest.{at_rest}
use Rattle.ptc.proofs.Rest.{rest_crossed, rest_silent}
use Rattle.records.specs.Records.{asked_in}
use Rattle.kit.specs.Support.Laid.{busy_of, plain_in}
use Rattle.kit.proofs.Busy.{plain_apart}
use Rattle.eight.specs.Eight.{act_of}
use Rattle.still.specs.Support.Still.{due_of, next_due}

-- w is an odd multiple of 2 ^ t
record Odd (w t : ℕ) : Type 0 where
  half : ℕ
  is : w ≡ (half * 2 + 1) * 2 ^ t

trailing_odd : (n w : ℕ) → 0 < w → w < 2 ^ n → (count_trailing_zeros n w < n) × Odd w (count_trailing_zeros n w)
unfolding count_trailing_zeros
trailing_odd zero w p h = absurd (omega arith)
trailing_odd (suc n) w p h =
    let e : 2 ^ suc n ≡ 2 ^ n * 2 = pow-suc 2 n in
    go (λ l. trailing_odd n (w / 2) l (omega arith)) (same_or_not (w % 2) 0)
  where
    go : (0 < w / 2 → (count_trailing_zeros n (w / 2) < n) × Odd (w / 2) (count_trailing_zeros n (w / 2))) → (w % 2 ≡ 0) ⊎ (w % 2 ≡ 0 → ⊥)
        → (under (w % 2) (count_trailing_zeros n (w / 2)) < suc n) × Odd w (under (w % 2) (count_trailing_zeros n (w / 2)))
    go r (inl e) =
        let i = r (omega arith) in
        let t = count_trailing_zeros n (w / 2) in
        let k = i.1.half * 2 + 1 in
        let f : w ≡ w / 2 * 2 = omega arith in
        rw e (omega (arith, i.0), record { half = i.1.half; is = f ∙ ap (λ (x : ℕ). x * 2) i.1.is ∙ mul_assoc k (2 ^ t) 2 ∙ rw (pow-suc 2 t) })
    go r (inr d) =
        let e : w % 2 ≡ 1 = omega arith in
        rw e (omega arith, record { half = w / 2; is = omega arith })

-- no bit below its own is in a multiple of a power of two
bit_below : (x t i : ℕ) → i < t → x * 2 ^ t / 2 ^ i % 2 ≡ 0
bit_below x t i l =
    let n : ℕ = t - i - 1 in
    let z : t ≡ n + 1 + i = omega arith in
    rw (z, pow-add 2 (n + 1) i, pow-add 2 n 1, ← mul_assoc x (2 ^ n * 2 ^ 1) (2 ^ i), shl-shr (x * (2 ^ n * 2 ^ 1)) i, ← mul_assoc x (2 ^ n) (2 ^ 1))
    (mul-mod_left (x * 2 ^ n) 2)

unasked : (w i : ℕ) → w / 2 ^ i % 2 ≡ 0 → asked_in w i ≡ false
unfolding asked_in
unasked w i e = rw e

-- ---- the next that is due

module _ (due k : ℕ) (low : due < 256) (within : k ≤ 8) where
  rest_low : due / 2 ^ k < 2 ^ (8 - k)
  rest_low = let z : 8 - k + k ≡ 8 = omega arith in shr_lt (8 - k) k (rw z low)

  -- the rest is 0, or has its lowest bit below 8 - k
  lowest : eqb (due / 2 ^ k) 0 ≡ false → (count_trailing_zeros 64 (due / 2 ^ k) < 8 - k) × Odd (due / 2 ^ k) (count_trailing_zeros 64 (due / 2 ^ k))
  lowest e =
      let w : ℕ = due / 2 ^ k in
      let some : 0 < w = omega (arith, eqb-false w 0 e) in
      let fits : w < 2 ^ 64 = omega (arith, rest_low, pow_mono {i = 8 - k} {j = 8} (omega arith)) in
      let o = (trailing_odd 64 w some fits).1 in
      let t : ℕ = count_trailing_zeros 64 w in
      let most : 1 * 2 ^ t ≤ (o.half * 2 + 1) * 2 ^ t = mul-le-mul_right (2 ^ t) (omega arith) in
      ⊎_elim
      (λ (l : t < 8 - k). (l, o))
      (λ (l : 8 - k ≤ t). absurd (omega (arith, rest_low, most, o.is, pow_mono {i = 8 - k} {j = t} l)))
      (lt_or_ge t (8 - k))

  pub next_after : k ≤ next_due due k
  unfolding next_due
  next_after = if_has (λ (n : ℕ). k ≤ n) (eqb (due / 2 ^ k) 0) _ _ (λ e. within) (λ e. omega arith)

  pub next_most : next_due due k ≤ 8
  unfolding next_due
  next_most = if_has (λ (n : ℕ). n ≤ 8) (eqb (due / 2 ^ k) 0) _ _ (λ e. omega arith) (λ e. omega (arith, (lowest e).0))

  -- none from k on is due before it
  pub next_skips : (j : ℕ) → k ≤ j → j < next_due due k → asked_in due j ≡ false
  unfolding next_due
  next_skips j from = if_has (λ (n : ℕ). j < n → asked_in due j ≡ false) (eqb (due / 2 ^ k) 0) _ _
      (λ e h.
      let z : k + (j - k) ≡ j = omega arith in
      let f : due / 2 ^ j ≡ 0 = ap (λ (i : ℕ). due / 2 ^ i) (sym z) ∙ sym (shr-shr due k (j - k)) ∙ rw (eqb-true (due / 2 ^ k) 0 e) (zero-div (2 ^ (j - k))) in
      unasked due j (rw f))
      (λ e h.
      let z : k + (j - k) ≡ j = omega arith in
      let o = (lowest e).1 in
      let f : due / 2 ^ j ≡ (o.half * 2 + 1) * 2 ^ count_trailing_zeros 64 (due / 2 ^ k) / 2 ^ (j - k) =
      ap (λ (i : ℕ). due / 2 ^ i) (sym z) ∙ sym (shr-shr due k (j - k)) ∙ ap (λ (w : ℕ). w / 2 ^ (j - k)) o.is in
      unasked due j (rw f (bit_below (o.half * 2 + 1) _ (j - k) (omega arith))))

-- ---- who is passed over

all_due : (j : ℕ) → j < 8 → asked_in 255 j ≡ true
unfolding asked_in
all_due zero h = refl
all_due (suc zero) h = refl
all_due (suc (suc zero)) h = refl
all_due (suc (suc (suc zero))) h = refl
all_due (suc (suc (suc (suc zero)))) h = refl
all_due (suc (suc (suc (suc (suc zero))))) h = refl
all_due (suc (suc (suc (suc (suc (suc zero)))))) h = refl
all_due (suc (suc (suc (suc (suc (suc (suc zero))))))) h = refl
all_due (suc (suc (suc (suc (suc (suc (suc (suc j)))))))) h = absurd (omega arith)

pub record Passed (still : Bool) (busy : List ℕ) (number requests j : ℕ) : Type 0 where
  pub rests : still ≡ true
  pub plain : plain_in busy number ≡ true
  pub silent : asked_in requests j ≡ false

module _ (still : Bool) (busy : List ℕ) (number requests : ℕ) where
  pub passed : (j : ℕ) → j < 8 → asked_in (due_of still busy number requests) j ≡ false → Passed still busy number requests j
  unfolding due_of
  passed j h e =
      ⊎_elim
      (λ (t : still && plain_in busy number ≡ true).
      let w = both still (plain_in busy number) t in
      record { rests = w.0; plain = w.1; silent = rw t at e })
      (λ (f : still && plain_in busy number ≡ false). absurd (false≢true (sym (rw f at e) ∙ all_due j h)))
      (either (still && plain_in busy number))

  pub due_moving : still ≡ false → 255 ≡ due_of still busy number requests
  unfolding due_of
  due_moving e = rw e

  pub due_plain : still ≡ true → plain_in busy number ≡ true → requests ≡ due_of still busy number requests
  unfolding due_of
  due_plain e f = rw (e, f)

  pub due_dated : still ≡ true → plain_in busy number ≡ false → 255 ≡ due_of still busy number requests
  unfolding due_of
  due_dated e f = rw (e, f)

  pub due_low : requests < 256 → due_of still busy number requests < 256
  unfolding due_of
  due_low h = if_has (λ (n : ℕ). n < 256) (still && plain_in busy number) requests 255 (λ e. h) (λ e. omega arith)

-- at a plain number no controller sends a code of its own accord
pub plain_code : (s : Settings) (number k : ℕ) → plain_in (busy_of s) number ≡ true → k < 8 → orbit_code (schedule_of s k) number ≡ 0
unfolding orbit_code
plain_code s number k e h =
    let apart = plain_apart s number e k h in
    rw (ne_eqb number (schedule_of s k).bc0 apart.0, ne_eqb number (schedule_of s k).gap apart.1)

-- a controller at rest that does not ask is left as it is, and sends nothing
pub passed_over : (plan : Plan) (scene : Scene) (classes : List ℕ) (requests k : ℕ) (p : Ptc) → at_rest (get_or classes k 0) p ≡ true
    → orbit_code plan.at scene.number ≡ 0 → asked_in requests k ≡ false
    → act_of plan scene classes requests k p ≡ record { ptc = p; code = 0; sent = false; cal = false }
unfolding act_of
passed_over plan scene classes requests k p rests plain silent =
    rest_crossed plan scene k (get_or classes k 0) _ p rests ∙ rw silent (rest_silent plan.gap _ scene k p ∙ rw plain)
