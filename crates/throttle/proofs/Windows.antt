-- The window fact, once for any period and any limit; its companion for a trigger sent under a lower limit; and that a ring and a list of marks go on telling the same.
-- By induction on the list: a stretch that begins with a mark was counted when the mark was set, one that does not holds no more than the stretch before.
use mathlib.Core.Path.{◌≡◌, refl, sym, ap, ◌∙◌}
use mathlib.Core.List.{List, [], ◌∷◌}
use Prim.Native.Nat.{ℕ, zero, suc, ◌+◌, ◌-◌, ◌/◌, ◌%◌, ◌^◌, ◌≤◌, ◌<◌}
use native.Mathlib.Nat.{zero-div}
use native.Mathlib.Numerals.{add-one}
use native.Mathlib.Omega.{arith}
use native.Mathlib.Decide.{ℕ_discrete}
use lib.Dec.{ltb}
use lib.ListN.{length, get_or, drop, replicate, get_or-replicate}
use Rattle.laws.proofs.Bools.{if_has}
use Rattle.throttle.specs.Marks.{passed, bit_at, mark_at, mark_back, among}
use Rattle.throttle.specs.Windows.{count_of, Kept, Tells}
use Rattle.throttle.proofs.Ring.{passed_new, passed_old}

count_more : (k : ℕ) (ms : List ℕ) → count_of k ms ≤ count_of (suc k) ms
unfolding count_of
count_more zero [] = omega arith
count_more zero (x ∷ ms) = omega arith
count_more (suc k) [] = omega arith
count_more (suc k) (x ∷ ms) = omega (arith, count_more k ms)

newest : (before limit : ℕ) (ms : List ℕ) → Kept before limit ms → count_of (suc before) ms ≤ limit
unfolding count_of
newest before limit [] kept = omega arith
newest before limit (x ∷ ms) kept = go (ℕ_discrete x 1) (newest before limit ms kept.2)
  where
    go : Dec (x ≡ 1) → count_of (suc before) ms ≤ limit → x + count_of before ms ≤ limit
    go (yes e) older = omega (arith, kept.1 e)
    go (no e) older = omega (arith, kept.0, count_more before ms)

-- no stretch of period crossings, wherever it begins, holds more marks than the limit
pub window : (before limit : ℕ) (ms : List ℕ) → Kept before limit ms → (from : ℕ) → count_of (before + 1) (drop from ms) ≤ limit
window before limit ms kept zero = rw add-one (newest before limit ms kept)
window before limit [] kept (suc from) = rw add-one (newest before limit [] tt)
window before limit (x ∷ ms) kept (suc from) = window before limit ms kept.2 from

-- a trigger sent under a lower limit: the period that ends with it holds at most that limit
pub window_low : (before low : ℕ) (ms : List ℕ) → count_of before ms + 1 ≤ low → count_of (before + 1) (1 ∷ ms) ≤ low
unfolding count_of
window_low before low ms h = rw add-one (omega arith)

-- ---- a ring and a list

count_next : (k : ℕ) (ms : List ℕ) → count_of (suc k) ms ≡ count_of k ms + get_or ms k 0
unfolding count_of
count_next zero [] = refl
count_next zero (x ∷ ms) = omega arith
count_next (suc k) [] = refl
count_next (suc k) (x ∷ ms) = omega (arith, count_next k ms)

pub tells_count : (ws : List ℕ) (n : ℕ) (ms : List ℕ) → Tells ws n ms → (k : ℕ) → k ≤ 2047 → among ws n k ≡ count_of k ms
unfolding among count_of
tells_count ws n ms t zero h = refl
tells_count ws n ms t (suc k) h = rw (tells_count ws n ms t k (omega arith), t.same k h) (sym (count_next k ms))

-- a crossing's mark joins both in front
pub tells_on : (ws : List ℕ) (n : ℕ) (ms : List ℕ) (x : ℕ) → length ws ≡ 32 → x < 2 → Tells ws n ms → Tells (passed ws n x) (n + 1) (x ∷ ms)
tells_on ws n ms x long bit t = record { same = go }
  where
    go : (d : ℕ) → d < 2047 → mark_back (passed ws n x) (n + 1) d ≡ get_or (x ∷ ms) d 0
    go zero h = passed_new ws long x bit n
    go (suc d) h = rw (← add-one d) (passed_old ws long x bit n d (omega arith) ∙ t.same d (omega arith))

-- ---- no earlier trigger, whatever the crossing

zero_bit : (k : ℕ) → bit_at 0 k ≡ 0
unfolding bit_at
zero_bit k = rw (zero-div (2 ^ k))

unmarked : (c : ℕ) → mark_at (replicate 32 0) c ≡ 0
unfolding mark_at
unmarked c =
    let place : c / 64 % 32 < 32 = omega arith in
    ap (λ (w : ℕ). bit_at w (c % 64)) (get_or-replicate {A = ℕ} 32 (c / 64 % 32) 0 0 place) ∙ zero_bit (c % 64)

pub none_told : (n : ℕ) → Tells (replicate 32 0) n []
unfolding mark_back
none_told n = record { same = λ d h. if_has (λ (x : ℕ). x ≡ 0) (ltb d n) _ 0 (λ e. unmarked (n - 1 - d)) (λ e. refl) }
