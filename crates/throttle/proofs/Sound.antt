-- Laws of clear places: a loop that stops at the first mark decides them, and each is told by its distance from the first.
-- The ring starts sound, by computation; a crossing keeps it so: it clears the next place, and the places further on are not its own.
use mathlib.Core.Path.{◌≡◌, refl, ◌∙◌}
use mathlib.Core.Logic.{◌≢◌}
use mathlib.Core.Bool.{true, false}
use mathlib.Core.List.{List}
use Prim.Native.Nat.{ℕ, zero, suc, ◌+◌, ◌-◌, ◌≤◌, ◌<◌, min}
use native.Mathlib.Nat.{add-zero, add-suc, suc-add, le_of_suc-le-suc, not-suc-le-zero}
use native.Mathlib.Numerals.{add-one}
use native.Mathlib.Omega.{arith}
use lib.Dec.{eqb}
use Rattle.std.specs.List.{list_all, range_with_len}
use lib.ListN.{length, replicate}
use borrow.Author.Tests.{eq-eqb, ne_eqb, eqb-true}
use Rattle.laws.proofs.Bools.{both, and_yes}
use Rattle.throttle.specs.Marks.{bit_at, mark_at, marked, passed}
use Rattle.throttle.specs.Sound.{clear_from, sound_marks}
use Rattle.throttle.proofs.Ring.{marked_long, mark_new, mark_old}

-- a test of all the distances from the first decides them
clear_all : (ws : List ℕ) (c a m : ℕ) → list_all (λ d. eqb (mark_at ws (c + d)) 0) (range_with_len a m) ≡ clear_from ws (c + a) m
unfolding clear_from
clear_all ws c a zero = refl
clear_all ws c a (suc m) = rw (clear_all ws c (a + 1) m, add-one, add-suc)

pub sound_all : (ws : List ℕ) (n m : ℕ) → m ≡ min n 2047 → list_all (λ d. eqb (mark_at ws (n + d)) 0) (range_with_len 0 (2048 - m)) ≡ sound_marks n ws
unfolding sound_marks
sound_all ws n m e = rw e (rw add-zero at (clear_all ws n 0 (2048 - min n 2047)))

-- a place more, and the two ends
module _ (ws : List ℕ) (c : ℕ) where
  pub clear_next : (m : ℕ) → 0 < m → mark_at ws c ≡ 0 → clear_from ws c m ≡ clear_from ws (c + 1) (m - 1)
  unfolding clear_from
  clear_next zero h e = absurd (not-suc-le-zero h)
  clear_next (suc m) h e = let less : suc m - 1 ≡ m = omega arith in rw (eq-eqb (mark_at ws c) 0 e, add-one, less)

  pub clear_stop : (m : ℕ) → 0 < m → mark_at ws c ≢ 0 → clear_from ws c m ≡ false
  unfolding clear_from
  clear_stop zero h e = absurd (not-suc-le-zero h)
  clear_stop (suc m) h e = rw (ne_eqb (mark_at ws c) 0 e)

  pub clear_end : (m : ℕ) → m ≤ 0 → clear_from ws c m ≡ true
  unfolding clear_from
  clear_end zero h = refl
  clear_end (suc m) h = absurd (not-suc-le-zero h)

-- the places by their distance from the first
pub clear_at : (ws : List ℕ) (c m d : ℕ) → clear_from ws c m ≡ true → d < m → mark_at ws (c + d) ≡ 0
unfolding clear_from
clear_at ws c zero d e h = absurd (not-suc-le-zero h)
clear_at ws c (suc m) zero e h = rw add-zero (eqb-true (mark_at ws c) 0 (both (eqb (mark_at ws c) 0) (clear_from ws (suc c) m) e).0)
clear_at ws c (suc m) (suc d) e h =
    rw (add-suc, ← suc-add) (clear_at ws (suc c) m d (both (eqb (mark_at ws c) 0) (clear_from ws (suc c) m) e).1 (le_of_suc-le-suc h))

pub clear_from_lem : (ws : List ℕ) (c m : ℕ) → ((d : ℕ) → d < m → mark_at ws (c + d) ≡ 0) → clear_from ws c m ≡ true
unfolding clear_from
clear_from_lem ws c zero f = refl
clear_from_lem ws c (suc m) f =
    and_yes _ _ (eq-eqb (mark_at ws c) 0 (rw add-zero at (f 0 (omega arith)))) (clear_from_lem ws (suc c) m later)
  where
    later : (d : ℕ) → d < m → mark_at ws (suc c + d) ≡ 0
    later d h = rw (suc-add, ← add-suc) (f (suc d) (omega arith))

pub fresh_marks_sound : sound_marks 0 (replicate 32 0) ≡ true
unfolding sound_marks clear_from mark_at bit_at
fresh_marks_sound = refl

pub passed_sound : (ws : List ℕ) (n x : ℕ) → length ws ≡ 32 → x < 2 → sound_marks n ws ≡ true → sound_marks (n + 1) (passed ws n x) ≡ true
unfolding sound_marks passed
passed_sound ws n x l b e = clear_from_lem (passed ws n x) (n + 1) (2048 - min (n + 1) 2047) clear
  where
    long : length (marked ws n x) ≡ 32
    long = marked_long ws n x ∙ l

    clear : (d : ℕ) → d < 2048 - min (n + 1) 2047 → mark_at (passed ws n x) (n + 1 + d) ≡ 0
    clear zero h = rw add-zero (mark_new (marked ws n x) long 0 (omega arith) (n + 1))
    clear (suc d) h =
        let same : n + 1 + suc d ≡ n + (d + 2) = omega arith in
        mark_old (marked ws n x) long 0 (omega arith) (n + 1) (n + 1 + suc d) (omega arith)
        ∙ mark_old ws l x b n (n + 1 + suc d) (omega arith)
        ∙ rw same (clear_at ws n (2048 - min n 2047) (d + 2) e (omega arith))
