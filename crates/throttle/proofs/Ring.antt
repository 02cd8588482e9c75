-- Laws of the ring: a crossing's mark is what was put, the others stay, and each lies one further back after it.
-- Crossings less than 2,048 apart have different places; the one place beyond the last 2,047 is cleared.
use mathlib.Core.Path.{◌≡◌, sym, ◌∙◌}
use mathlib.Core.Logic.{◌≢◌}
use mathlib.Core.Bool.{Bool, true, false}
use mathlib.Core.List.{List}
use Prim.Native.Nat.{ℕ, zero, suc, ◌+◌, ◌-◌, ◌/◌, ◌%◌, ◌≤◌, ◌<◌}
use native.Mathlib.Numerals.{add-one}
use native.Mathlib.Omega.{arith}
use native.Mathlib.Decide.{dec_lt, ℕ_discrete}
use lib.ListN.{length, length-set}
use lib.Dec.{ltb}
use lib.Seq.{get_or-set_same, get_or-set_other}
use borrow.Author.Tests.{lt-ltb, le-ltb}
use Rattle.laws.specs.Base.{if}
use Rattle.throttle.specs.Marks.{bit_at, mark_at, marked, passed, mark_back, among}
use Rattle.throttle.specs.Ring.{Marking}
use Rattle.throttle.proofs.Bits.{bit_put, bit_other}

bit_le : (w k : ℕ) → bit_at w k ≤ 1
unfolding bit_at
bit_le w k = omega arith

pub back_le : (ws : List ℕ) (n d : ℕ) → mark_back ws n d ≤ 1
unfolding mark_back mark_at
back_le ws n d = go (ltb d n)
  where
    go : (t : Bool) → if t (mark_at ws (n - 1 - d)) 0 ≤ 1
    go true = bit_le _ _
    go false = omega arith

pub among_le : (ws : List ℕ) (n k : ℕ) → among ws n k ≤ k
unfolding among
among_le ws n zero = omega arith
among_le ws n (suc k) = omega (arith, among_le ws n k, back_le ws n k)

pub marked_long : (ws : List ℕ) (c x : ℕ) → length (marked ws c x) ≡ length ws
unfolding marked
marked_long ws c x = length-set ws _ _

pub passed_long : (ws : List ℕ) (c x : ℕ) → length (passed ws c x) ≡ length ws
unfolding passed
passed_long ws c x = marked_long (marked ws c x) (c + 1) 0 ∙ marked_long ws c x

module _ (ws : List ℕ) (l : length ws ≡ 32) (x : ℕ) (b : x < 2) where
  pub mark_new : (c : ℕ) → mark_at (marked ws c x) c ≡ x
  unfolding mark_at marked
  mark_new c =
      let h : c / 64 % 32 < length ws = omega arith in
      rw (get_or-set_same ws (c / 64 % 32) _ 0 h) (bit_put _ _ x b)

  pub mark_old : (c e : ℕ) → e % 2048 ≢ c % 2048 → mark_at (marked ws c x) e ≡ mark_at ws e
  unfolding mark_at marked
  mark_old c e ne = go (ℕ_discrete (e / 64 % 32) (c / 64 % 32))
    where
      go : Dec (e / 64 % 32 ≡ c / 64 % 32) → mark_at (marked ws c x) e ≡ mark_at ws e
      go (no d) = rw (get_or-set_other ws (c / 64 % 32) (e / 64 % 32) _ 0 d)
      go (yes q) =
          let h : c / 64 % 32 < length ws = omega arith in
          let k : e % 64 ≢ c % 64 = λ p. ne (omega arith) in
          rw (q, get_or-set_same ws (c / 64 % 32) _ 0 h) (bit_other _ (e % 64) (c % 64) x b k)

-- a mark as it is read back, from that of its crossing
pub back_at : (ws : List ℕ) (n d : ℕ) → d < n → mark_back ws n d ≡ mark_at ws (n - 1 - d)
unfolding mark_back
back_at ws n d h = rw (lt-ltb d n h)

pub back_none : (ws : List ℕ) (n d : ℕ) → n ≤ d → mark_back ws n d ≡ 0
unfolding mark_back
back_none ws n d h = rw (le-ltb d n h)

module _ (ws : List ℕ) (l : length ws ≡ 32) (x : ℕ) (b : x < 2) (n : ℕ) where
  -- clearing the next place changes no mark of the last 2,047
  cleared : (e : ℕ) → e ≤ n → n < e + 2047 → mark_at (passed ws n x) e ≡ mark_at (marked ws n x) e
  unfolding passed
  cleared e h near = mark_old (marked ws n x) (marked_long ws n x ∙ l) 0 (omega arith) (n + 1) e (omega arith)

  -- after crossing n, its mark is the newest, and every other lies one further back
  pub passed_new : mark_back (passed ws n x) (n + 1) 0 ≡ x
  passed_new =
      let e : n + 1 - 1 - 0 ≡ n = omega arith in
      back_at (passed ws n x) (n + 1) 0 (omega arith)
      ∙ rw e (cleared n (omega arith) (omega arith) ∙ mark_new ws l x b n)

  pub passed_old : (d : ℕ) → d < 2046 → mark_back (passed ws n x) (n + 1) (d + 1) ≡ mark_back ws n d
  passed_old d h = go (dec_lt d n)
    where
      go : Dec (d < n) → mark_back (passed ws n x) (n + 1) (d + 1) ≡ mark_back ws n d
      go (yes p) =
          let e : n + 1 - 1 - (d + 1) ≡ n - 1 - d = omega arith in
          back_at (passed ws n x) (n + 1) (d + 1) (omega arith)
          ∙ rw e (cleared (n - 1 - d) (omega arith) (omega arith) ∙ mark_old ws l x b n (n - 1 - d) (omega arith) ∙ sym (back_at ws n d p))
      go (no p) = back_none (passed ws n x) (n + 1) (d + 1) (omega arith) ∙ sym (back_none ws n d (omega arith))

  pub passed_among : (k : ℕ) → k < 2047 → among (passed ws n x) (n + 1) (suc k) ≡ x + among ws n k
  unfolding among
  passed_among zero h = rw passed_new (omega arith)
  passed_among (suc k) h = rw (passed_among k (omega arith), ← add-one k, passed_old k (omega arith)) (omega arith)

pub marking : Marking
marking ws n x l b = record { newest = passed_new ws l x b n; older = passed_old ws l x b n }
