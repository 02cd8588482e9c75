-- The words of a ring as a list: its length, a place modulo 1,024, words dropped in front and one laid behind, and the words one by one.
-- By induction on how many words are in use.
use mathlib.Core.Path.{◌≡◌, refl, sym, subst, ap, ap₂}
use mathlib.Core.Logic.{◌≢◌}
use mathlib.Core.List.{List, [], ◌∷◌, ◌++◌}
use Prim.Native.Nat.{ℕ, zero, suc, ◌+◌, ◌-◌, ◌%◌, ◌<◌}
use native.Mathlib.Nat.{add-zero, sub-zero}
use native.Mathlib.Omega.{arith}
use lib.ListN.{length, get_or, set, drop}
use lib.Seq.{get_or-set_same, get_or-set_other}
use Rattle.history.specs.Store.{content}

module _ (ws : List ℕ) where
  pub content_long : (o n : ℕ) → length (content ws o n) ≡ n
  unfolding content
  content_long o zero = refl
  content_long o (suc n) = ap suc (content_long (suc o) n)

  pub content_mod : (o q n : ℕ) → o % 1024 ≡ q % 1024 → content ws o n ≡ content ws q n
  unfolding content
  content_mod o q zero h = refl
  content_mod o q (suc n) h =
      ap₂ (λ (a : ℕ) (r : List ℕ). a ∷ r) (ap (λ (i : ℕ). get_or ws i 0) h) (content_mod (suc o) (suc q) n (omega arith))

  pub content_drop : (k o n : ℕ) → drop k (content ws o n) ≡ content ws (o + k) (n - k)
  unfolding content
  content_drop zero o n = rw (add-zero, sub-zero)
  content_drop (suc k) o zero = let e : 0 - suc k ≡ 0 = omega arith in rw e refl
  content_drop (suc k) o (suc n) =
      let e : suc n - suc k ≡ n - k = omega arith in
      let f : o + suc k ≡ suc o + k = omega arith in
      rw (e, f) (content_drop k (suc o) n)

  pub content_push : length ws ≡ 1024 → (o n w : ℕ) → n < 1024 → content (set ws ((o + n) % 1024) w) o (suc n) ≡ content ws o n ++ (w ∷ [])
  unfolding content
  content_push l o zero w h =
      let q : o % 1024 < length ws = omega arith in
      rw (add-zero, get_or-set_same ws (o % 1024) w 0 q)
  content_push l o (suc n) w h =
      let d : o % 1024 ≢ (o + suc n) % 1024 = λ e. omega arith in
      let f : o + suc n ≡ suc o + n = omega arith in
      ap₂ (λ (a : ℕ) (r : List ℕ). a ∷ r) (get_or-set_other ws ((o + suc n) % 1024) (o % 1024) w 0 d) (subst (λ (i : ℕ). content (set ws (i % 1024) w) (suc o) (suc n) ≡ content ws (suc o) n ++ (w ∷ [])) (sym f) (content_push l (suc o) n w (omega arith)))

  -- the words one by one: the first and those behind it, or none
  pub content_first : (o n : ℕ) → o < 1024 → 0 < n → content ws o n ≡ get_or ws o 0 ∷ content ws ((o + 1) % 1024) (n - 1)
  unfolding content
  content_first o zero h p = absurd (omega arith)
  content_first o (suc n) h p =
      let q : o % 1024 ≡ o = omega arith in
      let f : suc n - 1 ≡ n = omega arith in
      rw (q, f) (ap (λ (r : List ℕ). get_or ws o 0 ∷ r) (content_mod (suc o) ((o + 1) % 1024) n (omega arith)))

  pub content_none : (o n : ℕ) → n ≡ 0 → content ws o n ≡ []
  unfolding content
  content_none o n e = rw e
