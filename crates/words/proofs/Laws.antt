-- Whether n bytes are the same decides whether two lists of n are equal.
-- By induction on n, which gives each place; lists that agree at each place are equal.
use Rattle.std.proofs.Common.{◌≡◌, refl, sym, ◌∙◌, ℕ, zero, suc, ◌+◌, ◌-◌, ◌≤◌, ◌<◌, true, ◌&&◌, eqb, add-zero, add-suc, suc-add, List, length, get_or, arith, eq-eqb, eqb-true, not-suc-le-zero, ⊎_elim, ext_get_or, Decides}
use Rattle.laws.proofs.Bools.{both, and_yes}
use Rattle.laws.proofs.Tests.{lt_or_ge}
use Rattle.std.proofs.lemmas.Bool.Decides.{same_from_decides}
use Rattle.words.specs.Same.{same_bytes}
use Rattle.words.specs.Support.Words.{word_at, number_of}

same_get : (a b : List ℕ) (n : ℕ) → same_bytes n a b ≡ true → (k : ℕ) → k < n → get_or a k 0 ≡ get_or b k 0
unfolding same_bytes
same_get a b zero e k l = absurd (not-suc-le-zero l)
same_get a b (suc n) e k l =
    let w = both (same_bytes n a b) _ e in
    ⊎_elim (λ (h : k < n). same_get a b n w.0 k h) (λ (h : n ≤ k). let z : k ≡ n = omega arith in rw z (eqb-true _ _ w.1)) (lt_or_ge k n)

same_make : (a b : List ℕ) (n : ℕ) → ((k : ℕ) → k < n → get_or a k 0 ≡ get_or b k 0) → same_bytes n a b ≡ true
unfolding same_bytes
same_make a b zero h = refl
same_make a b (suc n) h = and_yes _ _ (same_make a b n (λ k l. h k (omega arith))) (eq-eqb _ _ (h n (omega arith)))

pub same_self : (a : List ℕ) (n : ℕ) → same_bytes n a a ≡ true
same_self a n = same_make a a n (λ k l. refl)

pub same_lists : (a b : List ℕ) (n : ℕ) → length a ≡ n → length b ≡ n → same_bytes n a b ≡ true → a ≡ b
same_lists a b n la lb e = ext_get_or 0 a b (la ∙ sym lb) (λ k h. same_get a b n e k (rw la at h))

pub same_bytes-Decides : (a b : List ℕ) (n : ℕ) → length a ≡ n → length b ≡ n → Decides (same_bytes n a b) (a ≡ b)
same_bytes-Decides a b n la lb = (same_lists a b n la lb, λ e. rw e (same_self b n))

-- ---- bytes as words: three that overlap say whether 21 bytes are the same.

abbrev Bytes : List ℕ → Type 0
Bytes s = (n : ℕ) → get_or s n 0 < 256

-- equal bytes make equal numbers
number_same : (a b : List ℕ) (m n : ℕ) → ((k : ℕ) → k < n → get_or a (m + k) 0 ≡ get_or b (m + k) 0) → number_of a m n ≡ number_of b m n
unfolding number_of
number_same a b m zero h = refl
number_same a b m (suc n) h =
    let e : get_or a m 0 ≡ get_or b m 0 = rw (add-zero m) at (h 0 (omega arith)) in
    let f : number_of a (suc m) n ≡ number_of b (suc m) n = number_same a b (suc m) n (λ k i. rw (suc-add m, ← add-suc m) (h (suc k) (omega arith))) in
    rw (e, f)

-- and the other way
number_bytes : (a b : List ℕ) → Bytes a → Bytes b → (m n : ℕ) → number_of a m n ≡ number_of b m n → (k : ℕ) → k < n → get_or a (m + k) 0 ≡ get_or b (m + k) 0
unfolding number_of
number_bytes a b p q m zero e k i = absurd (not-suc-le-zero i)
number_bytes a b p q m (suc n) e zero i = rw (add-zero m) (omega (arith, p m, q m))
number_bytes a b p q m (suc n) e (suc k) i =
    let f : number_of a (suc m) n ≡ number_of b (suc m) n = omega (arith, p m, q m) in
    rw (add-suc m, ← suc-add m) (number_bytes a b p q (suc m) n f k (omega arith))

-- a word is the number of its eight bytes
word_number : (s : List ℕ) (m : ℕ) → word_at s m ≡ number_of s m 8
unfolding number_of
word_number s m = grind arith

module _ (a b : List ℕ) (p : Bytes a) (q : Bytes b) where
  alike : (m : ℕ) → eqb (word_at a m) (word_at b m) ≡ true → (t : ℕ) → m ≤ t → t < m + 8 → get_or a t 0 ≡ get_or b t 0
  alike m e t l h =
      let y : m + (t - m) ≡ t = omega arith in
      rw (← y) (number_bytes a b p q m 8 (sym (word_number a m) ∙ eqb-true _ _ e ∙ word_number b m) (t - m) (omega arith))

  alike_word : (m : ℕ) → ((t : ℕ) → t < m + 8 → get_or a t 0 ≡ get_or b t 0) → eqb (word_at a m) (word_at b m) ≡ true
  alike_word m h = eq-eqb _ _ (word_number a m ∙ number_same a b m 8 (λ k l. h (m + k) (omega arith)) ∙ sym (word_number b m))

  pub words_same : (eqb (word_at a 0) (word_at b 0) && (eqb (word_at a 8) (word_at b 8) && eqb (word_at a 13) (word_at b 13))) ≡ same_bytes 21 a b
  words_same =
      same_from_decides {P = (t : ℕ) → t < 21 → get_or a t 0 ≡ get_or b t 0} _ _ (
        λ e t l.
            let x = both (eqb (word_at a 0) (word_at b 0)) _ e in
            let y = both (eqb (word_at a 8) (word_at b 8)) _ x.1 in
            ⊎_elim
            (λ (h : t < 8). alike 0 x.0 t (omega arith) h)
            (λ (h : 8 ≤ t). ⊎_elim (λ (g : t < 16). alike 8 y.0 t h g) (λ (g : 16 ≤ t). alike 13 y.1 t (omega arith) l) (lt_or_ge t 16))
            (lt_or_ge t 8),
        λ each. and_yes _ _ (alike_word 0 (λ t l. each t (omega arith))) (and_yes _ _ (alike_word 8 (λ t l. each t (omega arith))) (alike_word 13 each)),
      )
      (same_get a b 21, same_make a b 21)
