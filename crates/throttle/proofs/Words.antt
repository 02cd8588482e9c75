-- Counting by words: the marks of crossings that lie in one word are the ones of a part of that word.
-- `ones_in k` adds up the k lowest bits, one after the other, as `among` adds up marks from the newest to the oldest.
use mathlib.Core.Path.{◌≡◌, refl, sym, ap, ◌∙◌}
use mathlib.Core.List.{List}
use Prim.Native.Nat.{ℕ, zero, suc, ◌+◌, ◌-◌, ◌*◌, ◌/◌, ◌%◌, ◌^◌, ◌≤◌, ◌<◌, min}
use native.Mathlib.Nat.{add-zero, add-suc, mod-lt}
use native.Mathlib.Numerals.{add-one}
use native.Mathlib.Omega.{arith}
use native.Mathlib.Decide.{dec_lt}
use lib.Arith.{lt-one}
use lib.Count.{ones, ones_in, ones_step}
use lib.ListN.{get_or}
use lib.Pow.{pow_pos, field, mod-mod-pow, shr-shr, shl-shr}
use borrow.Author.Tests.{lt-ltb, le-ltb}
use Rattle.throttle.specs.Marks.{bit_at, mark_at, mark_back, among}
use Rattle.throttle.proofs.Ring.{back_at, back_none}

-- what the language's count of ones means, as it computes
pub ones_in_lem : (k n : ℕ) → n < 2 ^ k → ones_in k n ≡ ones n
unfolding ones_in ones
ones_in_lem zero n h = rw (lt-one h)
ones_in_lem (suc k) n h = ap (λ (m : ℕ). n % 2 + m) (ones_in_lem k (n / 2) (omega arith)) ∙ sym (ones_step n)

-- the k lowest bits are those of the remainder
pub ones_low : (k n : ℕ) → ones_in k (n % 2 ^ k) ≡ ones_in k n
unfolding ones_in
ones_low zero n = refl
ones_low (suc k) n =
    let bit : n % 2 ^ suc k % 2 ≡ n % 2 = rw (← add-one k) (mod-mod-pow n k 1) in
    let rest : n % 2 ^ suc k / 2 ≡ n / 2 % 2 ^ k = rw (← add-one k) (field n k 1) in
    rw (bit, rest) (ap (λ (m : ℕ). n % 2 + m) (ones_low k (n / 2)))

ones_of_low : (k w : ℕ) → ones (w % 2 ^ k) ≡ ones_in k w
ones_of_low k w = sym (ones_in_lem k (w % 2 ^ k) (mod-lt w (pow_pos k))) ∙ ones_low k w

-- the ones of t bits of a word, those below bit u: two shifts leave them alone
pub ones_between : (w u t : ℕ) → t ≤ u → u ≤ 64 → ones ((w * 2 ^ (64 - u)) % 2 ^ 64 / 2 ^ (64 - t)) ≡ ones_in t (w / 2 ^ (u - t))
ones_between w u t h l =
    let all : t + (64 - t) ≡ 64 = omega arith in
    let parts : 64 - u + (u - t) ≡ 64 - t = omega arith in
    let cut : (w * 2 ^ (64 - u)) % 2 ^ 64 / 2 ^ (64 - t) ≡ w * 2 ^ (64 - u) / 2 ^ (64 - t) % 2 ^ t = rw all at (field (w * 2 ^ (64 - u)) t (64 - t)) in
    let moved : w * 2 ^ (64 - u) / 2 ^ (64 - t) ≡ w / 2 ^ (u - t) = rw (← parts, ← shr-shr (w * 2 ^ (64 - u)) (64 - u) (u - t), shl-shr w (64 - u)) in
    ap ones cut ∙ rw moved (ones_of_low t (w / 2 ^ (u - t)))

pub ones_in_le : (k n : ℕ) → ones_in k n ≤ k
unfolding ones_in
ones_in_le zero n = omega arith
ones_in_le (suc k) n = omega (arith, ones_in_le k (n / 2))

-- the marks of the newest t of n crossings, and those of the r before
split_back : (ws : List ℕ) (n t r : ℕ) → t ≤ n → mark_back ws n (t + r) ≡ mark_back ws (n - t) r
unfolding mark_back
split_back ws n t r h = go (dec_lt r (n - t))
  where
    go : Dec (r < n - t) → mark_back ws n (t + r) ≡ mark_back ws (n - t) r
    go (yes p) = let e : n - 1 - (t + r) ≡ n - t - 1 - r = omega arith in rw (lt-ltb (t + r) n (omega arith), lt-ltb r (n - t) p, e)
    go (no p) = rw (le-ltb (t + r) n (omega arith), le-ltb r (n - t) (omega arith))

pub among_split : (ws : List ℕ) (n t r : ℕ) → t ≤ n → among ws n (t + r) ≡ among ws n t + among ws (n - t) r
unfolding among
among_split ws n t zero h = rw add-zero (omega arith)
among_split ws n t (suc r) h = rw (add-suc, among_split ws n t r h, split_back ws n t r h) (omega arith)

-- none are marked where none are looked at
pub among_none : (ws : List ℕ) (n left : ℕ) → left ≤ 0 → among ws n left ≡ 0
unfolding among
among_none ws n zero h = refl
among_none ws n (suc left) h = absurd (omega arith)

-- none before crossing 0
beyond : (ws : List ℕ) (n r : ℕ) → among ws n (n + r) ≡ among ws n n
unfolding among
beyond ws n zero = rw add-zero
beyond ws n (suc r) = rw (add-suc, back_none ws n (n + r) (omega arith), add-zero) (beyond ws n r)

pub among_all : (ws : List ℕ) (n k : ℕ) → among ws n (min k n) ≡ among ws n k
among_all ws n k = go (dec_lt n k)
  where
    go : Dec (n < k) → among ws n (min k n) ≡ among ws n k
    go (yes p) =
        let e : min k n ≡ n = omega arith in
        let f : n + (k - n) ≡ k = omega arith in
        rw e (rw f at (sym (beyond ws n (k - n))))
    go (no p) = let e : min k n ≡ k = omega arith in rw e

-- a longer count goes on from a shorter one, before its crossings
pub among_on : (ws : List ℕ) (n j k : ℕ) → j ≤ k → among ws n k ≡ among ws n j + among ws (n - j) (k - j)
among_on ws n j k h = go (dec_lt n j)
  where
    go : Dec (n < j) → among ws n k ≡ among ws n j + among ws (n - j) (k - j)
    go (yes p) =
        let all : min k n ≡ n = omega arith in
        let short : min j n ≡ n = omega arith in
        let none : n - j ≡ 0 = omega arith in
        let first : min (k - j) 0 ≡ 0 = omega arith in
        let e = rw all at (among_all ws n k) in
        let f = rw short at (among_all ws n j) in
        let z : among ws 0 (k - j) ≡ 0 = sym (rw first at (among_all ws 0 (k - j))) ∙ among_none ws 0 0 (omega arith) in
        let rest : among ws (n - j) (k - j) ≡ 0 = rw none z in
        omega (arith, e, f, rest)
    go (no p) =
        let whole : j + (k - j) ≡ k = omega arith in
        rw whole at (among_split ws n j (k - j) (omega arith))

-- so the sum of a count and of what lies before is the longer count
pub goes_on : (ws : List ℕ) (n j k m before v : ℕ) → j ≤ k → m ≡ among ws n j → before ≡ n - j → v ≡ among ws before (k - j) → m + v ≡ among ws n k
goes_on ws n j k m before v h e l f = rw (e, f, l) (sym (among_on ws n j k h))

-- a mark in the word of the newest crossing
word_mark : (ws : List ℕ) (last t : ℕ) → t ≤ last % 64 → mark_back ws (last + 1) t ≡ get_or ws (last / 64 % 32) 0 / 2 ^ (last % 64 - t) % 2
unfolding mark_at bit_at
word_mark ws last t h =
    let e : last + 1 - 1 - t ≡ last - t = omega arith in
    let word : (last - t) / 64 ≡ last / 64 = omega arith in
    let bit : (last - t) % 64 ≡ last % 64 - t = omega arith in
    back_at ws (last + 1) t (omega arith) ∙ rw (e, word, bit)

-- t crossings that lie in one word, the newest being crossing last
pub among_word : (ws : List ℕ) (last t : ℕ) → t ≤ last % 64 + 1
    → among ws (last + 1) t ≡ ones_in t (get_or ws (last / 64 % 32) 0 / 2 ^ (last % 64 + 1 - t))
unfolding among ones_in
among_word ws last zero h = refl
among_word ws last (suc t) h =
    let w : ℕ = get_or ws (last / 64 % 32) 0 in
    let at : ℕ = last % 64 - t in
    let here : mark_back ws (last + 1) t ≡ w / 2 ^ at % 2 = word_mark ws last t (omega arith) in
    let from : last % 64 + 1 - suc t ≡ at = omega arith in
    let next : at + 1 ≡ last % 64 + 1 - t = omega arith in
    let rest : w / 2 ^ at / 2 ≡ w / 2 ^ (last % 64 + 1 - t) = shr-shr w at 1 ∙ ap (λ (k : ℕ). w / 2 ^ k) next in
    rw (here, from, rest, among_word ws last t (omega arith)) (omega arith)

-- one turn of the count: the newest crossings of what is left, as far as they lie in one word
pub count_turn : (ws : List ℕ) (end left taken v : ℕ) → 0 < left → left ≤ end → taken ≡ min left ((end - 1) % 64 + 1)
    → v ≡ ones_in taken (get_or ws ((end - 1) / 64 % 32) 0 / 2 ^ ((end - 1) % 64 + 1 - taken))
    → among ws end left ≡ v + among ws (end - taken) (left - taken)
count_turn ws end left taken v some fits take is =
    let whole : taken + (left - taken) ≡ left = omega arith in
    let last : end - 1 + 1 ≡ end = omega arith in
    let word : among ws end taken ≡ v = rw last at (among_word ws (end - 1) taken (omega arith) ∙ sym is) in
    rw (whole, word) at (among_split ws end taken (left - taken) (omega arith))

pub count_bounded : (taken x v : ℕ) → v ≡ ones_in taken x → v ≤ taken
count_bounded taken x v is = rw is (ones_in_le taken x)
