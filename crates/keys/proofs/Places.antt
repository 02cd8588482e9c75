-- Keys laid one after the other: where each stands, and that the part between two starts is a key with its `=`. For any keys.
-- By induction on the keys, with the first one's length taken off.
use mathlib.Core.Path.{◌≡◌, sym, ◌∙◌}
use mathlib.Core.List.{List, [], ◌∷◌}
use Prim.Native.Nat.{ℕ, zero, suc, ◌+◌, ◌-◌, ◌≤◌, ◌<◌}
use native.Mathlib.Nat.{add-zero, not-suc-le-zero, le_of_suc-le-suc}
use native.Mathlib.Numerals.{add-one}
use native.Mathlib.Omega.{arith}
use lib.ListN.{length, take, drop, get_or, length-append}
use lib.Seq.{drop-append-add, take-append_seam}
use Rattle.text.specs.Lines.{line_head}
use Rattle.keys.specs.Support.Places.{line_heads, start_of, starts_from}

start_suc : (k : List ℕ) (ks : List (List ℕ)) (n : ℕ) → start_of (k ∷ ks) (suc n) ≡ length (line_head k) + start_of ks n
unfolding start_of
start_suc k ks n = length-append (line_head k) (line_heads (take n ks))

pub start_at : (ks : List (List ℕ)) (a n : ℕ) → n ≤ length ks → get_or (starts_from a ks) n 0 ≡ a + start_of ks n
unfolding start_of
start_at [] a zero h = sym (add-zero a)
start_at (k ∷ ks) a zero h = sym (add-zero a)
start_at [] a (suc n) h = absurd (not-suc-le-zero h)
start_at (k ∷ ks) a (suc n) h = start_at ks (a + length (line_head k)) n (le_of_suc-le-suc h) ∙ omega (arith, start_suc k ks n)

next : (ks : List (List ℕ)) (n : ℕ) (d : List ℕ) → n < length ks → start_of ks (suc n) ≡ start_of ks n + length (line_head (get_or ks n d))
unfolding start_of
next [] n d h = absurd (not-suc-le-zero h)
next (k ∷ ks) zero d h = length-append (line_head k) [] ∙ omega arith
next (k ∷ ks) (suc n) d h = omega (arith, start_suc k ks (suc n), start_suc k ks n, next ks n d (le_of_suc-le-suc h))

pub start_next : (ks : List (List ℕ)) (n : ℕ) (d : List ℕ) → n < length ks → start_of ks (n + 1) ≡ start_of ks n + length (line_head (get_or ks n d))
start_next ks n d h = rw add-one (next ks n d h)

pub start_within : (ks : List (List ℕ)) (n : ℕ) → start_of ks n ≤ length (line_heads ks)
unfolding start_of
start_within ks zero = omega arith
start_within [] (suc n) = omega arith
start_within (k ∷ ks) (suc n) = omega (arith, start_suc k ks n, length-append (line_head k) (line_heads ks), start_within ks n)

part : (ks : List (List ℕ)) (n : ℕ) (d : List ℕ) → n < length ks → take (length (line_head (get_or ks n d))) (drop (start_of ks n) (line_heads ks)) ≡ line_head (get_or ks n d)
unfolding start_of
part [] n d h = absurd (not-suc-le-zero h)
part (k ∷ ks) zero d h = take-append_seam (line_head k) (line_heads ks)
part (k ∷ ks) (suc n) d h = rw (start_suc k ks n, drop-append-add) (part ks n d (le_of_suc-le-suc h))

pub key_part : (ks : List (List ℕ)) (n : ℕ) (d : List ℕ) → n < length ks → take (start_of ks (n + 1) - start_of ks n) (drop (start_of ks n) (line_heads ks)) ≡ line_head (get_or ks n d)
key_part ks n d h =
    let long : start_of ks (n + 1) - start_of ks n ≡ length (line_head (get_or ks n d)) = omega (arith, start_next ks n d h) in
    rw long (part ks n d h)
