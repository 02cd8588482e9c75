-- Laws of `put` and `starts`: what is laid piece by piece is laid whole, and a key that stands in a text ends within it.
-- `put` by cutting the list at the places laid, `starts` by induction on the key.
use mathlib.Core.Path.{◌≡◌, refl, sym, ap, ap₂, ◌∙◌}
use mathlib.Core.Bool.{Bool, ◌&&◌, true, false≢true}
use mathlib.Core.List.{List, [], ◌∷◌, ◌++◌, append_assoc}
use Prim.Native.Nat.{ℕ, suc, ◌+◌, ◌-◌, ◌≤◌, ◌<◌}
use native.Mathlib.Nat.{add-zero, zero-add, add-suc, suc-add, add_assoc}
use native.Mathlib.Numerals.{add-one}
use native.Mathlib.Omega.{arith}
use borrow.Author.Tests.{eq-eqb, eqb-true}
use lib.Dec.{eqb}
use lib.ListN.{length, take, drop, set, length-append, length-drop, length-take, length-set, take-append-drop}
use lib.Seq.{take-suc-set, drop-set-lt, take-set-le}
use Rattle.std.specs.List.{starts_with}
use Rattle.std.proofs.lemmas.List.{take_rest}
use Rattle.std.proofs.lemmas.Grind.{drop-set_at}
use Rattle.laws.proofs.Bools.{both}
use Rattle.text.specs.Bytes.{put, starts}

-- nothing laid changes nothing
pub put_nil : (d : List ℕ) (at : ℕ) → put d at [] ≡ d
unfolding put
put_nil d at = rw (add-zero, take-append-drop)

pub length_put : (d : List ℕ) (at : ℕ) (s : List ℕ) → at + length s ≤ length d → length (put d at s) ≡ length d
unfolding put
length_put d at s h = simp (length-append, length-drop, length-take) (omega arith)

-- the first byte laid, then the others
pub put_cons : (d : List ℕ) (at x : ℕ) (s : List ℕ) → at < length d → put d at (x ∷ s) ≡ put (set d at x) (suc at) s
unfolding put
put_cons d at x s h =
    let past : at < suc (at + length s) = omega arith in
    simp (take-suc-set, append_assoc, drop-set-lt, add-suc, suc-add)

-- one list laid after another
pub put_append : (d : List ℕ) (at : ℕ) (s t : List ℕ) → at + length s ≤ length d → put d at (s ++ t) ≡ put (put d at s) (at + length s) t
put_append d at [] t h = simp (put_nil, add-zero)
put_append d at (x ∷ s) t h =
    put_cons d at x (s ++ t) (omega arith)
    ∙ put_append (set d at x) (suc at) s t (simp length-set (omega arith))
    ∙ simp (put_cons d at x s (omega arith), add-suc, suc-add)

-- the last byte laid first
pub put_last : (d : List ℕ) (at : ℕ) (s : List ℕ) (x : ℕ) → at + length s < length d → put d at (s ++ (x ∷ [])) ≡ put (set d (at + length s) x) at s
unfolding put
put_last d at s x h =
    let before : at ≤ at + length s = omega arith in
    simp (length-append, append_assoc, take-set-le, drop-set_at, ← add_assoc at (length s) 1, add-one)

-- laid at the front, later bytes stay
pub put_front : (d s : List ℕ) → put d 0 s ≡ s ++ drop (length s) d
unfolding put
put_front d s = simp zero-add

pub starts_append : (k t : List ℕ) → starts k (k ++ t) ≡ true
starts_append [] t = refl
starts_append (x ∷ k) t = rw (eq-eqb x x refl) (starts_append k t)

pub starts_is : (k t : List ℕ) → starts k t ≡ true → t ≡ k ++ drop (length k) t
starts_is [] t e = refl
starts_is (x ∷ k) [] e = absurd (false≢true e)
starts_is (x ∷ k) (b ∷ t) e =
    let h = both (eqb x b) (starts k t) e in
    ap₂ (λ (y : ℕ) (l : List ℕ). y ∷ l) (sym (eqb-true x b h.0)) (starts_is k t h.1)

-- a key that stands there ends within the text
pub starts_room : (k s : List ℕ) (at : ℕ) → at ≤ length s → starts k (drop at s) ≡ true → at + length k ≤ length s
starts_room k s at h e =
    omega (arith, simp length-append at (ap length (starts_is k (drop at s) e)), length-drop at s)

-- std's test of a slice's front is the test of its bytes in turn
front : (k t : List ℕ) → starts_with eqb t k ≡ starts k t
front [] t = refl
front (x ∷ k) [] = refl
front (x ∷ k) (b ∷ t) = ap (λ (r : Bool). eqb x b && r) (front k t)

pub front_from : (k t : List ℕ) (at : ℕ) → starts_with eqb (take (length t - at) (drop at t)) k ≡ starts k (drop at t)
front_from k t at = rw take_rest (front k (drop at t))
