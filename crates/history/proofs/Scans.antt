-- A scan over words laid end to end, the bytes of the changes in them, and what a word can do to it.
-- By the definitions; a word that makes no group leaves the scan lost for good.
use mathlib.Core.Path.{◌≡◌, refl, ap, sym, ◌∙◌}
use mathlib.Core.Logic.{◌⊎◌, inl, inr}
use mathlib.Core.Bool.{Bool, true, false, false≢true, ◌&&◌}
use mathlib.Core.List.{List, [], ◌∷◌, ◌++◌, append_assoc}
use Prim.Native.Nat.{ℕ, ◌+◌, ◌*◌, ◌≤◌, ◌<◌}
use native.Mathlib.Omega.{arith}
use borrow.Author.Tests.{ne_eqb, lt-ltb, le-ltb, le-leb, lt-leb, leb-true, ltb-true, eqb-true}
use lib.Dec.{eqb, leb, ltb}
use lib.ListN.{length, length-append}
use Rattle.laws.specs.Base.{if, one}
use Rattle.laws.proofs.Bools.{both, or_true, one_le}
use Rattle.text.proofs.Bytes.{put_nil, put_append}
use Rattle.history.specs.declared.scan.Scan.{Scan}
use Rattle.history.specs.declared.keep.Change.{Change}
use Rattle.history.specs.Scan.{start, lost, takes, ends, is_change, opens, after, change_of, found, scanned, read}
use Rattle.history.specs.Keep.{leading}
use Rattle.history.specs.Read.{bytes_of, bytes_of_all}
use Rattle.std.specs.List.{prefix_len}

-- ---- words laid end to end

pub scanned_append : (q : Scan) (l m : List ℕ) → scanned q (l ++ m) ≡ scanned (scanned q l) m
unfolding scanned
scanned_append q [] m = refl
scanned_append q (w ∷ l) m = scanned_append (after q w) l m

pub read_append : (q : Scan) (l m : List ℕ) → read q (l ++ m) ≡ read q l ++ read (scanned q l) m
unfolding scanned read
read_append q [] m = refl
read_append q (w ∷ l) m =
    let c = found q w in
    ap (λ (cs : List Change). c ++ cs) (read_append (after q w) l m) ∙ sym (append_assoc c _ _)

pub bytes_append : (l m : List Change) → bytes_of_all (l ++ m) ≡ bytes_of_all l ++ bytes_of_all m
unfolding bytes_of_all
bytes_append [] m = refl
bytes_append (c ∷ l) m = ap (λ (bs : List ℕ). bytes_of c ++ bs) (bytes_append l m) ∙ sym (append_assoc (bytes_of c) _ _)

-- what one word has and what those behind it have
pub bytes_next : (q : Scan) (w : ℕ) (l : List ℕ) → bytes_of_all (read q (w ∷ l)) ≡ bytes_of_all (found q w) ++ bytes_of_all (read (after q w) l)
unfolding read
bytes_next q w l = bytes_append (found q w) (read (after q w) l)

pub bytes_next_long : (q : Scan) (w : ℕ) (l : List ℕ)
    → length (bytes_of_all (read q (w ∷ l))) ≡ length (bytes_of_all (found q w)) + length (bytes_of_all (read (after q w) l))
bytes_next_long q w l = rw bytes_next (length-append (bytes_of_all (found q w)) _)

pub ruleset laying = (bytes_next, bytes_next_long, put_append, put_nil)

pub bytes_long : (l : List Change) → length (bytes_of_all l) ≡ 7 * length l
unfolding bytes_of_all bytes_of
bytes_long [] = refl
bytes_long (c ∷ l) = let e = bytes_long l in omega (arith, e)

pub found_long : (t : Bool) (c : Change) (cs : List Change) → length (if t (c ∷ []) [] ++ cs) ≡ one t + length cs
found_long true c cs = omega arith
found_long false c cs = omega arith

-- no word is two changes
pub read_short : (q : Scan) (l : List ℕ) → length (read q l) ≤ length l
unfolding read
read_short q [] = omega arith
read_short q (w ∷ l) =
    let n = found_long (is_change q w) (change_of q w) (read (after q w) l) in
    omega (arith, n, read_short (after q w) l, one_le (is_change q w))

-- ---- what a word can do

-- after the word that opens a header, and after one change more
abbrev pub opening : Scan
opening = record { place = 1; high = 0; low = 0 }

abbrev pub further : Scan → Scan
further q = record { place = q.place + 1; high = q.high; low = q.low }

small : (q : Scan) (w : ℕ) → w < 4096 → is_change q w ≡ false
small q w h = go (takes q) (lt-leb 4096 w h)
  where
    go : (t : Bool) → leb 4096 w ≡ false → t && leb 4096 w ≡ false
    go true e = e
    go false e = refl

pub lost_stays : (l : List ℕ) → scanned lost l ≡ lost
unfolding scanned after takes ends
lost_stays [] = refl
lost_stays (w ∷ l) = lost_stays l

pub never : (l : List ℕ) → ends (scanned lost l) ≡ true → ⊥
unfolding ends
never l h = let e : ends lost ≡ true = rw (lost_stays l) at h in false≢true e

module _ (q : Scan) where
  pub takes_within : takes q ≡ true → (3 ≤ q.place) × (q.place < 67)
  unfolding takes
  takes_within e = let w = both (leb 3 q.place) (ltb q.place 67) e in (leb-true _ _ w.0, ltb-true _ _ w.1)

  pub takes_yes : 3 ≤ q.place → q.place < 67 → takes q ≡ true
  unfolding takes
  takes_yes a b = rw (le-leb 3 q.place a, lt-ltb q.place 67 b)

  pub takes_no : 67 ≤ q.place → takes q ≡ false
  unfolding takes
  takes_no a = rw (le-leb 3 q.place (omega arith), le-ltb q.place 67 a)

  pub ends_within : ends q ≡ true → (q.place ≡ 0) ⊎ ((4 ≤ q.place) × (q.place ≤ 67))
  unfolding ends
  ends_within e = go (or_true (eqb q.place 0) _ e)
    where
      go : (eqb q.place 0 ≡ true) ⊎ (leb 4 q.place && leb q.place 67 ≡ true) → (q.place ≡ 0) ⊎ ((4 ≤ q.place) × (q.place ≤ 67))
      go (inl z) = inl (eqb-true _ _ z)
      go (inr z) = let w = both (leb 4 q.place) (leb q.place 67) z in inr (leb-true _ _ w.0, leb-true _ _ w.1)

  pub ends_yes : 4 ≤ q.place → q.place ≤ 67 → ends q ≡ true
  unfolding ends
  ends_yes a b = rw (ne_eqb q.place 0 (λ e. omega arith), le-leb 4 q.place a, le-leb q.place 67 b)

  pub ends_no : q.place ≡ 3 → ends q ≡ false
  unfolding ends
  ends_no e = rw e

  -- past the header
  module _ (w : ℕ) (past : 3 ≤ q.place) where
    past_header : after q w ≡ if (is_change q w) (further q) (if (opens q w) opening lost)
    unfolding after
    past_header = rw (ne_eqb q.place 1 (λ e. omega arith), ne_eqb q.place 2 (λ e. omega arith))

    pub after_change : q.place < 67 → 4096 ≤ w → (is_change q w ≡ true) × (after q w ≡ further q)
    after_change room h = let t : is_change q w ≡ true = rw (takes_yes past room, le-leb 4096 w h) in (t, past_header ∙ rw t)

    pub after_many : 67 ≤ q.place → 4096 ≤ w → after q w ≡ lost
    after_many full h =
        let t : is_change q w ≡ false = rw (takes_no full) in
        let f : opens q w ≡ false = unopened (ends q) (ne_eqb w 0 (λ e. omega arith)) in
        past_header ∙ rw (t, f)
      where
        unopened : (t : Bool) → eqb w 0 ≡ false → t && eqb w 0 ≡ false
        unopened true e = e
        unopened false e = refl

    -- a word below 4,096 is no change
    pub after_short : w < 4096 → (is_change q w ≡ false) × (after q w ≡ if (opens q w) opening lost)
    after_short h = let f = small q w h in (f, past_header ∙ rw f)

pub start_ends : ends start ≡ true
unfolding ends
start_ends = refl

-- where the groups may end, a word 0 opens a header
pub after_open : (q : Scan) → ends q ≡ true → (is_change q 0 ≡ false) × (after q 0 ≡ opening)
unfolding after
after_open q e = go (ends_within q e)
  where
    none : is_change q 0 ≡ false
    none = small q 0 (omega arith)

    go : (q.place ≡ 0) ⊎ ((4 ≤ q.place) × (q.place ≤ 67)) → (is_change q 0 ≡ false) × (after q 0 ≡ opening)
    go (inl z) = (none, rw (none, e, z))
    go (inr z) = (none, (after_short q 0 (omega (arith, z)) (omega arith)).1 ∙ rw e)

-- then the two words of its orbit count follow
pub header_high : (b : ℕ) → (is_change opening b ≡ false) × (after opening b ≡ record { place = 2; high = b; low = 0 })
unfolding after takes
header_high b = (refl, refl)

pub header_low : (b c : ℕ) → (is_change (record { place = 2; high = b; low = 0 }) c ≡ false) × (after (record { place = 2; high = b; low = 0 }) c ≡ record { place = 3; high = b; low = c })
unfolding after takes
header_low b c = (refl, refl)

-- the changes that lead, as std counts them
pub leading_prefix : (l : List ℕ) → prefix_len (λ w. leb 4096 w) l ≡ leading l
unfolding leading
leading_prefix [] = refl
leading_prefix (w ∷ l) = grind (arith, leading_prefix l)
