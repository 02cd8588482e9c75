-- The oldest group of words that can be split: it has 4 to 67 words, and without it the others scan and read as they did.
-- Along its changes to the next header, where the scan forgets what was before; at least a quarter of all words are changes.
use mathlib.Core.Path.{◌≡◌, refl, sym, ◌∙◌}
use mathlib.Core.Logic.{◌⊎◌, inl, inr}
use mathlib.Core.Bool.{true, false, false≢true}
use mathlib.Core.List.{List, [], ◌∷◌, ◌++◌}
use Prim.Native.Nat.{ℕ, suc, ◌+◌, ◌-◌, ◌*◌, ◌≤◌, ◌<◌}
use native.Mathlib.Omega.{arith}
use borrow.Author.Tests.{ne_eqb, le-leb, lt-leb, leb-true, eqb-true}
use lib.Dec.{eqb, leb}
use lib.ListN.{length, drop}
use Rattle.laws.specs.Base.{if, one}
use Rattle.laws.proofs.Bools.{both, if_has}
use Rattle.laws.proofs.Tests.{either, lt_or_ge, same_or_not}
use Rattle.history.specs.declared.scan.Scan.{Scan}
use Rattle.history.specs.Scan.{start, lost, takes, ends, is_change, opens, after, change_of, found, scanned, read}
use Rattle.history.specs.Keep.{leading, group_in}
use Rattle.history.proofs.Scans.{opening, further, found_long, never, ends_within, ends_no, after_change, after_many, after_short, after_open, start_ends}

-- ---- the changes up to the next header

pub record Group (q : Scan) (l : List ℕ) : Type 0 where
  pub some : q.place ≡ 3 → 0 < length l → 1 ≤ leading l
  pub most : q.place + leading l ≤ 67
  pub scan : leading l < length l → scanned start (drop (leading l) l) ≡ scanned q l
  pub read : leading l < length l → read start (drop (leading l) l) ≡ drop (leading l) (read q l)

module _ (q : Scan) (w : ℕ) (l : List ℕ) (past : 3 ≤ q.place) (most : q.place ≤ 67) (h : ends (scanned q (w ∷ l)) ≡ true) where
  -- a change more, if a group of what is left is known
  one_more : 4096 ≤ w → (q.place < 67 → ends (scanned (further q) l) ≡ true → Group (further q) l) → Group q (w ∷ l)
  unfolding scanned read leading
  one_more big r = go (lt_or_ge q.place 67)
    where
      go : (q.place < 67) ⊎ (67 ≤ q.place) → Group q (w ∷ l)
      go (inl room) =
          let t = after_change q w past room big in
          let g = r room (rw t.1 at h) in
          let e = le-leb 4096 w big in
          record {
            some = λ z p. rw e (omega arith);
            most = rw e (omega (arith, g.most));
            scan = rw (e, t.1) (λ p. g.scan (omega arith));
            read = rw (t.0, e, t.1) (λ p. g.read (omega arith));
          }
      go (inr full) = absurd (never l (rw (after_many q w past full big) at h))

  -- or the next header
  no_more : w < 4096 → Group q (w ∷ l)
  unfolding scanned read leading
  no_more small = go (either (opens q w))
    where
      t : (is_change q w ≡ false) × (after q w ≡ if (opens q w) opening lost)
      t = after_short q w past small

      s : (is_change start 0 ≡ false) × (after start 0 ≡ opening)
      s = after_open start start_ends

      go : (opens q w ≡ true) ⊎ (opens q w ≡ false) → Group q (w ∷ l)
      go (inl o) =
          let b = both (ends q) (eqb w 0) o in
          let z = eqb-true w 0 b.1 in
          let e = lt-leb 4096 w small in
          let n : after q w ≡ opening = rw o at t.1 in
          record {
            some = λ p. absurd (false≢true (sym (ends_no q p) ∙ b.0));
            most = rw e (omega arith);
            scan = rw (e, n, z, s.1) (λ p. refl);
            read = rw (t.0, e, n, z, s.0, s.1) (λ p. refl);
          }
      go (inr o) = let n : after q w ≡ lost = rw o at t.1 in absurd (never l (rw n at h))

pub group : (q : Scan) (l : List ℕ) → 3 ≤ q.place → q.place ≤ 67 → ends (scanned q l) ≡ true → Group q l
unfolding leading
group q [] a b h = record { some = λ z p. absurd (omega arith); most = omega arith; scan = λ p. absurd (omega arith); read = λ p. absurd (omega arith) }
group q (w ∷ l) a b h = go (lt_or_ge w 4096) (λ room. group (further q) l (omega arith) (omega arith))
  where
    go : (w < 4096) ⊎ (4096 ≤ w) → (q.place < 67 → ends (scanned (further q) l) ≡ true → Group (further q) l) → Group q (w ∷ l)
    go (inl small) r = no_more q w l a b h small
    go (inr big) r = one_more q w l a b h big r

-- ---- the oldest group

pub record First (l : List ℕ) : Type 0 where
  pub least : 4 ≤ group_in l
  pub most : group_in l ≤ 67
  pub scan : group_in l < length l → scanned start (drop (group_in l) l) ≡ scanned start l
  pub read : group_in l < length l → read start (drop (group_in l) l) ≡ drop (group_in l - 3) (read start l)

opened : (b c : ℕ) (m : List ℕ) → (scanned start (0 ∷ b ∷ c ∷ m) ≡ scanned (record { place = 3; high = b; low = c }) m) × (read start (0 ∷ b ∷ c ∷ m) ≡ read (record { place = 3; high = b; low = c }) m)
unfolding scanned read after takes ends
opened b c m = (refl, refl)

unopened : (a : ℕ) (m : List ℕ) → (a ≡ 0 → ⊥) → scanned start (a ∷ m) ≡ scanned lost m
unfolding scanned after takes ends
unopened a m n = rw (ne_eqb a 0 n)

pub first : (l : List ℕ) → ends (scanned start l) ≡ true → 4 ≤ length l → First l
unfolding group_in
first [] h k = absurd (omega arith)
first (a ∷ []) h k = absurd (omega arith)
first (a ∷ b ∷ []) h k = absurd (omega arith)
first (a ∷ b ∷ c ∷ m) h k = go (same_or_not a 0)
  where
    go : (a ≡ 0) ⊎ (a ≡ 0 → ⊥) → First (a ∷ b ∷ c ∷ m)
    go (inl z) =
        let o = opened b c m in
        let q : Scan = record { place = 3; high = b; low = c } in
        let g = group q m (omega arith) (omega arith) (rw (z, o.0) at h) in
        let e : 3 + leading m ≡ suc (suc (suc (leading m))) = omega arith in
        let d : suc (suc (suc (leading m))) - 3 ≡ leading m = omega arith in
        record {
          least = omega (arith, g.some refl (omega arith));
          most = omega (arith, g.most);
          scan = rw (z, o.0, e) (λ p. g.scan (omega arith));
          read = rw (z, o.1, e, d) (λ p. g.read (omega arith));
        }
    go (inr n) = absurd (never _ (rw (unopened a (b ∷ c ∷ m) n) at h))

-- ---- how many changes there are at least

-- the words of a header that stand before a place
abbrev headed : Scan → ℕ
headed q = if (leb q.place 3) q.place 0

none_headed : (q : Scan) → ends q ≡ true → headed q ≡ 0
none_headed q e = go (ends_within q e)
  where
    go : (q.place ≡ 0) ⊎ ((4 ≤ q.place) × (q.place ≤ 67)) → headed q ≡ 0
    go (inl z) = rw z
    go (inr z) = rw (lt-leb q.place 3 (omega (arith, z)))

-- a word is paid by a header's place or by a change
weigh : (q : Scan) (w : ℕ) → (after q w ≡ lost) ⊎ (1 + headed q ≤ 4 * one (is_change q w) + headed (after q w))
unfolding after
weigh q w = go (same_or_not q.place 1) (same_or_not q.place 2) (either (is_change q w)) (either (opens q w))
  where
    go : (q.place ≡ 1) ⊎ (q.place ≡ 1 → ⊥) → (q.place ≡ 2) ⊎ (q.place ≡ 2 → ⊥) → (is_change q w ≡ true) ⊎ (is_change q w ≡ false)
        → (opens q w ≡ true) ⊎ (opens q w ≡ false) → (after q w ≡ lost) ⊎ (1 + headed q ≤ 4 * one (is_change q w) + headed (after q w))
    go (inl e) y t o = inr (rw e (omega arith))
    go (inr n) (inl e) t o = inr (rw e (omega arith))
    go (inr n) (inr m) (inl t) o = inr (rw (ne_eqb _ 1 n, ne_eqb _ 2 m, t) (paid q.place))
      where
        paid : (p : ℕ) → 1 + if (leb p 3) p 0 ≤ 4 * 1 + if (leb (p + 1) 3) (p + 1) 0
        paid p = omega (arith, if_has (λ (n : ℕ). n ≤ 3) (leb p 3) p 0 (λ e. leb-true p 3 e) (λ e. omega arith))
    go (inr n) (inr m) (inr t) (inl o) = inr (rw (ne_eqb _ 1 n, ne_eqb _ 2 m, t, o) (omega (arith, none_headed q (both (ends q) (eqb w 0) o).0)))
    go (inr n) (inr m) (inr t) (inr o) = inl (rw (ne_eqb _ 1 n, ne_eqb _ 2 m, t, o))

pub quarter : (q : Scan) (l : List ℕ) → ends (scanned q l) ≡ true → length l + headed q ≤ 4 * length (read q l)
unfolding scanned read
quarter q [] h = omega (arith, none_headed q h)
quarter q (w ∷ l) h = go (weigh q w) (quarter (after q w) l h)
  where
    go : (after q w ≡ lost) ⊎ (1 + headed q ≤ 4 * one (is_change q w) + headed (after q w)) → length l + headed (after q w) ≤ 4 * length (read (after q w) l)
        → suc (length l) + headed q ≤ 4 * length (found q w ++ read (after q w) l)
    go (inl e) g = absurd (never l (rw e at h))
    go (inr e) g = let n = found_long (is_change q w) (change_of q w) (read (after q w) l) in omega (arith, e, g, n)
