-- One change kept in a sound store: it is sound again, and its changes are those that stayed and the new one.
-- Room is made without touching how the other words scan; then the change's own words are laid behind them.
use mathlib.Core.Path.{◌≡◌, refl, ap, sym, ◌∙◌}
use mathlib.Core.Logic.{◌⊎◌, inl, inr, ⊎_elim}
use mathlib.Core.Bool.{true, false}
use mathlib.Core.List.{List, [], ◌∷◌, ◌++◌, append_assoc, append-nil}
use Prim.Native.Nat.{ℕ, ◌+◌, ◌-◌, ◌*◌, ◌/◌, ◌%◌, ◌≤◌, ◌<◌}
use native.Mathlib.Numerals.{add-one}
use native.Mathlib.Omega.{arith}
use borrow.Author.Tests.{le-leb, lt-leb, lt-ltb, leb-true, ltb-true, eqb-true}
use lib.Dec.{eqb, leb, ltb}
use lib.ListN.{length, drop, length-drop, length-set}
use Rattle.laws.specs.Base.{if}
use Rattle.laws.proofs.Bools.{both}
use Rattle.laws.proofs.Tests.{either, lt_or_ge}
use Rattle.history.specs.declared.Store.{Store}
use Rattle.history.specs.declared.scan.Scan.{Scan}
use Rattle.history.specs.declared.keep.Change.{Change}
use Rattle.history.specs.Scan.{start, orbit_of, takes, ends, change_of, scanned, read}
use Rattle.history.specs.Store.{kept, sound_store}
use Rattle.history.specs.Keep.{Fits, word_of, under, words_for, group_in, less_one, roomed, pushed, pushed_all, kept_with}
use Rattle.history.specs.Read.{changes_in, read_bytes}
use Rattle.history.proofs.Content.{content_long, content_mod, content_drop, content_push}
use Rattle.history.proofs.Scans.{further, bytes_long, read_short, scanned_append, read_append, takes_within, ends_yes, after_change, after_open, header_high, header_low}
use Rattle.history.proofs.Groups.{first, quarter}

-- ---- a sound store

pub record Sound (s : Store) : Type 0 where
  pub used : s.used ≤ 1024
  pub oldest : s.oldest < 1024
  pub groups : ends (scanned start (kept s)) ≡ true

pub sound_parts_lem : (s : Store) → sound_store s ≡ true → Sound s
unfolding sound_store
sound_parts_lem s e =
    let a = both (leb s.used 1024) _ e in
    let b = both (ltb s.oldest 1024) _ a.1 in
    record { used = leb-true _ _ a.0; oldest = ltb-true _ _ b.0; groups = b.1 }

pub parts_sound : (s : Store) → Sound s → sound_store s ≡ true
unfolding sound_store
parts_sound s p = rw (le-leb s.used 1024 p.used, lt-ltb s.oldest 1024 p.oldest) p.groups

pub placed : (s : Store) → sound_store s ≡ true → s.oldest < 1024
placed s e = (sound_parts_lem s e).oldest

pub within : (s : Store) → sound_store s ≡ true → s.used ≤ 1024
within s e = (sound_parts_lem s e).used

pub ruleset bounds = (placed, within)

-- no word is two changes
pub few : (s : Store) → sound_store s ≡ true → length (changes_in s) ≤ 1024
few s e = omega (arith, read_short start (kept s), content_long s.words s.oldest s.used, (sound_parts_lem s e).used)

pub read_fits : (s : Store) → sound_store s ≡ true → length (read_bytes s) ≤ 7168
read_fits s e = omega (arith, bytes_long (changes_in s), few s e)

-- ---- room made

pub kept_less : (s : Store) → kept (less_one s) ≡ drop (group_in (kept s)) (kept s)
unfolding less_one
kept_less s =
    let k = group_in (kept s) in
    content_mod s.words ((s.oldest + k) % 1024) (s.oldest + k) (s.used - k) (omega arith) ∙ sym (content_drop s.words k s.oldest s.used)

-- the store with room, and the changes that went: none unless at least 239 stay
pub record Roomed (n : ℕ) (s r : Store) : Type 0 where
  pub words : r.words ≡ s.words
  pub oldest : r.oldest < 1024
  pub used : r.used + n ≤ 1024
  pub scan : scanned start (kept r) ≡ scanned start (kept s)
  pub gone : ℕ
  pub changes : changes_in r ≡ drop gone (changes_in s)
  pub many : (gone ≡ 0) ⊎ (239 ≤ length (changes_in r))

module _ (s : Store) (p : Sound s) where
  less_one_lem : (n : ℕ) → n ≤ 4 → 1024 < s.used + n → Roomed n s (less_one s)
  unfolding less_one
  less_one_lem n m o =
      let l = kept s in
      let long = content_long s.words s.oldest s.used in
      let f = first l p.groups (omega (arith, long)) in
      let short : group_in l < length l = omega (arith, long, f.most) in
      let left : length (drop (group_in l) l) ≡ length l - group_in l = length-drop (group_in l) l in
      let e : ends (scanned start (drop (group_in l) l)) ≡ true = rw (f.scan short) p.groups in
      let q = quarter start (drop (group_in l) l) e in
      let many : 239 ≤ length (read start (drop (group_in l) l)) = omega (arith, long, left, f.most, q) in
      record {
        words = refl;
        oldest = omega arith;
        used = omega (arith, long, f.least, f.most, p.used);
        scan = rw (kept_less s) (f.scan short);
        gone = group_in l - 3;
        changes = rw (kept_less s) (f.read short);
        many = inr (rw (kept_less s) many);
      }

  pub room_made : (n : ℕ) → n ≤ 4 → Roomed n s (roomed n s)
  unfolding roomed
  room_made n m = go (lt_or_ge 1024 (s.used + n))
    where
      go : (1024 < s.used + n) ⊎ (s.used + n ≤ 1024) → Roomed n s (if (leb (s.used + n) 1024) s (less_one s))
      go (inl o) = rw (lt-leb (s.used + n) 1024 o) (less_one_lem n m o)
      go (inr o) = rw (le-leb (s.used + n) 1024 o) (record { words = refl; oldest = p.oldest; used = o; scan = refl; gone = 0; changes = refl; many = inl refl })

-- ---- words laid behind

pub record Laid (ws : List ℕ) (r t : Store) : Type 0 where
  pub long : length t.words ≡ 1024
  pub oldest : t.oldest ≡ r.oldest
  pub used : t.used ≡ r.used + length ws
  pub kept : kept t ≡ kept r ++ ws

pushed_kept : (s : Store) (w : ℕ) → length s.words ≡ 1024 → s.used < 1024 → Laid (w ∷ []) s (pushed s w)
unfolding pushed
pushed_kept s w l h =
    record {
      long = length-set s.words _ w ∙ l;
      oldest = refl;
      used = refl;
      kept = rw (add-one s.used) (content_push s.words l s.oldest s.used w h);
    }

pub all_laid : (ws : List ℕ) (r : Store) → length r.words ≡ 1024 → r.used + length ws ≤ 1024 → Laid ws r (pushed_all r ws)
all_laid [] r l h = record { long = l; oldest = refl; used = omega arith; kept = sym (append-nil (kept r)) }
all_laid (w ∷ ws) r l h =
    let a = pushed_kept r w l (omega arith) in
    let b = all_laid ws (pushed r w) a.long (omega (arith, a.used)) in
    record {
      long = b.long;
      oldest = b.oldest ∙ a.oldest;
      used = omega (arith, a.used, b.used);
      kept = b.kept ∙ ap (λ (l : List ℕ). l ++ ws) a.kept ∙ append_assoc (kept r) (w ∷ []) ws;
    }

-- ---- a change's own words

pub record Own (q : Scan) (c : Change) : Type 0 where
  pub few : length (words_for q c) ≤ 4
  pub ends : ends (scanned q (words_for q c)) ≡ true
  pub read : read q (words_for q c) ≡ c ∷ []

module _ (c : Change) (f : Fits c) where
  pub big : 4096 ≤ word_of c
  big = omega (arith, f.some)

  -- a word read back
  back : (q : Scan) → orbit_of q ≡ c.orbit → change_of q (word_of c) ≡ c
  back q e =
      let n : (c.number + 4096 * c.code) % 4096 ≡ c.number = omega (arith, f.number) in
      let k : (c.number + 4096 * c.code) / 4096 ≡ c.code = omega (arith, f.number) in
      rw (e, n, k)

  module _ (q : Scan) (e : ends q ≡ true) where
    under_header : under q c ≡ true → Own q c
    unfolding under words_for scanned read
    under_header u =
        let b = both (takes q) (eqb (orbit_of q) c.orbit) u in
        let w = takes_within q b.0 in
        let t = after_change q (word_of c) w.0 w.1 big in
        record {
          few = rw u (omega arith);
          ends = rw (u, t.1) (ends_yes (further q) (omega (arith, w)) (omega (arith, w)));
          read = rw (u, t.0) (ap (λ (x : Change). x ∷ []) (back q (eqb-true _ _ b.1)));
        }

    own_header : under q c ≡ false → Own q c
    unfolding words_for scanned read
    own_header u =
        let high = c.orbit / 65536 in
        let low = c.orbit % 65536 in
        let h : Scan = record { place = 3; high = high; low = low } in
        let o = after_open q e in
        let x = header_high high in
        let y = header_low high low in
        let t = after_change h (word_of c) (omega arith) (omega arith) big in
        let same : 65536 * high + low ≡ c.orbit = omega arith in
        record {
          few = rw u (omega arith);
          ends = rw (u, o.1, x.1, y.1, t.1) (ends_yes (further h) (omega arith) (omega arith));
          read = rw (u, o.0, o.1, x.0, x.1, y.0, y.1, t.0) (ap (λ (v : Change). v ∷ []) (back h same));
        }

    pub own : Own q c
    own = ⊎_elim under_header own_header (either (under q c))

-- ---- one change kept

pub record KeptOne (s t : Store) (c : Change) : Type 0 where
  pub sound : Sound t
  pub long : length t.words ≡ 1024
  pub scan : scanned start (kept t) ≡ scanned (scanned start (kept s)) (words_for (scanned start (kept s)) c)
  pub gone : ℕ
  pub changes : changes_in t ≡ drop gone (changes_in s) ++ (c ∷ [])
  pub many : (gone ≡ 0) ⊎ (239 ≤ length (drop gone (changes_in s)))

pub keeps : (s : Store) (c : Change) → length s.words ≡ 1024 → sound_store s ≡ true → Fits c → KeptOne s (kept_with s c) c
unfolding kept_with
keeps s c long e f =
    let p = sound_parts_lem s e in
    let q = scanned start (kept s) in
    let ws = words_for q c in
    let o = own c f q p.groups in
    let r = room_made s p (length ws) o.few in
    let roomy = roomed (length ws) s in
    let l = all_laid ws roomy (rw r.words long) r.used in
    let scan : scanned start (kept (pushed_all roomy ws)) ≡ scanned q ws = rw (l.kept, scanned_append start (kept roomy) ws, r.scan) in
    record {
      sound = record { used = omega (arith, l.used, r.used); oldest = rw l.oldest r.oldest; groups = rw scan o.ends };
      long = l.long;
      scan = scan;
      gone = r.gone;
      changes = rw (l.kept, read_append start (kept roomy) ws, r.scan, o.read, r.changes);
      many = rw r.changes at r.many;
    }
