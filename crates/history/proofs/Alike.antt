-- Two stores that began fresh and hold the same changes have the same words in use: these are laid out by the changes alone.
-- A change kept lays its own words; where the oldest group goes, the next one begins with a header, as at the start.
use mathlib.Core.Path.{◌≡◌, refl, sym, ap, ◌∙◌}
use mathlib.Core.Logic.{◌⊎◌, inl, inr}
use mathlib.Core.Bool.{true, false}
use mathlib.Core.List.{List, [], ◌∷◌, ◌++◌, append_assoc, append-nil}
use Prim.Native.Nat.{ℕ, zero, suc, ◌+◌, ◌-◌, ◌/◌, ◌%◌, ◌≤◌, ◌<◌}
use native.Mathlib.Omega.{arith}
use borrow.Author.Tests.{le-leb, lt-leb}
use lib.Dec.{leb, eqb}
use lib.ListN.{length, drop}
use Rattle.laws.specs.Base.{if}
use Rattle.laws.proofs.Bools.{both}
use Rattle.laws.proofs.Tests.{either, lt_or_ge}
use Rattle.history.specs.declared.Store.{Store}
use Rattle.history.specs.declared.scan.Scan.{Scan}
use Rattle.history.specs.declared.keep.Change.{Change}
use Rattle.history.specs.Scan.{start, orbit_of, takes, ends, scanned, read}
use Rattle.history.specs.Store.{content, kept, fresh_store, sound_store}
use Rattle.history.specs.Keep.{Fits, word_of, under, words_for, leading, group_in, less_one, roomed, pushed_all, kept_with, kept_all}
use Rattle.history.specs.Read.{changes_in}
use Rattle.history.specs.Recall.{AllFit, Alike}
use Rattle.history.proofs.Scans.{further, scanned_append, read_append, takes_within, ends_yes, start_ends, after_change, after_open, header_high, header_low}
use Rattle.history.proofs.Content.{content_long}
use Rattle.history.proofs.Groups.{first}
use Rattle.history.proofs.Keeps.{Sound, sound_parts_lem, parts_sound, kept_less, room_made, all_laid, big, own, keeps}
use Rattle.history.proofs.Recall.{fit_append, fresh_sound}

-- the words of changes from where a scan stands
unfoldable laid : Scan → List Change → List ℕ
laid q [] = []
laid q (c ∷ cs) = words_for q c ++ laid (scanned q (words_for q c)) cs

one_laid : (q : Scan) (c : Change) → words_for q c ≡ laid q (c ∷ [])
unfolding laid
one_laid q c = sym (append-nil (words_for q c))

-- under a header a change may come
both_takes : (q : Scan) (c : Change) → under q c ≡ true → takes q ≡ true
unfolding under
both_takes q c u = (both (takes q) (eqb (orbit_of q) c.orbit) u).0

fit_drop : (k : ℕ) (l : List Change) → AllFit l → AllFit (drop k l)
fit_drop zero l f = f
fit_drop (suc k) [] f = tt
fit_drop (suc k) (c ∷ l) f = fit_drop k l f.1

fresh_long : length fresh_store.words ≡ 1024
unfolding fresh_store
fresh_long = refl

laid_append : (q : Scan) (l m : List Change) → laid q (l ++ m) ≡ laid q l ++ laid (scanned q (laid q l)) m
unfolding laid scanned
laid_append q [] m = refl
laid_append q (c ∷ l) m =
    let ws = words_for q c in
    let p = scanned q ws in
    ap (λ (vs : List ℕ). ws ++ vs) (laid_append p l m)
    ∙ sym (append_assoc ws (laid p l) _)
    ∙ ap (λ (x : Scan). (ws ++ laid p l) ++ laid x m) (sym (scanned_append q ws (laid p l)))

-- at the start a header comes
start_under : (c : Change) → under start c ≡ false
unfolding under takes
start_under c = refl

-- and where one comes, what was before does not matter
as_at_start : (q : Scan) (c : Change) (cs : List Change) → ends q ≡ true → under q c ≡ false → laid q (c ∷ cs) ≡ laid start (c ∷ cs)
unfolding laid words_for scanned
as_at_start q c cs e u = rw (u, start_under c, (after_open q e).1, (after_open start start_ends).1)

-- the changes before the next header gone, the others are laid as at the start
rest_laid : (q : Scan) (cs : List Change) → 4 ≤ q.place → q.place ≤ 67 → AllFit cs
    → drop (leading (laid q cs)) (laid q cs) ≡ laid start (drop (leading (laid q cs)) cs)
unfolding laid leading words_for scanned
rest_laid q [] a b f = refl
rest_laid q (c ∷ cs) a b f = go (either (under q c)) (λ h. rest_laid (further q) cs (omega arith) h f.1)
  where
    go : (under q c ≡ true) ⊎ (under q c ≡ false)
        → (q.place + 1 ≤ 67 → drop (leading (laid (further q) cs)) (laid (further q) cs) ≡ laid start (drop (leading (laid (further q) cs)) cs))
        → drop (leading (laid q (c ∷ cs))) (laid q (c ∷ cs)) ≡ laid start (drop (leading (laid q (c ∷ cs))) (c ∷ cs))
    go (inl u) r =
        let w = takes_within q (both_takes q c u) in
        let t = after_change q (word_of c) w.0 w.1 (big c f.0) in
        rw (u, t.1, le-leb 4096 (word_of c) (big c f.0)) (r (omega (arith, w)))
    go (inr u) r =
        let none : leading (laid q (c ∷ cs)) ≡ 0 = rw u refl in
        rw none (as_at_start q c cs (ends_yes q a b) u)

-- so where the oldest group is gone
group_gone : (cs : List Change) → AllFit cs → 4 ≤ length (laid start cs)
    → drop (group_in (laid start cs)) (laid start cs) ≡ laid start (drop (group_in (laid start cs) - 3) cs)
unfolding laid words_for scanned group_in leading
group_gone [] f h = absurd (omega arith)
group_gone (c ∷ cs) f h =
    let high = c.orbit / 65536 in
    let low = c.orbit % 65536 in
    let q : Scan = record { place = 3; high = high; low = low } in
    let t = after_change q (word_of c) (omega arith) (omega arith) (big c f.0) in
    let k = leading (laid (further q) cs) in
    let e : 3 + suc k ≡ suc (suc (suc (suc k))) = omega arith in
    let d : suc (suc (suc (suc k))) - 3 ≡ suc k = omega arith in
    rw (start_under c, (after_open start start_ends).1, (header_high high).1, (header_low high low).1, t.1, le-leb 4096 (word_of c) (big c f.0), e, d)
    (rest_laid (further q) cs (omega arith) (omega arith) f.1)

-- ---- a store whose words are laid out by its changes

record Laidout (s : Store) : Type 0 where
  words : kept s ≡ laid start (changes_in s)
  fits : AllFit (changes_in s)

less_laid : (s : Store) → Sound s → 4 ≤ s.used → group_in (kept s) < s.used → Laidout s → Laidout (less_one s)
less_laid s p some short l =
    let long = content_long s.words s.oldest s.used in
    let f = first (kept s) p.groups (omega (arith, long)) in
    let gone = f.read (omega (arith, long)) in
    let four : 4 ≤ length (laid start (changes_in s)) = rw (sym l.words) (omega (arith, long)) in
    record {
      words =
          kept_less s
          ∙ ap (λ (m : List ℕ). drop (group_in m) m) l.words
          ∙ group_gone (changes_in s) l.fits four
          ∙ ap (λ (m : List ℕ). laid start (drop (group_in m - 3) (changes_in s))) (sym l.words)
          ∙ ap (laid start) (sym gone)
          ∙ ap (λ (m : List ℕ). laid start (read start m)) (sym (kept_less s));
      fits = rw (kept_less s, gone) (fit_drop (group_in (kept s) - 3) (changes_in s) l.fits);
    }

room_laid : (s : Store) (n : ℕ) → Sound s → n ≤ 4 → Laidout s → Laidout (roomed n s)
unfolding roomed
room_laid s n p m l = go (lt_or_ge 1024 (s.used + n))
  where
    go : (1024 < s.used + n) ⊎ (s.used + n ≤ 1024) → Laidout (if (leb (s.used + n) 1024) s (less_one s))
    go (inl o) =
        let long = content_long s.words s.oldest s.used in
        let f = first (kept s) p.groups (omega (arith, long)) in
        rw (lt-leb (s.used + n) 1024 o) (less_laid s p (omega arith) (omega (arith, f.most)) l)
    go (inr o) = rw (le-leb (s.used + n) 1024 o) l

kept_laid : (s : Store) (c : Change) → length s.words ≡ 1024 → Sound s → Fits c → Laidout s → Laidout (kept_with s c)
unfolding kept_with
kept_laid s c long p f l =
    let q = scanned start (kept s) in
    let ws = words_for q c in
    let o = own c f q p.groups in
    let r = room_made s p (length ws) o.few in
    let roomy = roomed (length ws) s in
    let m = room_laid s (length ws) p o.few l in
    let a = all_laid ws roomy (rw r.words long) r.used in
    let changes : changes_in (pushed_all roomy ws) ≡ changes_in roomy ++ (c ∷ []) = rw (a.kept, read_append start (kept roomy) ws, r.scan, o.read) in
    record {
      words = a.kept ∙ rw (changes, laid_append start (changes_in roomy) (c ∷ []), sym m.words, r.scan) (ap (λ (vs : List ℕ). kept roomy ++ vs) (one_laid q c));
      fits = rw changes (fit_append (changes_in roomy) (c ∷ []) m.fits (f, tt));
    }

all_kept_laid : (s : Store) (cs : List Change) → length s.words ≡ 1024 → sound_store s ≡ true → AllFit cs → Laidout s → Laidout (kept_all s cs)
unfolding kept_all
all_kept_laid s [] long sound f l = l
all_kept_laid s (c ∷ cs) long sound f l =
    let k = keeps s c long sound f.0 in
    all_kept_laid (kept_with s c) cs k.long (parts_sound _ k.sound) f.1 (kept_laid s c long (sound_parts_lem s sound) f.0 l)

fresh_laid : Laidout fresh_store
unfolding fresh_store content read laid
fresh_laid = record { words = refl; fits = tt }

pub alike : Alike
alike cs ds f g e =
    let l = all_kept_laid fresh_store cs fresh_long fresh_sound f fresh_laid in
    let m = all_kept_laid fresh_store ds fresh_long fresh_sound g fresh_laid in
    let same = l.words ∙ ap (laid start) e ∙ sym m.words in
    let x = kept_all fresh_store cs in
    let y = kept_all fresh_store ds in
    record {
      words = same;
      used = sym (content_long x.words x.oldest x.used) ∙ ap length same ∙ content_long y.words y.oldest y.used;
    }
