-- A pen beside its words: room is made and words are laid where the store has them, and the pen is aligned again.
-- The words that a change needs are one or four, as the scan decides.
use mathlib.Core.Path.{◌≡◌, sym, ap, ◌∙◌}
use mathlib.Core.Bool.{true, false}
use mathlib.Core.List.{List}
use Prim.Native.Nat.{ℕ, ◌/◌, ◌%◌, ◌≤◌}
use native.Mathlib.Omega.{arith}
use lib.ListN.{length, drop}
use Rattle.history.specs.declared.Store.{Store}
use Rattle.history.specs.declared.keep.Change.{Change}
use Rattle.history.specs.declared.keep.Pen.{Pen}
use Rattle.history.specs.Scan.{start, after, scanned}
use Rattle.history.specs.Store.{kept, sound_store}
use Rattle.history.specs.Keep.{Fits, word_of, under, words_for, leading, group_in, roomed, pushed, kept_with}
use Rattle.history.specs.Support.Pen.{store_at, Aligned}
use Rattle.history.proofs.Content.{content_long}
use Rattle.history.proofs.Groups.{first}
use Rattle.history.proofs.Keeps.{sound_parts_lem, parts_sound, keeps}

-- the oldest group, where at least 4 words are in use: the header and the changes that lead behind it
pub oldest_group : (ws : List ℕ) (p : Pen) → Aligned ws p → 4 ≤ p.used
    → (1 ≤ leading (drop 3 (kept (store_at ws p)))) × (leading (drop 3 (kept (store_at ws p))) ≤ 64)
unfolding group_in
oldest_group ws p a h =
    let f = first (kept (store_at ws p)) (sound_parts_lem _ a.sound).groups (omega (arith, content_long ws p.oldest p.used)) in
    (omega (arith, f.least), omega (arith, f.most))

-- a change kept under the last header, and one behind a header of its own
module _ (ws : List ℕ) (p : Pen) (c : Change) (a : Aligned ws p) where
  pub kept_with_under : under p.scan c ≡ true → kept_with (store_at ws p) c ≡ pushed (roomed 1 (store_at ws p)) (word_of c)
  unfolding kept_with words_for
  kept_with_under u = rw (← a.scan, u)

  pub kept_with_own : under p.scan c ≡ false
      → kept_with (store_at ws p) c ≡ pushed (pushed (pushed (pushed (roomed 4 (store_at ws p)) 0) (c.orbit / 65536)) (c.orbit % 65536)) (word_of c)
  unfolding kept_with words_for
  kept_with_own u = rw (← a.scan, u)

-- where the scan is after the words of a change
module _ (p : Pen) (c : Change) where
  pub scan_under : under p.scan c ≡ true → scanned p.scan (words_for p.scan c) ≡ after p.scan (word_of c)
  unfolding words_for scanned
  scan_under u = rw u

  pub scan_own : under p.scan c ≡ false
      → scanned p.scan (words_for p.scan c) ≡ after (after (after (after p.scan 0) (c.orbit / 65536)) (c.orbit % 65536)) (word_of c)
  unfolding words_for scanned
  scan_own u = rw u

module _ (ws : List ℕ) (p : Pen) (c : Change) (a : Aligned ws p) (f : Fits c) (vs : List ℕ) (r : Pen) where
  -- the store with the change, and its pen
  pub kept_here : store_at vs r ≡ kept_with (store_at ws p) c → r.scan ≡ scanned p.scan (words_for p.scan c)
      → (store_at vs r ≡ kept_with (store_at ws p) c) × Aligned vs r
  kept_here e q =
      let k = keeps (store_at ws p) c a.long a.sound f in
      let scan : scanned p.scan (words_for p.scan c) ≡ scanned start (kept (kept_with (store_at ws p) c)) = rw a.scan (sym k.scan) in (
        e,
        record {
          long = ap (λ (s : Store). length s.words) e ∙ k.long;
          sound = ap sound_store e ∙ parts_sound _ k.sound;
          scan = q ∙ scan ∙ sym (ap (λ (s : Store). scanned start (kept s)) e);
        },
      )

  -- its one word laid under the last header
  pub kept_under : under p.scan c ≡ true → store_at vs r ≡ pushed (roomed 1 (store_at ws p)) (word_of c) → r.scan ≡ after p.scan (word_of c)
      → (store_at vs r ≡ kept_with (store_at ws p) c) × Aligned vs r
  unfolding kept_with words_for scanned
  kept_under u e q = kept_here (e ∙ rw (← a.scan, u)) (q ∙ rw u)

  -- or behind a header of its own
  pub kept_own : under p.scan c ≡ false
      → store_at vs r ≡ pushed (pushed (pushed (pushed (roomed 4 (store_at ws p)) 0) (c.orbit / 65536)) (c.orbit % 65536)) (word_of c)
      → r.scan ≡ after (after (after (after p.scan 0) (c.orbit / 65536)) (c.orbit % 65536)) (word_of c)
      → (store_at vs r ≡ kept_with (store_at ws p) c) × Aligned vs r
  unfolding kept_with words_for scanned
  kept_own u e q = kept_here (e ∙ rw (← a.scan, u)) (q ∙ rw u)
