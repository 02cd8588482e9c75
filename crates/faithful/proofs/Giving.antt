-- Doing what the list says to the log gives the salvaged log, and to what it drops it does nothing else.
-- The entries of other records leave part n as it is, and its own make each byte its mend, or drop it.
use mathlib.Core.Path.{◌≡◌, refl, ap, sym, ◌∙◌}
use mathlib.Core.Logic.{⊎_elim}
use mathlib.Core.Bool.{Bool, true, false, ◌&&◌, ◌||◌, and-false, or-false, or_assoc, false≢true}
use mathlib.Core.List.{List, [], ◌∷◌, ◌++◌}
use Prim.Native.Nat.{ℕ, zero, suc, ◌+◌, ◌≤◌, ◌<◌}
use native.Mathlib.Omega.{arith}
use borrow.Author.Tests.{eq-eqb, ne_eqb}
use lib.Dec.{eqb}
use lib.ListN.{length, get_or}
use Rattle.laws.proofs.Tests.{either, lt_or_ge}
use Rattle.laws.proofs.Maps.{map_is}
use Rattle.records.specs.Records.{rec_at}
use Rattle.salvage.specs.Mending.{parts_in, is_kept, mend, mended, salvaged_part, salvaged_parts, salvaged_log}
use Rattle.salvage.specs.Changes.{Change, mends, drops, change_at, changes_to, changes_of, changes_over, changes_in}
use Rattle.salvage.proofs.Laws.{kept_whole, mended_long, part_kept, part_dropped, entry_has, entries_have, entries_kept, entries_dropped}
use Rattle.faithful.specs.Doing.{byte_after, is_dropped, part_after, parts_after, log_after}
use Rattle.faithful.proofs.Mending.{mended_byte}

-- ---- lists joined

after_append : (cs ds : List Change) (n k b : ℕ) → byte_after (cs ++ ds) n k b ≡ byte_after ds n k (byte_after cs n k b)
after_append [] ds n k b = refl
after_append (mends m j was becomes ∷ cs) ds n k b = after_append cs ds n k _
after_append (drops m was ∷ cs) ds n k b = after_append cs ds n k b

dropped_append : (cs ds : List Change) (n : ℕ) → is_dropped (cs ++ ds) n ≡ is_dropped cs n || is_dropped ds n
dropped_append [] ds n = refl
dropped_append (mends m j was becomes ∷ cs) ds n = dropped_append cs ds n
dropped_append (drops m was ∷ cs) ds n = ap (λ (t : Bool). eqb m n || t) (dropped_append cs ds n) ∙ sym (or_assoc (eqb m n) (is_dropped cs n) (is_dropped ds n))

-- ---- what leaves a byte, or a record, as it is

-- no entry for byte k of record n
abbrev Spares : List Change → (n k : ℕ) → Type 0
Spares cs n k = (b : ℕ) → byte_after cs n k b ≡ b

spares_append : (cs ds : List Change) (n k : ℕ) → Spares cs n k → Spares ds n k → Spares (cs ++ ds) n k
spares_append cs ds n k p q b = after_append cs ds n k b ∙ q (byte_after cs n k b) ∙ p b

-- an entry of another record, or for another byte
byte_spares : (m kind j c n k : ℕ) → eqb m n && eqb j k ≡ false → Spares (change_at m kind j c) n k
byte_spares m kind j c n k other b = entry_has (λ cs. byte_after cs n k b ≡ b) m kind j c (λ e. refl) (λ e. rw other)

byte_keeps : (m kind j c n : ℕ) → is_dropped (change_at m kind j c) n ≡ false
byte_keeps m kind j c n = entry_has (λ cs. is_dropped cs n ≡ false) m kind j c (λ e. refl) (λ e. refl)

module _ (m : ℕ) (rec : List ℕ) where
  bytes_keep : (j n : ℕ) → is_dropped (changes_to j m rec) n ≡ false
  unfolding changes_to
  bytes_keep zero n = refl
  bytes_keep (suc j) n =
      dropped_append (changes_to j m rec) _ n ∙ rw (bytes_keep j n, byte_keeps m (get_or rec 0 0) j (get_or rec j 0) n)

  -- the entries of another record
  bytes_spare : (j n k : ℕ) → (m ≡ n → ⊥) → Spares (changes_to j m rec) n k
  unfolding changes_to
  bytes_spare zero n k other = λ b. refl
  bytes_spare (suc j) n k other =
      spares_append (changes_to j m rec) _ n k (bytes_spare j n k other) (byte_spares m _ j _ n k (rw (ne_eqb m n other)))

  other_byte : (j k : ℕ) → (j ≡ k → ⊥) → eqb m m && eqb j k ≡ false
  other_byte j k other = rw (ne_eqb j k other) (and-false (eqb m m))

  -- those of the bytes before
  before_spare : (j k : ℕ) → j ≤ k → Spares (changes_to j m rec) m k
  unfolding changes_to
  before_spare zero k h = λ b. refl
  before_spare (suc j) k h =
      spares_append (changes_to j m rec) _ m k (before_spare j k (omega arith)) (byte_spares m _ j _ m k (other_byte j k (λ e. omega arith)))

  -- a byte's own entry makes it its mend
  byte_mends : (kind k b : ℕ) → byte_after (change_at m kind k b) m k b ≡ mend kind k b
  byte_mends kind k b =
      entry_has (λ cs. byte_after cs m k b ≡ mend kind k b) m kind k b (λ e. sym e) (λ e. rw (eq-eqb m m refl, eq-eqb k k refl))

  bytes_mend : (j k : ℕ) → k < j → byte_after (changes_to j m rec) m k (get_or rec k 0) ≡ mend (get_or rec 0 0) k (get_or rec k 0)
  unfolding changes_to
  bytes_mend zero k h = absurd (omega arith)
  bytes_mend (suc j) k h =
      ⊎_elim
      (λ (l : k < j).
      after_append (changes_to j m rec) _ m k (get_or rec k 0) ∙ byte_spares m _ j _ m k (other_byte j k (λ e. omega arith)) _ ∙ bytes_mend j k l)
      (λ (l : j ≤ k).
      let here : k ≡ j = omega arith in
      after_append (changes_to j m rec) _ m k (get_or rec k 0)
      ∙ rw (before_spare j k l (get_or rec k 0), ← here) (byte_mends (get_or rec 0 0) k (get_or rec k 0)))
      (lt_or_ge k j)

-- ---- the entries of a part

module _ (m : ℕ) (part : List ℕ) where
  -- do nothing to another
  entries_spare : (n : ℕ) → (m ≡ n → ⊥) → (k : ℕ) → Spares (changes_of m part) n k
  entries_spare n other k b = entries_have (λ cs. byte_after cs n k b ≡ b) m part (λ e. bytes_spare m part 24 n k other b) (λ e. refl)

  entries_keep : (n : ℕ) → (m ≡ n → ⊥) → is_dropped (changes_of m part) n ≡ false
  entries_keep n other = entries_have (λ cs. is_dropped cs n ≡ false) m part (λ e. bytes_keep m part 24 n) (λ e. rw (ne_eqb m n other))

-- what two lists do to record n is the same
record Alike (cs ds : List Change) (n : ℕ) : Type 0 where
  bytes : (k b : ℕ) → byte_after cs n k b ≡ byte_after ds n k b
  dropped : is_dropped cs n ≡ is_dropped ds n

-- the first n parts have no entry of a later one
module _ (first : ℕ) (log : List ℕ) where
  over_spare : (n i : ℕ) → n ≤ i → (k : ℕ) → Spares (changes_over n first log) (first + i) k
  unfolding changes_over
  over_spare zero i h k = λ b. refl
  over_spare (suc n) i h k =
      spares_append (changes_over n first log) _ (first + i) k (over_spare n i (omega arith) k) (entries_spare (first + n) (rec_at log n) (first + i) (λ e. omega arith) k)

  over_keep : (n i : ℕ) → n ≤ i → is_dropped (changes_over n first log) (first + i) ≡ false
  unfolding changes_over
  over_keep zero i h = refl
  over_keep (suc n) i h =
      dropped_append (changes_over n first log) _ (first + i)
      ∙ rw (over_keep n i (omega arith), entries_keep (first + n) (rec_at log n) (first + i) (λ e. omega arith))

  -- so the whole list does to a part what the part's own entries do
  own_entries : (n i : ℕ) → i < n → Alike (changes_over n first log) (changes_of (first + i) (rec_at log i)) (first + i)
  unfolding changes_over
  own_entries zero i h = absurd (omega arith)
  own_entries (suc n) i h =
      ⊎_elim
      (λ (l : i < n).
      let own = changes_of (first + i) (rec_at log i) in
      let before = own_entries n i l in
      let other : first + n ≡ first + i → ⊥ = λ e. omega arith in
      let keeps = entries_keep (first + n) (rec_at log n) (first + i) other in
      record {
        bytes = λ k b. after_append (changes_over n first log) _ (first + i) k b ∙ entries_spare (first + n) (rec_at log n) (first + i) other k _ ∙ before.bytes k b;
        dropped = dropped_append (changes_over n first log) _ (first + i) ∙ rw (keeps, before.dropped) (or-false (is_dropped own (first + i)));
      })
      (λ (l : n ≤ i).
      let here : n ≡ i = omega arith in
      let own = changes_of (first + i) (rec_at log i) in
      rw here
      (record {
        bytes = λ k b. after_append (changes_over i first log) own (first + i) k b ∙ ap (byte_after own (first + i) k) (over_spare i i (omega arith) k b);
        dropped = dropped_append (changes_over i first log) _ (first + i) ∙ rw (over_keep i i (omega arith));
      }))
      (lt_or_ge i n)

-- ---- a part, and the log

module _ (cs : List Change) (n : ℕ) (part : List ℕ) (a : Alike cs (changes_of n part) n) where
  kept_after_lem : is_kept part ≡ true → part_after cs n part ≡ salvaged_part part
  unfolding part_after
  kept_after_lem e =
      let long = kept_whole part e in
      let own = entries_kept n part e in
      let stays : is_dropped cs n ≡ false = a.dropped ∙ rw own (bytes_keep n part 24 n) in
      let each : (k : ℕ) → k < length part → byte_after cs n k (get_or part k 0) ≡ get_or (mended part) k 0
      = λ k h. a.bytes k (get_or part k 0) ∙ rw own (bytes_mend n part 24 k (rw long at h)) ∙ sym (mended_byte part k h) in
      rw (stays, part_kept part e) (map_is (byte_after cs n) part 0 0 (mended part) (mended_long part) each)

  dropped_after : is_kept part ≡ false → part_after cs n part ≡ salvaged_part part
  unfolding part_after
  dropped_after e =
      let goes : is_dropped cs n ≡ true = a.dropped ∙ rw (entries_dropped n part e, eq-eqb n n refl) in
      rw (goes, part_dropped part e)

  part_after_lem : part_after cs n part ≡ salvaged_part part
  part_after_lem = ⊎_elim kept_after_lem dropped_after (either (is_kept part))

parts_after_lem : (first : ℕ) (log : List ℕ) (all n : ℕ) → n ≤ all → parts_after n (changes_over all first log) first log ≡ salvaged_parts n log
unfolding parts_after salvaged_parts
parts_after_lem first log all zero h = refl
parts_after_lem first log all (suc n) h =
    rw (parts_after_lem first log all n (omega arith), part_after_lem (changes_over all first log) (first + n) (rec_at log n) (own_entries first log all n h))

pub gives : (first : ℕ) (log : List ℕ) → log_after (changes_in first log) first log ≡ salvaged_log log
gives first log = parts_after_lem first log (parts_in log) (parts_in log) (omega arith)

-- what is dropped is no kept part, whose entries drop nothing
pub alone : (first : ℕ) (log : List ℕ) (i k b : ℕ) → i < parts_in log → is_dropped (changes_in first log) (first + i) ≡ true → byte_after (changes_in first log) (first + i) k b ≡ b
alone first log i k b h d =
    let n = first + i in
    let part = rec_at log i in
    let own = own_entries first log (parts_in log) i h in
    ⊎_elim
    (λ (e : is_kept part ≡ true). absurd (false≢true (sym (own.dropped ∙ rw (entries_kept n part e) (bytes_keep n part 24 n)) ∙ d)))
    (λ (e : is_kept part ≡ false). own.bytes k b ∙ rw (entries_dropped n part e))
    (either (is_kept part))
