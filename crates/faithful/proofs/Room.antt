-- Buffers that are always long enough: the log's own length for the output, 1,248 bytes for each part in the list.
-- A part's output is no longer than the part, and a byte's entry has at most 52 bytes; the rest by induction on the parts.
use mathlib.Core.Path.{◌≡◌}
use mathlib.Core.Logic.{⊎_elim}
use mathlib.Core.Bool.{true, false}
use mathlib.Core.List.{List, []}
use Prim.Native.Nat.{ℕ, zero, suc, ◌+◌, ◌*◌, ◌≤◌, ◌<◌}
use native.Mathlib.Omega.{arith}
use borrow.Author.Tests.{le-leb}
use lib.ListN.{length, get_or, take, length-append, length-take}
use lib.Seq.{take-add}
use Rattle.laws.proofs.Tests.{either}
use Rattle.records.specs.Records.{rec_at}
use Rattle.records.proofs.Laws.{rec_byte}
use Rattle.salvage.specs.Mending.{parts_in, is_kept, mend, salvaged_part, salvaged_parts, salvaged_log}
use Rattle.salvage.specs.Changes.{mends, drops, change_at, changes_to, changes_of, changes_over, changes_in, list_text}
use Rattle.salvage.specs.Salvage.{MOST, salvage_of}
use Rattle.salvage.proofs.Laws.{mended_long, part_kept, part_dropped, text_append, text_one, entry_has, entries_have, place_most, mend_long, new_most, drop_long}
use Rattle.faithful.specs.Faithful.{RoomEnough}
use Rattle.faithful.proofs.Mending.{mend_most}

-- ---- the output

part_most : (part : List ℕ) → length (salvaged_part part) ≤ length part
part_most part =
    ⊎_elim
    (λ (e : is_kept part ≡ true). rw (part_kept part e, mended_long part) (omega arith))
    (λ (e : is_kept part ≡ false). rw (part_dropped part e) (omega arith))
    (either (is_kept part))

parts_most : (n : ℕ) (log : List ℕ) → length (salvaged_parts n log) ≤ length (take (24 * n) log)
unfolding salvaged_parts
parts_most zero log = omega arith
parts_most (suc n) log =
    let next : 24 * suc n ≡ 24 * n + 24 = omega arith in
    rw (next, take-add (24 * n) 24 log, length-append (salvaged_parts n log) (salvaged_part (rec_at log n)), length-append (take (24 * n) log) (rec_at log n))
    (omega (arith, parts_most n log, part_most (rec_at log n)))

log_most : (log : List ℕ) → length (salvaged_log log) ≤ length log
log_most log = omega (arith, parts_most (parts_in log) log, length-take (24 * parts_in log) log)

-- ---- the list

no_text : length (list_text []) ≤ 0
unfolding list_text
no_text = omega arith

entry_most : (n kind k b : ℕ) → n < 18446744073709551616 → k < 24 → b < 256 → length (list_text (change_at n kind k b)) ≤ 52
entry_most n kind k b hn hk hb =
    let m = mend kind k b in
    entry_has (λ cs. length (list_text cs) ≤ 52) n kind k b (λ e. omega (arith, no_text))
    (λ e. rw (text_one (mends n k b m)) (omega (arith, mend_long n k b m, place_most n k b hn hk hb, new_most m (omega (arith, hb, mend_most kind k b)))))

module _ (n : ℕ) (part : List ℕ) (low : n < 18446744073709551616) (bytes : (k : ℕ) → k < 24 → get_or part k 0 < 256) where
  bytes_most : (k : ℕ) → k ≤ 24 → length (list_text (changes_to k n part)) ≤ 52 * k
  unfolding changes_to
  bytes_most zero h = omega (arith, no_text)
  bytes_most (suc k) h =
      let entry = change_at n (get_or part 0 0) k (get_or part k 0) in
      rw (text_append (changes_to k n part) entry, length-append (list_text (changes_to k n part)) (list_text entry))
      (omega (arith, bytes_most k (omega arith), entry_most n (get_or part 0 0) k (get_or part k 0) low h (bytes k h)))

  entries_most : length (list_text (changes_of n part)) ≤ 1248
  entries_most =
      let was = get_or part 0 0 in
      entries_have (λ cs. length (list_text cs) ≤ 1248) n part (λ e. bytes_most 24 (omega arith))
      (λ e. rw (text_one (drops n was)) (omega (arith, drop_long n was, place_most n 0 was low (omega arith) (bytes 0 (omega arith)))))

list_most : (n first : ℕ) (log : List ℕ) → ((k : ℕ) → get_or log k 0 < 256) → first + n ≤ MOST → length (list_text (changes_over n first log)) ≤ 1248 * n
unfolding changes_over
list_most zero first log bytes h = omega (arith, no_text)
list_most (suc n) first log bytes h =
    let before = changes_over n first log in
    let own = changes_of (first + n) (rec_at log n) in
    let few = entries_most (first + n) (rec_at log n) (omega arith) (λ k l. rw (rec_byte log n k l) (bytes (24 * n + k))) in
    rw (text_append before own, length-append (list_text before) (list_text own)) (omega (arith, list_most n first log bytes (omega arith), few))

pub room_enough : RoomEnough
unfolding salvage_of
room_enough first log salvaged changes bytes numbers out list =
    let space = le-leb (length (salvaged_log log)) (length salvaged) (omega (arith, log_most log)) in
    let lines = le-leb (length (list_text (changes_in first log))) (length changes) (omega (arith, list_most (parts_in log) first log bytes numbers)) in
    rw (le-leb (first + parts_in log) MOST numbers, space, lines)
