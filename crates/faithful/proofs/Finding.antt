-- What the list says was there was there, in rising order and none twice.
-- By induction on the bytes of a part and on the parts, each list kept between the place where it begins and the place where it ends.
use mathlib.Core.Path.{◌≡◌, refl, sym}
use mathlib.Core.List.{List, [], ◌∷◌, ◌++◌}
use Prim.Native.Nat.{ℕ, zero, suc, ◌+◌, ◌*◌, ◌≤◌, ◌<◌}
use native.Mathlib.Omega.{arith}
use lib.ListN.{length, get_or, drop, length-take, length-drop}
use Rattle.records.specs.Records.{rec_at}
use Rattle.records.proofs.Laws.{rec_byte}
use Rattle.salvage.specs.Mending.{parts_in}
use Rattle.salvage.specs.Changes.{Change, change_at, changes_to, changes_of, changes_over, changes_in}
use Rattle.salvage.proofs.Laws.{kept_whole, entry_has, entries_have}
use Rattle.faithful.specs.Doing.{AllFound, place_of, Rising}

-- ---- what was there

found_append : (first : ℕ) (log : List ℕ) (cs ds : List Change) → AllFound first log cs → AllFound first log ds → AllFound first log (cs ++ ds)
found_append first log [] ds p q = q
found_append first log (c ∷ cs) ds p q = (p.0, found_append first log cs ds p.1 q)

module _ (first : ℕ) (log : List ℕ) (i : ℕ) where
  byte_found : (kind k : ℕ) → k < 24 → 24 * i + k < length log → AllFound first log (change_at (first + i) kind k (get_or (rec_at log i) k 0))
  byte_found kind k h inside =
      entry_has (AllFound first log) (first + i) kind k (get_or (rec_at log i) k 0) (λ e. tt)
      (λ e. (record { i = i; number = refl; byte = h; inside = inside; was = sym (rec_byte log i k h); moves = e }, tt))

  bytes_found : (k : ℕ) → k ≤ 24 → 24 * i + k ≤ length log → AllFound first log (changes_to k (first + i) (rec_at log i))
  unfolding changes_to
  bytes_found zero h inside = tt
  bytes_found (suc k) h inside =
      found_append first log (changes_to k (first + i) (rec_at log i)) _ (bytes_found k (omega arith) (omega arith)) (byte_found (get_or (rec_at log i) 0 0) k h (omega arith))

  whole_inside : length (rec_at log i) ≡ 24 → 24 * i + 24 ≤ length log
  whole_inside long = omega (arith, long, length-take 24 (drop (24 * i) log), length-drop (24 * i) log)

  part_found : i < parts_in log → AllFound first log (changes_of (first + i) (rec_at log i))
  part_found h =
      entries_have (AllFound first log) (first + i) (rec_at log i) (λ e. bytes_found 24 (omega arith) (whole_inside (kept_whole (rec_at log i) e)))
      (λ e. (record { i = i; number = refl; byte = omega arith; inside = omega arith; was = sym (rec_byte log i 0 (omega arith)); moves = tt }, tt))

parts_found : (first : ℕ) (log : List ℕ) (n : ℕ) → n ≤ parts_in log → AllFound first log (changes_over n first log)
unfolding changes_over
parts_found first log zero h = tt
parts_found first log (suc n) h =
    found_append first log (changes_over n first log) _ (parts_found first log n (omega arith)) (part_found first log n h)

pub all_found : (first : ℕ) (log : List ℕ) → AllFound first log (changes_in first log)
all_found first log = parts_found first log (parts_in log) (omega arith)

-- ---- in rising order

-- rising, from one place on and before another
abbrev Between : (from to : ℕ) → List Change → Type 0
Between from to [] = from ≤ to
Between from to (c ∷ cs) = (from ≤ place_of c) × Between (suc (place_of c)) to cs

between_rises : (from to : ℕ) (cs : List Change) → Between from to cs → Rising from cs
between_rises from to [] h = tt
between_rises from to (c ∷ cs) h = (h.0, between_rises (suc (place_of c)) to cs h.1)

earlier : (from start to : ℕ) (cs : List Change) → from ≤ start → Between start to cs → Between from to cs
earlier from start to [] l h = omega arith
earlier from start to (c ∷ cs) l h = (omega (arith, h.0), h.1)

between_append : (from seam to : ℕ) (cs ds : List Change) → Between from seam cs → Between seam to ds → Between from to (cs ++ ds)
between_append from seam to [] ds p q = earlier from seam to ds p q
between_append from seam to (c ∷ cs) ds p q = (p.0, between_append (suc (place_of c)) seam to cs ds p.1 q)

module _ (n : ℕ) (part : List ℕ) where
  byte_between : (kind k b : ℕ) → Between (24 * n + k) (24 * n + suc k) (change_at n kind k b)
  byte_between kind k b = entry_has (Between (24 * n + k) (24 * n + suc k)) n kind k b (λ e. omega arith) (λ e. (omega arith, omega arith))

  bytes_between : (k : ℕ) → Between (24 * n) (24 * n + k) (changes_to k n part)
  unfolding changes_to
  bytes_between zero = omega arith
  bytes_between (suc k) =
      between_append (24 * n) (24 * n + k) (24 * n + suc k) (changes_to k n part) _ (bytes_between k) (byte_between (get_or part 0 0) k (get_or part k 0))

  part_between : Between (24 * n) (24 * n + 24) (changes_of n part)
  part_between = entries_have (Between (24 * n) (24 * n + 24)) n part (λ e. bytes_between 24) (λ e. (omega arith, omega arith))

parts_between : (n first : ℕ) (log : List ℕ) → Between (24 * first) (24 * (first + n)) (changes_over n first log)
unfolding changes_over
parts_between zero first log = omega arith
parts_between (suc n) first log =
    let next : 24 * (first + suc n) ≡ 24 * (first + n) + 24 = omega arith in
    rw next
    (between_append (24 * first) (24 * (first + n)) (24 * (first + n) + 24) (changes_over n first log) _ (parts_between n first log) (part_between (first + n) (rec_at log n)))

pub rises : (first : ℕ) (log : List ℕ) → Rising (24 * first) (changes_in first log)
rises first log = between_rises (24 * first) (24 * (first + parts_in log)) (changes_in first log) (parts_between (parts_in log) first log)
