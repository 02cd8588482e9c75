-- Every record of a salvaged log is well formed, so a block made of it never gets RECORD, and salvage of it changes nothing.
-- A kept record mended is well formed, and logs of well-formed records joined, or cut between records, are such logs.
use mathlib.Core.Path.{◌≡◌, refl, ◌∙◌}
use mathlib.Core.Logic.{⊎_elim}
use mathlib.Core.Bool.{Bool, true, false, ◌||◌, or-true as or_yes}
use mathlib.Core.List.{List, [], ◌∷◌, ◌++◌}
use Prim.Native.Nat.{ℕ, zero, suc, ◌+◌, ◌-◌, ◌*◌, ◌%◌, ◌≤◌, ◌<◌}
use native.Mathlib.Omega.{arith}
use borrow.Author.Tests.{eqb-true, eq-eqb, le-leb}
use lib.Dec.{eqb, leb}
use lib.ListN.{length, get_or, take, drop, length-append, length-take, length-drop}
use lib.Seq.{get_or-drop, take_all}
use Rattle.laws.specs.Base.{all_b}
use Rattle.laws.proofs.Bools.{both, and_yes, or_true, if_has}
use Rattle.laws.proofs.Tests.{either, lt_or_ge}
use Rattle.answer.specs.Told.{Told, DONE, LENGTH, ROOM, LIFE}
use Rattle.records.specs.Records.{rec_at, is_crossing, well_crossing, well_command, well, crossings_in}
use Rattle.records.specs.Refusal.{LIFETIME, records_in, refusal_of}
use Rattle.records.proofs.Laws.{rec_cut, rec_start, rec_first, rec_rest, well_at_lem, all_formed as none_ill}
use Rattle.salvage.specs.Mending.{known_command, is_kept, mend, mended, parts_in, salvaged_part, salvaged_parts, salvaged_log}
use Rattle.salvage.proofs.Laws.{kept_whole, mended_long, part_kept, part_dropped}
use Rattle.faithful.specs.Faithful.{Formed, AllFormed, NeverRecord, Again}
use Rattle.faithful.proofs.Mending.{command_has, mended_byte, known_kind}
use Rattle.faithful.proofs.Passing.{log_passes}

-- ---- a kept record

all_of : (p : ℕ → Bool) (l : List ℕ) → ((n : ℕ) → n < length l → p (get_or l n 0) ≡ true) → all_b p l ≡ true
unfolding all_b
all_of p [] h = refl
all_of p (a ∷ l) h = and_yes _ _ (h 0 (omega arith)) (all_of p l (λ n k. h (suc n) (omega arith)))

module _ (rec : List ℕ) (long : length rec ≡ 24) where
  byte_has : (P : ℕ → Type 0) (kind k : ℕ) → get_or rec 0 0 ≡ kind → k < 24 → P (mend kind k (get_or rec k 0)) → P (get_or (mended rec) k 0)
  byte_has P kind k e h p = rw (mended_byte rec k (rw long h), e) p

  crossing_formed : get_or rec 0 0 ≡ 0 → well_crossing (mended rec) ≡ true
  unfolding well_crossing mend
  crossing_formed e =
      and_yes _ _ (byte_has (λ b. eqb b 0 ≡ true) 0 0 e (omega arith) (eq-eqb _ 0 e))
      (and_yes _ _ (byte_has (λ b. leb b 1 ≡ true) 0 1 e (omega arith) (le-leb (get_or rec 1 0 % 2) 1 (omega arith)))
      (byte_has (λ b. leb b 15 ≡ true) 0 3 e (omega arith) (le-leb (get_or rec 3 0 % 16) 15 (omega arith))))

  cleared : get_or rec 0 0 ≡ 1 → all_b (λ b. eqb b 0) (drop 3 (mended rec)) ≡ true
  cleared e =
      all_of (λ b. eqb b 0) (drop 3 (mended rec))
      (λ n h.
      let inside : 3 + n < 24 = omega (arith, h, length-drop 3 (mended rec), mended_long rec, long) in
      rw (get_or-drop 3 (mended rec) n 0)
      (byte_has (λ b. eqb b 0 ≡ true) 1 (3 + n) e inside
      (command_has (λ b. eqb b 0 ≡ true) (3 + n) (get_or rec (3 + n) 0) (λ l. absurd (omega arith)) (λ l. refl))))

  command_formed : known_command rec ≡ true → well_command (mended rec) ≡ true
  unfolding well_command known_command mend
  command_formed k =
      let e = known_kind rec k in
      let kind = both (eqb (get_or rec 0 0) 1) _ k in
      let ptc = both (leb (get_or rec 1 0) 7) _ kind.1 in
      let range = both (leb 1 (get_or rec 2 0)) _ ptc.1 in
      and_yes _ _ (byte_has (λ b. eqb b 1 ≡ true) 1 0 e (omega arith) kind.0)
      (and_yes _ _ (byte_has (λ b. leb b 7 ≡ true) 1 1 e (omega arith) ptc.0)
      (and_yes _ _ (byte_has (λ b. leb 1 b ≡ true) 1 2 e (omega arith) range.0)
      (and_yes _ _ (byte_has (λ b. leb b 6 ≡ true) 1 2 e (omega arith) range.1) (cleared e))))

kept_kind : (rec : List ℕ) → is_kept rec ≡ true → is_crossing rec || known_command rec ≡ true
unfolding is_kept
kept_kind rec e = (both (eqb (length rec) 24) (is_crossing rec || known_command rec) e).1

mended_well : (rec : List ℕ) → is_kept rec ≡ true → well (mended rec) ≡ true
unfolding well
mended_well rec kept =
    let long = kept_whole rec kept in
    ⊎_elim
    (λ (c : is_crossing rec ≡ true). rw (crossing_formed rec long (eqb-true (get_or rec 0 0) 0 c)))
    (λ (c : known_command rec ≡ true). rw (command_formed rec long c) (or_yes (well_crossing (mended rec))))
    (or_true (is_crossing rec) (known_command rec) (kept_kind rec kept))

-- ---- logs of well-formed records

formed : (log : List ℕ) → length log % 24 ≡ 0 → ((i : ℕ) → i < records_in log → well (rec_at log i) ≡ true) → Formed log
formed log whole each = record { whole = whole; well = none_ill (records_in log) log each }

none_formed : Formed []
none_formed = formed [] refl (λ i h. absurd (omega arith))

pub one_formed : (rec : List ℕ) → length rec ≡ 24 → well rec ≡ true → Formed rec
one_formed rec long w =
    formed rec (omega arith)
    (λ i h. let e : i ≡ 0 = omega arith in let all : length rec ≤ 24 = omega arith in rw (e, take_all 24 rec all) w)

join_formed : (a b : List ℕ) → Formed a → Formed b → Formed (a ++ b)
join_formed a b f g =
    formed (a ++ b) (omega (arith, f.whole, g.whole, length-append a b))
    (λ i h.
    ⊎_elim
    (λ (l : i < records_in a). rw (rec_first a b i (omega arith)) (well_at_lem (records_in a) a f.well i l))
    (λ (l : records_in a ≤ i).
    let at : i ≡ records_in a + (i - records_in a) = omega arith in
    let inside : i - records_in a < records_in b = omega (arith, f.whole, g.whole, length-append a b) in
    rw (at, rec_rest a b f.whole (i - records_in a)) (well_at_lem (records_in b) b g.well (i - records_in a) inside))
    (lt_or_ge i (records_in a)))

drop_formed : (log : List ℕ) (m : ℕ) → Formed log → Formed (drop (24 * m) log)
drop_formed log m f =
    formed (drop (24 * m) log) (omega (arith, f.whole, length-drop (24 * m) log))
    (λ i h. rw (← rec_cut log m i) (well_at_lem (records_in log) log f.well (m + i) (omega (arith, length-drop (24 * m) log))))

take_formed : (log : List ℕ) (n : ℕ) → Formed log → length (take n log) % 24 ≡ 0 → Formed (take n log)
take_formed log n f whole =
    formed (take n log) whole
    (λ i h. rw (rec_start log n i (omega (arith, length-take n log))) (well_at_lem (records_in log) log f.well i (omega (arith, length-take n log))))

-- ---- the salvaged log

part_formed : (part : List ℕ) → Formed (salvaged_part part)
part_formed part =
    ⊎_elim
    (λ (e : is_kept part ≡ true). rw (part_kept part e) (one_formed (mended part) (mended_long part ∙ kept_whole part e) (mended_well part e)))
    (λ (e : is_kept part ≡ false). rw (part_dropped part e) none_formed)
    (either (is_kept part))

parts_formed : (n : ℕ) (log : List ℕ) → Formed (salvaged_parts n log)
unfolding salvaged_parts
parts_formed zero log = none_formed
parts_formed (suc n) log = join_formed (salvaged_parts n log) (salvaged_part (rec_at log n)) (parts_formed n log) (part_formed (rec_at log n))

pub all_formed : AllFormed
all_formed log = parts_formed (parts_in log) log

abbrev NotRecord : Told → Type 0
NotRecord t = t.number ≡ 7 → ⊥

-- RECORD is told only where a record is found ill-formed
formed_passes : (done : ℕ) (log : List ℕ) (room : ℕ) → Formed log → NotRecord (refusal_of done log room)
unfolding refusal_of
formed_passes done log room f =
    let n = records_in log in
    rw (f.well, eq-eqb n n refl)
    (if_has NotRecord (eqb (length log % 24) 0) _ LENGTH
    (λ e. if_has NotRecord (leb (12 * n) room) _ (ROOM (12 * n))
    (λ g. if_has NotRecord (leb (done + crossings_in n log) LIFETIME) DONE LIFE (λ h r. omega arith) (λ h r. omega arith))
    (λ g r. omega arith))
    (λ e r. omega arith))

-- and LENGTH comes before it
cut_off : (done : ℕ) (log : List ℕ) (room : ℕ) → eqb (length log % 24) 0 ≡ false → NotRecord (refusal_of done log room)
unfolding refusal_of
cut_off done log room e = rw e (λ r. omega arith)

pub never_record : NeverRecord
never_record log before long done room =
    let left = drop (24 * before) (salvaged_log log) in
    let block = take long left in
    let whole = eqb (length block % 24) 0 in
    ⊎_elim
    (λ (e : whole ≡ true). formed_passes done block room (take_formed left long (drop_formed (salvaged_log log) before (all_formed log)) (eqb-true _ _ e)))
    (λ (e : whole ≡ false). cut_off done block room e)
    (either whole)

pub again : Again
again first log = log_passes first (salvaged_log log) (all_formed log)
