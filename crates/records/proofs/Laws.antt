-- Laws of the records and of the rows, for the board: what a block that is not refused has, what a well-formed record and a row's byte say.
-- Each opens one definition; what speaks of n records is by induction on n.
use mathlib.Core.Path.{◌≡◌, refl, ap, ap₂, sym, ◌∙◌}
use mathlib.Core.Logic.{◌⊎◌, ⊎_elim}
use mathlib.Core.Bool.{Bool, true, false, not, ◌||◌, false≢true}
use mathlib.Core.List.{List, [], ◌∷◌, ◌++◌}
use Prim.Native.Nat.{ℕ, zero, suc, ◌+◌, ◌-◌, ◌*◌, ◌%◌, ◌≤◌, ◌<◌}
use native.Mathlib.Nat.{add-zero, add-suc, zero-add}
use native.Mathlib.Numerals.{add-one}
use native.Mathlib.Omega.{arith}
use borrow.Author.Tests.{lt-ltb, le-ltb, leb-true, ltb-true, eqb-true, eqb-false}
use lib.Dec.{leb, eqb, ltb}
use lib.ListN.{length, get_or, take, drop, length-take, length-drop, get_or-eq_default}
use lib.Seq.{ext_get_or, get_or-take, get_or-drop, take-take, drop-drop, take-append_seam, drop_at}
use Rattle.laws.specs.Base.{if, one, all_b, tabulate}
use Rattle.laws.proofs.Bools.{both, or_true, if_yes, one_le}
use Rattle.laws.proofs.Tests.{lt_or_ge}
use Rattle.laws.proofs.All.{all_get}
use Rattle.laws.proofs.First.{first_all, first_none}
use Rattle.laws.proofs.Over.{length_tabulate, get_d_tabulate}
use Rattle.answer.specs.Told.{Told, succeeded, DONE, LENGTH, ROOM, RECORD, LIFE}
use Rattle.answer.proofs.Told.{not_done}
use Rattle.records.specs.Records.{rec_at, is_crossing, codes_in, well_crossing, well_command, well, first_ill, crossings_in}
use Rattle.records.specs.Rows.{row_byte, packed, crossing_row, command_row}
use Rattle.records.specs.Refusal.{LIFETIME, records_in, refusal_of, Ready}

-- a record of a block: its length, its bytes, and the same record after a cut
pub rec_long : (log : List ℕ) (i n : ℕ) → length log ≡ 24 * n → i < n → length (rec_at log i) ≡ 24
rec_long log i n e h = rw (length-take, length-drop) (omega arith)

pub rec_cut : (log : List ℕ) (m n : ℕ) → rec_at log (m + n) ≡ rec_at (drop (24 * m) log) n
rec_cut log m n = let e : 24 * (m + n) ≡ 24 * m + 24 * n = omega arith in rw (drop-drop, e)

-- and where the log is cut behind it
start_kept : (k n l : ℕ) (s : List ℕ) → k + n ≤ l → take n (drop k (take l s)) ≡ take n (drop k s)
start_kept zero n l s h = take-take n l s (omega arith)
start_kept (suc k) n zero s h = absurd (omega arith)
start_kept (suc k) n (suc l) [] h = refl
start_kept (suc k) n (suc l) (a ∷ s) h = start_kept k n l s (omega arith)

pub rec_start : (log : List ℕ) (l i : ℕ) → 24 * i + 24 ≤ l → rec_at (take l log) i ≡ rec_at log i
rec_start log l i h = start_kept (24 * i) 24 l log h

pub rec_byte : (log : List ℕ) (i k : ℕ) → k < 24 → get_or (rec_at log i) k 0 ≡ get_or log (24 * i + k) 0
rec_byte log i k h = get_or-take 24 (drop (24 * i) log) k 0 h ∙ get_or-drop (24 * i) log k 0

pub rec_bytes : (log : List ℕ) (i n : ℕ) → length (rec_at log i) ≡ 24 → ((k : ℕ) → get_or log k 0 < 256) → get_or (rec_at log i) n 0 < 256
rec_bytes log i n long bytes =
    ⊎_elim
    (λ (h : n < 24). rw (rec_byte log i n h) (bytes _))
    (λ (h : 24 ≤ n). let past : length (rec_at log i) ≤ n = rw long h in rw (get_or-eq_default (rec_at log i) 0 past) (omega arith))
    (lt_or_ge n 24)

-- those of a log in two parts are those of the first, and where that has whole records, then those of the second
module _ (a b : List ℕ) where
  pub rec_first : (i : ℕ) → 24 * i + 24 ≤ length a → rec_at (a ++ b) i ≡ rec_at a i
  rec_first i h = sym (rec_start (a ++ b) (length a) i h) ∙ ap (λ (l : List ℕ). rec_at l i) (take-append_seam a b)

  module _ (between : length a % 24 ≡ 0) where
    pub rest_left : drop (24 * records_in a) (a ++ b) ≡ b
    rest_left = drop_at a b (24 * records_in a) (omega arith)

    pub rec_rest : (i : ℕ) → rec_at (a ++ b) (records_in a + i) ≡ rec_at b i
    rec_rest i = rec_cut (a ++ b) (records_in a) i ∙ ap (λ (l : List ℕ). rec_at l i) rest_left

first_codes : (l : List ℕ) → take 21 (drop 3 l) ≡ drop 3 (take 24 l)
first_codes [] = refl
first_codes (a ∷ []) = refl
first_codes (a ∷ b ∷ []) = refl
first_codes (a ∷ b ∷ c ∷ l) = refl

-- what code lends of a block for a record's codes
pub codes_lent : (log : List ℕ) (i : ℕ) → take (24 * i + 24 - (24 * i + 3)) (drop (24 * i + 3) log) ≡ codes_in (rec_at log i)
codes_lent log i = let e : 24 * i + 24 - (24 * i + 3) ≡ 21 = omega arith in rw (e, ← drop-drop 3 (24 * i) log) (first_codes (drop (24 * i) log))

-- where no record is found ill-formed, each is well formed
pub well_at_lem : (n : ℕ) (log : List ℕ) → first_ill n log ≡ n → (i : ℕ) → i < n → well (rec_at log i) ≡ true
well_at_lem n log e i h = rw zero-add at (first_all (λ k. well (rec_at log k)) n 0 (rw zero-add e) i h)

pub all_formed : (n : ℕ) (log : List ℕ) → ((i : ℕ) → i < n → well (rec_at log i) ≡ true) → first_ill n log ≡ n
all_formed n log w = first_none (λ i. well (rec_at log i)) n 0 (λ i h. rw zero-add (w i h)) ∙ zero-add n

-- crossings are counted record by record
pub crossings_step : (n : ℕ) (log : List ℕ) → crossings_in (n + 1) log ≡ crossings_in n log + one (is_crossing (rec_at log n))
unfolding crossings_in
crossings_step n log = rw add-one

pub crossings_le : (n : ℕ) (log : List ℕ) → crossings_in n log ≤ n
unfolding crossings_in
crossings_le zero log = omega arith
crossings_le (suc n) log = omega (arith, crossings_le n log, one_le (is_crossing (rec_at log n)))

pub crossings_more : (i n : ℕ) (log : List ℕ) → i ≤ n → crossings_in i log ≤ crossings_in n log
unfolding crossings_in
crossings_more i zero log h = let e : i ≡ 0 = omega arith in rw e (omega arith)
crossings_more i (suc n) log h =
    ⊎_elim
    (λ (l : i < suc n). omega (arith, crossings_more i n log (omega arith)))
    (λ (l : suc n ≤ i). let e : i ≡ suc n = omega arith in rw e (omega arith))
    (lt_or_ge i (suc n))

pub crossings_below : (i n : ℕ) (log : List ℕ) → i < n → is_crossing (rec_at log i) ≡ true → crossings_in i log + 1 ≤ crossings_in n log
crossings_below i n log h e =
    let s : crossings_in (i + 1) log ≡ crossings_in i log + 1 = crossings_step i log ∙ rw e in
    omega (arith, s, crossings_more (i + 1) n log (omega arith))

-- those of a log that is cut in two, and those before a cut
pub crossings_cut : (log : List ℕ) (m n : ℕ) → crossings_in (m + n) log ≡ crossings_in m log + crossings_in n (drop (24 * m) log)
unfolding crossings_in
crossings_cut log m zero = rw (add-zero, add-zero)
crossings_cut log m (suc n) = rw (add-suc, crossings_cut log m n, rec_cut log m n) (omega arith)

pub crossings_start : (log : List ℕ) (l n : ℕ) → 24 * n ≤ l → crossings_in n (take l log) ≡ crossings_in n log
unfolding crossings_in
crossings_start log l zero h = refl
crossings_start log l (suc n) h = rw (crossings_start log l n (omega arith), rec_start log l n (omega arith))

-- a list is made of its elements
filled : (l : List ℕ) (n : ℕ) → length l ≡ n → l ≡ tabulate (λ i. get_or l i 0) 0 n
filled l n h =
    let long = h ∙ sym (length_tabulate (λ i. get_or l i 0) 0 n) in
    ext_get_or 0 l _ long (λ i p. sym (get_d_tabulate (λ k. get_or l k 0) 0 n i 0 (rw (← h) p) ∙ rw zero-add))

-- a status code is a nibble, as all are
pub code_at : (shown : List ℕ) (k : ℕ) → all_b (λ s. ltb s 16) shown ≡ true → k < length shown → get_or shown k 0 < 16
code_at shown k all h = ltb-true _ _ (all_get (λ s. ltb s 16) shown k 0 all h)

-- a crossing's row by its twelve bytes
pub row_made : (bytes shown : List ℕ) → length bytes ≡ 8 → length shown ≡ 8
    → crossing_row bytes shown
    ≡ get_or bytes 0 0
    ∷ get_or bytes 1 0
    ∷ get_or bytes 2 0
    ∷ get_or bytes 3 0
    ∷ get_or bytes 4 0
    ∷ get_or bytes 5 0
    ∷ get_or bytes 6 0
    ∷ get_or bytes 7 0
    ∷ (get_or shown 0 0 + 16 * get_or shown 1 0)
    ∷ (get_or shown 2 0 + 16 * get_or shown 3 0)
    ∷ (get_or shown 4 0 + 16 * get_or shown 5 0)
    ∷ (get_or shown 6 0 + 16 * get_or shown 7 0)
    ∷ []
unfolding tabulate crossing_row packed
row_made bytes shown b s = ap₂ crossing_row (filled bytes 8 b) (filled shown 8 s)

-- rows are 12 bytes
pub row_long : (bytes shown : List ℕ) → length bytes ≡ 8 → length shown ≡ 8 → length (crossing_row bytes shown) ≡ 12
row_long bytes shown b s = ap (λ (l : List ℕ). length l) (row_made bytes shown b s)

pub command_row_long : (taken : Bool) → length (command_row taken) ≡ 12
unfolding command_row
command_row_long taken = refl

-- a well-formed record is one of a crossing or one of a command
pub well_kind : (rec : List ℕ) → well rec ≡ true → (well_crossing rec ≡ true) ⊎ (well_command rec ≡ true)
unfolding well
well_kind rec e = or_true (well_crossing rec) (well_command rec) e

pub crossing_facts : (rec : List ℕ) → well_crossing rec ≡ true → (get_or rec 0 0 ≡ 0) × (get_or rec 1 0 ≤ 1) × (get_or rec 3 0 ≤ 15)
unfolding well_crossing
crossing_facts rec e =
    let kind = both (eqb (get_or rec 0 0) 0) _ e in
    let marker = both (leb (get_or rec 1 0) 1) (leb (get_or rec 3 0) 15) kind.1 in
    (eqb-true _ _ kind.0, leb-true _ _ marker.0, leb-true _ _ marker.1)

pub command_facts : (rec : List ℕ) → well_command rec ≡ true
    → (get_or rec 0 0 ≡ 1) × (get_or rec 1 0 ≤ 7) × (1 ≤ get_or rec 2 0) × (get_or rec 2 0 ≤ 6) × (all_b (λ b. eqb b 0) (drop 3 rec) ≡ true)
unfolding well_command
command_facts rec e =
    let kind = both (eqb (get_or rec 0 0) 1) _ e in
    let ptc = both (leb (get_or rec 1 0) 7) _ kind.1 in
    let low = both (leb 1 (get_or rec 2 0)) _ ptc.1 in
    let high = both (leb (get_or rec 2 0) 6) _ low.1 in
    (eqb-true _ _ kind.0, leb-true _ _ ptc.0, leb-true _ _ low.0, leb-true _ _ high.0, high.1)

-- byte 0 tells which
pub command_kind : (rec : List ℕ) → well rec ≡ true → is_crossing rec ≡ false
    → (get_or rec 0 0 ≡ 1) × (get_or rec 1 0 ≤ 7) × (1 ≤ get_or rec 2 0) × (get_or rec 2 0 ≤ 6)
command_kind rec w k =
    ⊎_elim
    (λ (e : well_crossing rec ≡ true). absurd (eqb-false _ _ k (crossing_facts rec e).0))
    (λ (e : well_command rec ≡ true). let f = command_facts rec e in (f.0, f.1, f.2, f.3))
    (well_kind rec w)

-- the GTFE code of a crossing
pub gtfe_low : (rec : List ℕ) → well rec ≡ true → is_crossing rec ≡ true → get_or (codes_in rec) 0 0 < 16
gtfe_low rec w k =
    ⊎_elim
    (λ (e : well_crossing rec ≡ true). rw (get_or-drop 3 rec 0 0) (omega (arith, (crossing_facts rec e).2)))
    (λ (e : well_command rec ≡ true). absurd (omega (arith, eqb-true (get_or rec 0 0) 0 k, (command_facts rec e).0)))
    (well_kind rec w)

-- either way the GTFE code is a nibble: the codes of a command are 0
pub code_low : (rec : List ℕ) → length rec ≡ 24 → well rec ≡ true → get_or rec 3 0 ≤ 15
code_low rec long w =
    ⊎_elim
    (λ (e : well_crossing rec ≡ true). (crossing_facts rec e).2)
    (λ (e : well_command rec ≡ true).
    let some : 0 < length (drop 3 rec) = rw length-drop (omega arith) in
    let none : get_or (drop 3 rec) 0 0 ≡ 0 = eqb-true _ _ (all_get (λ b. eqb b 0) (drop 3 rec) 0 0 (command_facts rec e).4 some) in
    let byte : get_or rec 3 0 ≡ 0 = sym (get_or-drop 3 rec 0 0) ∙ none in
    omega arith)
    (well_kind rec w)

-- what a row's byte says
pub byte_code : (c : ℕ) (s t : Bool) → c < 16 → row_byte c s t % 16 ≡ c
unfolding row_byte
byte_code c true true h = omega arith
byte_code c true false h = omega arith
byte_code c false true h = omega arith
byte_code c false false h = omega arith

pub byte_low : (c : ℕ) (s t : Bool) → c < 16 → row_byte c s t < 64
unfolding row_byte
byte_low c s t h = omega (arith, one_le s, one_le t)

pub byte_fires : (c : ℕ) (s t : Bool) → c < 16 → ltb (row_byte c s t) 16 ≡ not (s || t)
unfolding row_byte
byte_fires c true t h = le-ltb (c + (16 + 32 * one t)) 16 (omega (arith, one_le t))
byte_fires c false true h = le-ltb (c + 32) 16 (omega arith)
byte_fires c false false h = lt-ltb (c + 0) 16 (omega arith)

-- what a block that is not refused has
pub ready : (done : ℕ) (log : List ℕ) (room : ℕ) → refusal_of done log room ≡ DONE → Ready done log room
unfolding refusal_of
ready done log room e =
    let n = records_in log in
    let whole = if_yes (eqb (length log % 24) 0) _ LENGTH DONE e (not_done LENGTH (omega arith)) in
    let space = if_yes (leb (12 * n) room) _ (ROOM (12 * n)) DONE whole.1 (not_done (ROOM (12 * n)) (omega arith)) in
    let formed = if_yes (eqb (first_ill n log) n) _ (RECORD (first_ill n log)) DONE space.1 (not_done (RECORD (first_ill n log)) (omega arith)) in
    let life = if_yes (leb (done + crossings_in n log) LIFETIME) DONE LIFE DONE formed.1 (not_done LIFE (omega arith)) in
    let no_rest : length log % 24 ≡ 0 = eqb-true _ _ whole.0 in
    record {
      whole = omega arith;
      space = leb-true _ _ space.0;
      formed = eqb-true _ _ formed.0;
      life = leb-true _ _ life.0;
    }

-- a block that succeeds has no other answer than DONE
abbrev pub Settles : Told → Type 0
Settles t = succeeded t ≡ true → t ≡ DONE

pub settles : (t : Bool) (x y : Told) → succeeded y ≡ false → Settles x → Settles (if t x y)
settles true x y n p d = p d
settles false x y n p d = absurd (false≢true (sym n ∙ d))

pub refusal_settles : (done : ℕ) (log : List ℕ) (room : ℕ) → Settles (refusal_of done log room)
unfolding refusal_of
refusal_settles done log room =
    let n = records_in log in
    settles (eqb (length log % 24) 0) _ LENGTH refl
    (settles (leb (12 * n) room) _ (ROOM (12 * n)) refl
    (settles (eqb (first_ill n log) n) _ (RECORD (first_ill n log)) refl
    (settles (leb (done + crossings_in n log) LIFETIME) _ LIFE refl (λ d. refl))))
