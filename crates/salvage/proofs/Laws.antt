-- Laws of what is salvaged and of its list: one part, one byte and one entry more, and how long an entry may be.
-- Each opens one definition, or goes by induction on the list or on the number of parts.
use mathlib.Core.Path.{◌≡◌, refl, sym, ◌∙◌}
use mathlib.Core.Logic.{⊎_elim}
use mathlib.Core.Bool.{true, false, ◌||◌}
use mathlib.Core.List.{List, [], ◌∷◌, ◌++◌, append_assoc, append-nil}
use Prim.Native.Nat.{ℕ, zero, suc, ◌+◌, ◌≤◌, ◌<◌}
use native.Mathlib.Nat.{add-zero, zero-add, le_of_suc-le-suc, not-suc-le-zero}
use denote.Param.Members.{Mut, Called}
use Rattle.std.specs.Array.{IsFromFnResultFrom, IsFromFnResult}
use native.Mathlib.Numerals.{add-one}
use native.Mathlib.Omega.{arith}
use borrow.Author.Tests.{eqb-true, eqb-false}
use lib.Dec.{eqb}
use lib.ListN.{length, get_or, take, drop, length-append}
use lib.Seq.{take-append_seam}
use Rattle.laws.proofs.Bools.{both, if_has}
use Rattle.laws.proofs.Tests.{lt_or_ge}
use Rattle.laws.specs.Base.{map_i}
use Rattle.laws.proofs.Over.{length-map_i}
use Rattle.laws.proofs.Maps.{map_is}
use Rattle.text.specs.Bytes.{bytes}
use Rattle.text.specs.Decimal.{decimal}
use Rattle.text.specs.Lines.{line_text}
use Rattle.text.proofs.Bytes.{put_nil, put_append, put_front}
use Rattle.text.proofs.Decimal.{digits_within}
use Rattle.text.proofs.Rows.{row_length}
use Rattle.records.specs.Records.{rec_at, is_crossing}
use Rattle.salvage.specs.Laid.{Laid}
use Rattle.salvage.specs.Mending.{known_command, is_kept, mend, mended, salvaged_part, salvaged_parts}
use Rattle.salvage.specs.Changes.{Change, mends, drops, change_at, changes_to, changes_of, changes_over, place_text, change_text, list_text}

-- ---- a part

pub kept_whole : (part : List ℕ) → is_kept part ≡ true → length part ≡ 24
unfolding is_kept
kept_whole part e = eqb-true _ _ (both (eqb (length part) 24) (is_crossing part || known_command part) e).0

pub mended_long : (rec : List ℕ) → length (mended rec) ≡ length rec
unfolding mended
mended_long rec = length-map_i (mend (get_or rec 0 0)) 0 rec

pub part_kept : (part : List ℕ) → is_kept part ≡ true → salvaged_part part ≡ mended part
unfolding salvaged_part
part_kept part e = rw e

pub part_dropped : (part : List ℕ) → is_kept part ≡ false → salvaged_part part ≡ []
unfolding salvaged_part
part_dropped part e = rw e

-- what `array::from_fn` makes, where each call gives h of its place and leaves the closure as it was
made : {F : Type 0} (g : Mut F (ℕ × Unit {0}) ℕ) (f : F) (h : ℕ → ℕ) → ((i y : ℕ) (q : F) → Called g f (i, tt) y q → (q ≡ f) × (y ≡ h i))
    → (ys : List ℕ) (n i : ℕ) → IsFromFnResultFrom g f ys i n → (k : ℕ) → k < n → get_or ys (i + k) 0 ≡ h (i + k)
made g f h calls ys zero i m k l = absurd (not-suc-le-zero l)
made g f h calls ys (suc n) i m zero l = rw add-zero (m.2.1 0 ∙ (calls i m.1 m.0 m.3).1)
made g f h calls ys (suc n) i m (suc k) l =
    let same : m.0 ≡ f = (calls i m.1 m.0 m.3).0 in
    let next : i + 1 + k ≡ i + suc k = omega arith in
    rw next at (made g f h calls ys n (i + 1) (rw same at m.4) k (le_of_suc-le-suc l))

pub made_map : {F : Type 0} (g : Mut F (ℕ × Unit {0}) ℕ) (f : F) (h : ℕ → ℕ → ℕ) (l ys : List ℕ) (n : ℕ) → length l ≡ n → IsFromFnResult g f ys n
    → ((i y : ℕ) (q : F) → Called g f (i, tt) y q → (q ≡ f) × (y ≡ h i (get_or l i 0))) → ys ≡ map_i h 0 l
made_map g f h l ys n long m calls =
    sym (map_is h l 0 0 ys (omega (arith, m.long)) (λ k p. sym (rw zero-add at (made g f (λ k. h k (get_or l k 0)) calls ys n 0 m.each k (omega arith)))))

-- ---- one part more of the salvaged log

-- what only grows at its end never gets shorter
pub grows : (f g : ℕ → List ℕ) → ((n : ℕ) → f (n + 1) ≡ f n ++ g n) → (i n : ℕ) → i ≤ n → length (f i) ≤ length (f n)
grows f g next i zero h = let e : i ≡ 0 = omega arith in rw e (omega arith)
grows f g next i (suc n) h =
    ⊎_elim
    (λ (l : i < suc n). rw (← add-one n, next n, length-append) (omega (arith, grows f g next i n (omega arith))))
    (λ (l : suc n ≤ i). let e : i ≡ suc n = omega arith in rw e (omega arith))
    (lt_or_ge i (suc n))

pub parts_next : (n : ℕ) (log : List ℕ) → salvaged_parts (n + 1) log ≡ salvaged_parts n log ++ salvaged_part (rec_at log n)
unfolding salvaged_parts
parts_next n log = rw add-one

-- ---- the list's text

pub text_append : (cs ds : List Change) → list_text (cs ++ ds) ≡ list_text cs ++ list_text ds
unfolding list_text
text_append [] ds = refl
text_append (c ∷ cs) ds = rw (text_append cs ds) (sym (append_assoc (change_text c) (list_text cs) (list_text ds)))

pub text_one : (c : Change) → list_text (c ∷ []) ≡ change_text c
unfolding list_text
text_one c = append-nil (change_text c)

-- one byte more of a record, one part more of a log
pub bytes_next : (k n : ℕ) (rec : List ℕ) → list_text (changes_to (k + 1) n rec) ≡ list_text (changes_to k n rec) ++ list_text (change_at n (get_or rec 0 0) k (get_or rec k 0))
unfolding changes_to
bytes_next k n rec = rw add-one (text_append (changes_to k n rec) _)

pub list_next : (n first : ℕ) (log : List ℕ) → list_text (changes_over (n + 1) first log) ≡ list_text (changes_over n first log) ++ list_text (changes_of (first + n) (rec_at log n))
unfolding changes_over
list_next n first log = rw add-one (text_append (changes_over n first log) _)

-- nothing laid, and what is laid behind what was laid before
pub laid_none : (d : List ℕ) (at : ℕ) → Laid d at [] at d
laid_none d at = (omega arith, sym (put_nil d at))

pub laid_on : (d : List ℕ) (at : ℕ) (x y : List ℕ) (p q : ℕ) (d₁ d₂ : List ℕ) → at + length x ≤ length d → Laid d at x p d₁ → Laid d₁ p y q d₂ → Laid d at (x ++ y) q d₂
laid_on d at x y p q d₁ d₂ room e f =
    (omega (arith, e.0, f.0, length-append x y), f.1 ∙ rw (e.0, e.1) (sym (put_append d at x y room)))

-- what was laid at the front, back from there
pub front_is : (d s : List ℕ) (n : ℕ) (e : List ℕ) → Laid d 0 s n e → take n e ≡ s
front_is d s n e laid = rw (laid.0, laid.1, put_front d s, zero-add) (take-append_seam s (drop (length s) d))

-- ---- which entries a part has

pub byte_same : (n kind k b : ℕ) → eqb (mend kind k b) b ≡ true → change_at n kind k b ≡ []
unfolding change_at
byte_same n kind k b e = rw e

pub byte_other : (n kind k b : ℕ) → eqb (mend kind k b) b ≡ false → change_at n kind k b ≡ mends n k b (mend kind k b) ∷ []
unfolding change_at
byte_other n kind k b e = rw e

-- what holds with no entry and with one holds of a byte's entries
pub entry_has : (P : List Change → Type 0) (n kind k b : ℕ) → (mend kind k b ≡ b → P []) → ((mend kind k b ≡ b → ⊥) → P (mends n k b (mend kind k b) ∷ []))
    → P (change_at n kind k b)
unfolding change_at
entry_has P n kind k b none one = if_has P (eqb (mend kind k b) b) _ _ (λ e. none (eqb-true _ _ e)) (λ e. one (eqb-false _ _ e))

pub entries_kept : (n : ℕ) (part : List ℕ) → is_kept part ≡ true → changes_of n part ≡ changes_to 24 n part
unfolding changes_of
entries_kept n part e = rw e

pub entries_dropped : (n : ℕ) (part : List ℕ) → is_kept part ≡ false → changes_of n part ≡ drops n (get_or part 0 0) ∷ []
unfolding changes_of
entries_dropped n part e = rw e

-- and what holds of a kept part's entries and of the one that drops it holds of a part's
pub entries_have : (P : List Change → Type 0) (n : ℕ) (part : List ℕ) → (is_kept part ≡ true → P (changes_to 24 n part)) → (is_kept part ≡ false → P (drops n (get_or part 0 0) ∷ []))
    → P (changes_of n part)
unfolding changes_of
entries_have P n part kept dropped = if_has P (is_kept part) _ _ kept dropped

-- ---- how long an entry may be

pub place_parts : (n k b : ℕ) → length (place_text n k b) ≡ length (line_text (bytes "record=") n) + (length (line_text (bytes "byte=") k) + length (line_text (bytes "was=") b))
unfolding place_text
place_parts n k b = rw (length-append (line_text (bytes "record=") n) _, length-append (line_text (bytes "byte=") k) _)

-- 7, 5 and 4 bytes of keys, and a newline after each value
pub place_long : (n k b : ℕ) → length (place_text n k b) ≡ 19 + (length (decimal n) + length (decimal k) + length (decimal b))
unfolding bytes
place_long n k b = omega (arith, place_parts n k b, row_length (bytes "record=") n, row_length (bytes "byte=") k, row_length (bytes "was=") b)

pub place_most : (n k b : ℕ) → n < 18446744073709551616 → k < 24 → b < 256 → length (place_text n k b) ≤ 44
place_most n k b hn hk hb =
    omega (arith, place_long n k b, digits_within n 20 (omega arith) (omega arith), digits_within k 2 (omega arith) (omega arith), digits_within b 3 (omega arith) (omega arith))

pub drop_place_most : (n b : ℕ) → n < 18446744073709551616 → b < 256 → length (place_text n 0 b) ≤ 43
drop_place_most n b hn hb =
    omega (arith, place_long n 0 b, digits_within n 20 (omega arith) (omega arith), digits_within 0 1 (omega arith) (omega arith), digits_within b 3 (omega arith) (omega arith))

pub mend_long : (n k b c : ℕ) → length (change_text (mends n k b c)) ≡ length (place_text n k b) + (length (line_text (bytes "now=") c))
unfolding change_text
mend_long n k b c = length-append (place_text n k b) _

pub new_most : (c : ℕ) → c < 256 → length (line_text (bytes "now=") c) ≤ 8
unfolding bytes
new_most c h = omega (arith, row_length (bytes "now=") c, digits_within c 3 (omega arith) (omega arith))

pub drop_long : (n b : ℕ) → length (change_text (drops n b)) ≡ length (place_text n 0 b) + 9
unfolding change_text bytes
drop_long n b = length-append (place_text n 0 b) _
