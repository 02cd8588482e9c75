-- A list's text says one list: what is written of each entry can be read back, and tells where the next begins.
-- A number ends at its newline, and `drop` begins with no digit; then by induction on both lists.
use mathlib.Core.Path.{◌≡◌, refl, ap, ap₂, sym, ◌∙◌}
use mathlib.Core.List.{List, [], ◌∷◌, ◌++◌, append_assoc}
use Prim.Native.Nat.{ℕ, zero, suc, ◌+◌, ◌^◌, ◌<◌}
use native.Mathlib.Omega.{arith}
use lib.ListN.{length, length-append}
use Rattle.std.proofs.lemmas.List.{append_cancel_left}
use Rattle.text.specs.Bytes.{bytes}
use Rattle.text.specs.Decimal.{decimal}
use Rattle.text.specs.Number.{value, none, number}
use Rattle.text.specs.Lines.{line_text}
use Rattle.text.proofs.Reading.{read_back}
use Rattle.salvage.specs.Changes.{Change, mends, drops, place_text, change_text, list_text}
use Rattle.salvage.proofs.Laws.{place_long, mend_long, drop_long}
use Rattle.faithful.specs.Faithful.{OneList}

-- ---- numbers and lines

-- digits enough for any number
below_power : (n : ℕ) → n < 10 ^ n
below_power zero = omega arith
below_power (suc n) = omega (arith, below_power n)

more_power : (n k : ℕ) → n < 10 ^ (n + k)
more_power n zero = let e : n + 0 ≡ n = omega arith in rw e (below_power n)
more_power n (suc k) = let e : n + suc k ≡ suc (n + k) = omega arith in rw e (omega (arith, more_power n k))

reads : (n k : ℕ) (t : List ℕ) → number (suc (n + k)) (decimal n ++ (10 ∷ t)) ≡ value n t
reads n k t = read_back n (suc (n + k)) t (omega arith) (omega (arith, more_power n k))

one_number : (m n : ℕ) (s t : List ℕ) → decimal m ++ (10 ∷ s) ≡ decimal n ++ (10 ∷ t) → (m ≡ n) × (s ≡ t)
one_number m n s t e =
    let turn : suc (m + n) ≡ suc (n + m) = omega arith in
    let same : value m s ≡ value n t = sym (reads m n s) ∙ ap₂ number turn e ∙ reads n m t in
    (cc, cc)

line_ends : (h : List ℕ) (n : ℕ) (t : List ℕ) → line_text h n ++ t ≡ h ++ (decimal n ++ (10 ∷ t))
unfolding line_text
line_ends h n t = rw (append_assoc h (decimal n ++ (10 ∷ [])) t, append_assoc (decimal n) (10 ∷ []) t)

one_line : (h : List ℕ) (m n : ℕ) (s t : List ℕ) → line_text h m ++ s ≡ line_text h n ++ t → (m ≡ n) × (s ≡ t)
one_line h m n s t e = one_number m n s t (append_cancel_left h _ _ (sym (line_ends h m s) ∙ e ∙ line_ends h n t))

-- ---- an entry

place_ends : (n k b : ℕ) (t : List ℕ) → place_text n k b ++ t ≡ line_text (bytes "record=") n ++ (line_text (bytes "byte=") k ++ (line_text (bytes "was=") b ++ t))
unfolding place_text
place_ends n k b t =
    rw (append_assoc (line_text (bytes "record=") n) (line_text (bytes "byte=") k ++ line_text (bytes "was=") b) t, append_assoc (line_text (bytes "byte=") k) (line_text (bytes "was=") b) t)

one_place : (n k b m j c : ℕ) (s t : List ℕ) → place_text n k b ++ s ≡ place_text m j c ++ t → (n ≡ m) × (k ≡ j) × (b ≡ c) × (s ≡ t)
one_place n k b m j c s t e =
    let record_line = one_line (bytes "record=") n m _ _ (sym (place_ends n k b s) ∙ e ∙ place_ends m j c t) in
    let byte_line = one_line (bytes "byte=") k j _ _ record_line.1 in
    let was_line = one_line (bytes "was=") b c s t byte_line.1 in
    (record_line.0, byte_line.0, was_line.0, was_line.1)

-- no number is written as `drop`
not_drop : (n : ℕ) (s t : List ℕ) → line_text (bytes "now=") n ++ s ≡ (bytes "now=drop" ++ (10 ∷ [])) ++ t → ⊥
unfolding bytes number
not_drop n s t e =
    let digits = append_cancel_left (bytes "now=") _ _ (sym (line_ends (bytes "now=") n s) ∙ e) in
    let no : value n s ≡ none = sym (reads n 0 s) ∙ ap (number (suc (n + 0))) digits in
    let z : ◌≡◌ {A = ℕ} 0 1 = cc in
    omega arith

mend_ends : (n k b a : ℕ) (t : List ℕ) → change_text (mends n k b a) ++ t ≡ place_text n k b ++ (line_text (bytes "now=") a ++ t)
unfolding change_text
mend_ends n k b a t = append_assoc (place_text n k b) (line_text (bytes "now=") a) t

drop_ends : (n b : ℕ) (t : List ℕ) → change_text (drops n b) ++ t ≡ place_text n 0 b ++ ((bytes "now=drop" ++ (10 ∷ [])) ++ t)
unfolding change_text
drop_ends n b t = append_assoc (place_text n 0 b) (bytes "now=drop" ++ (10 ∷ [])) t

one_entry : (c d : Change) (s t : List ℕ) → change_text c ++ s ≡ change_text d ++ t → (c ≡ d) × (s ≡ t)
one_entry (mends n k b a) (mends m j c z) s t e =
    let place = one_place n k b m j c _ _ (sym (mend_ends n k b a s) ∙ e ∙ mend_ends m j c z t) in
    let new = one_line (bytes "now=") a z s t place.3 in
    (cc, new.1)
one_entry (mends n k b a) (drops m c) s t e =
    let place = one_place n k b m 0 c _ _ (sym (mend_ends n k b a s) ∙ e ∙ drop_ends m c t) in
    absurd (not_drop a s t place.3)
one_entry (drops n b) (mends m j c z) s t e =
    let place = one_place n 0 b m j c _ _ (sym (drop_ends n b s) ∙ e ∙ mend_ends m j c z t) in
    absurd (not_drop z t s (sym place.3))
one_entry (drops n b) (drops m c) s t e =
    let place = one_place n 0 b m 0 c _ _ (sym (drop_ends n b s) ∙ e ∙ drop_ends m c t) in
    (cc, append_cancel_left (bytes "now=drop" ++ (10 ∷ [])) s t place.3)

-- ---- the list

some_text : (c : Change) → 0 < length (change_text c)
some_text (mends n k b a) = omega (arith, mend_long n k b a, place_long n k b)
some_text (drops n b) = omega (arith, drop_long n b)

not_empty : (c : Change) (cs : List Change) → list_text [] ≡ list_text (c ∷ cs) → ⊥
unfolding list_text
not_empty c cs e = omega (arith, ap length e, length-append (change_text c) (list_text cs), some_text c)

entry_first : (c d : Change) (cs ds : List Change) → list_text (c ∷ cs) ≡ list_text (d ∷ ds) → (c ≡ d) × (list_text cs ≡ list_text ds)
unfolding list_text
entry_first c d cs ds e = one_entry c d (list_text cs) (list_text ds) e

pub one_list : OneList
one_list [] [] e = refl
one_list [] (d ∷ ds) e = absurd (not_empty d ds e)
one_list (c ∷ cs) [] e = absurd (not_empty c cs (sym e))
one_list (c ∷ cs) (d ∷ ds) e =
    let first = entry_first c d cs ds e in
    ap₂ (λ (x : Change) (l : List Change). x ∷ l) first.0 (one_list cs ds first.1)
