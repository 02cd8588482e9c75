-- The first 4,096 bytes of a settings text decide how it is read: the lines of no edition need more, and of what follows only whether anything does.
-- Each reader, given more bytes than it can use, finds the same in a text cut there, up to a cut of what is left; the lines by induction on the table.
use mathlib.Core.Path.{◌≡◌, refl, sym, ap, ◌∙◌}
use mathlib.Core.Logic.{⊎_elim}
use mathlib.Core.Bool.{Bool, true, false, ◌&&◌}
use mathlib.Core.List.{List, [], ◌∷◌, ◌++◌}
use Prim.Native.Nat.{ℕ, zero, suc, ◌+◌, ◌-◌, ◌*◌, ◌≤◌, ◌<◌}
use native.Mathlib.Nat.{sub-zero, suc-sub-suc}
use native.Mathlib.Omega.{arith}
use borrow.Author.Tests.{ltb-true}
use lib.Dec.{ltb, eqb, lit≤}
use lib.ListN.{length, take, drop}
use lib.Seq.{take-nil, take-take}
use Rattle.laws.specs.Base.{if}
use Rattle.laws.proofs.Bools.{both, if_most}
use Rattle.laws.proofs.Tests.{either}
use Rattle.text.specs.declared.Range.{Range}
use Rattle.answer.specs.Told.{TEXT}
use Rattle.text.specs.Bytes.{bytes, starts}
use Rattle.text.specs.Number.{Parsed, value, none, is_digit, more, number}
use Rattle.text.specs.Lines.{Entry, line_head, LineRead, taken, ill, out, within, ranged, read_line, Lines, all, text_at, range_at, and_then, read_lines}
use Rattle.keys.specs.Settings.{newest, opening, table_of}
use Rattle.editions.specs.Read.{ReadOut, stated, edition_of, refused, concluded, read_text}
use Rattle.editions.specs.Support.Prefix.{text_most}
use Rattle.editions.proofs.Opening.{edition_most}

-- ---- a key

starts_cut : (h t : List ℕ) (m : ℕ) → length h ≤ m → starts h (take m t) ≡ starts h t
starts_cut [] t m room = refl
starts_cut (x ∷ h) t zero room = absurd (omega arith)
starts_cut (x ∷ h) [] (suc m) room = refl
starts_cut (x ∷ h) (b ∷ t) (suc m) room = ap (λ (o : Bool). eqb x b && o) (starts_cut h t m (omega arith))

drop_cut : (h t : List ℕ) (m : ℕ) → length h ≤ m → drop (length h) (take m t) ≡ take (m - length h) (drop (length h) t)
drop_cut [] t m room = rw sub-zero
drop_cut (x ∷ h) t zero room = absurd (omega arith)
drop_cut (x ∷ h) [] (suc m) room = sym (take-nil (suc m - suc (length h)))
drop_cut (x ∷ h) (b ∷ t) (suc m) room = rw suc-sub-suc (drop_cut h t m (omega arith))

-- ---- a number

-- of what follows it, the first n bytes
abbrev cut_parsed : ℕ → Parsed → Parsed
cut_parsed n (value v t) = value v (take n t)
cut_parsed n none = none

more_cut : (k v n m : ℕ) (t : List ℕ) → k + n < m → cut_parsed n (more k v (take m t)) ≡ cut_parsed n (more k v t)
more_cut k v n zero t room = absurd (omega arith)
more_cut k v n (suc m) [] room = refl
more_cut k v n (suc m) (b ∷ t) room =
    ⊎_elim
    (λ (end : eqb b 10 ≡ true). rw end (ap (value v) (take-take n m t (omega arith))))
    (λ (other : eqb b 10 ≡ false).
    ⊎_elim
    (λ (on : (ltb 0 k && is_digit b) ≡ true).
    let some : 0 < k = ltb-true 0 k (both (ltb 0 k) (is_digit b) on).0 in
    rw (other, on) (more_cut (k - 1) (v * 10 + (b - 48)) n m t (omega arith)))
    (λ (off : (ltb 0 k && is_digit b) ≡ false). rw (other, off))
    (either (ltb 0 k && is_digit b)))
    (either (eqb b 10))

number_cut : (k n m : ℕ) (t : List ℕ) → k - 1 + 2 + n ≤ m → cut_parsed n (number k (take m t)) ≡ cut_parsed n (number k t)
unfolding number
number_cut k n zero t room = absurd (omega arith)
number_cut k n (suc m) [] room = refl
number_cut k n (suc m) (b ∷ t) room =
    let left : ℕ = if (eqb b 48) 0 (k - 1) in
    let most : left ≤ k - 1 = if_most (eqb b 48) 0 (k - 1) (k - 1) (omega arith) (omega arith) in
    ⊎_elim
    (λ (d : is_digit b ≡ true). rw d (more_cut left (b - 48) n m t (omega arith)))
    (λ (d : is_digit b ≡ false). rw d)
    (either (is_digit b))

-- ---- a line

abbrev cut_taken : ℕ → LineRead → LineRead
cut_taken n (taken v t) = taken v (take n t)
cut_taken n ill = ill
cut_taken n out = out

ranged_cut : (r : Range) (n : ℕ) (p : Parsed) → cut_taken n (ranged r p) ≡ ranged r (cut_parsed n p)
ranged_cut r n (value v t) =
    ⊎_elim (λ (w : within r v ≡ true). rw w) (λ (w : within r v ≡ false). rw w) (either (within r v))
ranged_cut r n none = refl

line_cut : (h : List ℕ) (r : Range) (n m : ℕ) (t : List ℕ) → length h + (r.digits - 1 + 2) + n ≤ m
    → cut_taken n (read_line h r (take m t)) ≡ cut_taken n (read_line h r t)
unfolding read_line
line_cut h r n m t room =
    let key = starts_cut h t m (omega arith) in
    let rest = drop_cut h t m (omega arith) in
    let after : List ℕ = drop (length h) t in
    let num = number_cut r.digits n (m - length h) after (omega arith) in
    ⊎_elim
    (λ (s : starts h t ≡ true).
    rw (key, rest, s)
    (ranged_cut r n (number r.digits (take (m - length h) after)) ∙ ap (ranged r) num ∙ sym (ranged_cut r n (number r.digits after))))
    (λ (s : starts h t ≡ false). rw (key, s))
    (either (starts h t))

-- ---- the lines of a table

abbrev cut_lines : ℕ → Lines → Lines
cut_lines n (all vs t) = all vs (take n t)
cut_lines n (text_at i) = text_at i
cut_lines n (range_at i) = range_at i

-- the most bytes that they can have
abbrev pub most : List Entry → ℕ
most [] = 0
most (l ∷ ls) = length (line_head l.key) + (l.range.digits - 1 + 2) + most ls

then_cut : (n m i : ℕ) (k : ℕ → List ℕ → Lines) → ((v : ℕ) (t : List ℕ) → cut_lines n (k v (take m t)) ≡ cut_lines n (k v t))
    → (a : LineRead) → cut_lines n (and_then (cut_taken m a) i k) ≡ cut_lines n (and_then a i k)
then_cut n m i k on (taken v t) = on v t
then_cut n m i k on ill = refl
then_cut n m i k on out = refl

lines_cut : (ls : List Entry) (vs : List ℕ) (n m : ℕ) (t : List ℕ) → most ls + n ≤ m
    → cut_lines n (read_lines ls vs (take m t)) ≡ cut_lines n (read_lines ls vs t)
lines_cut [] vs n m t room = ap (all vs) (take-take n m t (omega arith))
lines_cut (l ∷ ls) vs n m t room =
    let left : ℕ = most ls + n in
    let k : ℕ → List ℕ → Lines = λ v r. read_lines ls (vs ++ (v ∷ [])) r in
    let i : ℕ = suc (length vs) in
    let step = then_cut n left i k (λ v r. lines_cut ls (vs ++ (v ∷ [])) n left r (omega arith)) in
    let line = line_cut (line_head l.key) l.range left m t (omega arith) in
    sym (step (read_line (line_head l.key) l.range (take m t)))
    ∙ ap (λ (a : LineRead). cut_lines n (and_then a i k)) line
    ∙ step (read_line (line_head l.key) l.range t)

-- ---- the text

stated_cut : (n : ℕ) (a : LineRead) → stated (cut_taken n a) ≡ stated a
stated_cut n (taken v t) = refl
stated_cut n ill = refl
stated_cut n out = refl

edition_by_start : (t : List ℕ) → edition_of (take text_most t) ≡ edition_of t
unfolding edition_of opening line_head bytes
edition_by_start t =
    let h : List ℕ = line_head opening.key in
    let r : Range = opening.range in
    let first = starts_cut (line_head (bytes "orbit")) t text_most (omega arith) in
    let line = line_cut h r 0 text_most t (omega arith) in
    let number : stated (read_line h r (take text_most t)) ≡ stated (read_line h r t) =
    sym (stated_cut 0 (read_line h r (take text_most t))) ∙ ap stated line ∙ stated_cut 0 (read_line h r t) in
    rw (first, number)

concluded_cut : (e : ℕ) (o : Lines) → concluded e (cut_lines 1 o) ≡ concluded e o
concluded_cut e (all ns []) = refl
concluded_cut e (all ns (b ∷ t)) = refl
concluded_cut e (text_at i) = refl
concluded_cut e (range_at i) = refl

-- of each edition, 0 not being one
pub tables_fit : (e : ℕ) → e ≤ newest → most (table_of e) + 1 ≤ text_most
unfolding table_of line_head
tables_fit zero h = lit≤ tt
tables_fit (suc zero) h = lit≤ tt
tables_fit (suc (suc zero)) h = lit≤ tt
tables_fit (suc (suc (suc zero))) h = lit≤ tt
tables_fit (suc (suc (suc (suc e)))) h = absurd (omega arith)

pub read_by_start : (t : List ℕ) → read_text (take text_most t) ≡ read_text t
unfolding read_text
read_by_start t =
    let e : ℕ = edition_of t in
    let lines = lines_cut (table_of e) [] 1 text_most t (tables_fit e (edition_most t)) in
    let same : concluded e (read_lines (table_of e) [] (take text_most t)) ≡ concluded e (read_lines (table_of e) [] t) =
    sym (concluded_cut e (read_lines (table_of e) [] (take text_most t))) ∙ ap (concluded e) lines ∙ concluded_cut e (read_lines (table_of e) [] t) in
    rw (edition_by_start t) (ap (λ (r : ReadOut). if (eqb e 0) (refused (TEXT 1)) r) same)
