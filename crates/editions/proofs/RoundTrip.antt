-- Demand 2 for the settings: accepted text of the newest edition writes back to the same bytes; older text reads back, after writing, as
-- equal values; what is written is accepted and reads back to the same values. The round trips of any table, at those of the editions.
use mathlib.Core.Path.{◌≡◌, refl, sym, ap, ◌∙◌}
use mathlib.Core.Logic.{⊎_elim}
use mathlib.Core.Bool.{Bool, true, false}
use mathlib.Core.List.{List, [], ◌∷◌, ◌++◌, append-nil}
use Prim.Native.Nat.{ℕ, zero, suc, ◌≤◌, ◌<◌}
use native.Mathlib.Omega.{arith}
use borrow.Author.Tests.{le-leb, ne_eqb, eqb-false}
use lib.Dec.{eqb, lit<, lit≤}
use lib.ListN.{length, drop, take, get_or}
use lib.Seq.{take-append_seam}
use Rattle.answer.specs.Told.{Told, DONE, TEXT, succeeded}
use Rattle.answer.proofs.Told.{not_done}
use Rattle.laws.specs.Base.{if}
use Rattle.laws.proofs.Tests.{either}
use Rattle.text.specs.declared.Range.{Range}
use Rattle.text.specs.Bytes.{bytes, starts}
use Rattle.text.specs.Lines.{Entry, keys_of, ranges_of, within, first_out, line_head, line_text, lines_text, LineRead, taken, ill, out, read_line, Lines, all, text_at, range_at, and_then, read_lines}
use Rattle.text.proofs.OneLine.{line_back}
use Rattle.text.proofs.Tables.{first_in, lines_back, lines_written}
use Rattle.keys.specs.Settings.{newest, opening, table_of}
use Rattle.settings.specs.declared.Settings.{Settings}
use Rattle.settings.specs.Relations.{relation, related}
use Rattle.settings.specs.Check.{out_of_range, checked}
use Rattle.settings.proofs.Passed.{passed, passes, related_done, done_checks}
use Rattle.editions.specs.Read.{ReadOut, edition_of, stated, laid_out, warn_blocks, settled, tested, concluded, read_text}
use Rattle.editions.specs.Texts.{text_in, InOrder}
use Rattle.editions.specs.Write.{numbers_of, text_of, write_answer, written}
use Rattle.editions.proofs.Known.{Known, known}
use Rattle.editions.proofs.Opening.{edition_most}
use Rattle.editions.proofs.Laid.{lines_read, numbers_long, read_inside, read_long, settled_pass, settled_long, newest_laid}

-- ---- what an accepted text says

-- it opens an edition, all its lines are in order, and the values that they give pass the check
pub record Accepted (t : List ℕ) : Type 0 where
  pub some : 0 < edition_of t
  pub numbers : List ℕ
  pub lines : read_lines (table_of (edition_of t)) [] t ≡ all numbers []
  pub related : (relation (laid_out (edition_of t) numbers)).relation ≡ 0
  pub settings : (read_text t).settings ≡ settled (edition_of t) numbers
  pub checks : checked (read_text t).settings ≡ DONE
  pub long : length (read_text t).settings.values ≡ 147

tested_done : (s : Settings) (a : Told) → (tested s a).answer ≡ DONE → a ≡ DONE
tested_done s a e =
    ⊎_elim (λ (ok : succeeded a ≡ true). rw ok at e) (λ (off : succeeded a ≡ false). rw off at e) (either (succeeded a))

module _ (t : List ℕ) (some : eqb (edition_of t) 0 ≡ false) where
  opens : 0 < edition_of t
  opens = let n = eqb-false (edition_of t) 0 some in omega arith

  facts : Known (edition_of t)
  facts = known (edition_of t) opens (edition_most t)

  accepted_lines : (ns : List ℕ) → read_lines (table_of (edition_of t)) [] t ≡ all ns []
      → (concluded (edition_of t) (all ns [])).answer ≡ DONE → read_text t ≡ concluded (edition_of t) (all ns []) → Accepted t
  accepted_lines ns is e whole =
      let own = laid_out (edition_of t) ns in
      let s = settled (edition_of t) ns in
      let fine = tested_done s (related (relation own)) e in
      let none = related_done (relation own) fine in
      let same : (read_text t).settings ≡ s = ap (λ (r : ReadOut). r.settings) whole ∙ rw fine in
      record {
        some = opens;
        numbers = ns;
        lines = is;
        related = none;
        settings = same;
        checks = rw same (passes s (settled_pass (edition_of t) ns (record { inside = read_inside (edition_of t) facts t ns is; related = none })));
        long = rw same (settled_long (edition_of t) ns ∙ read_long (edition_of t) facts t ns is);
      }

pub accepted : (t : List ℕ) → (read_text t).answer ≡ DONE → Accepted t
unfolding read_text
accepted t e =
    ⊎_elim
    (λ (none : eqb (edition_of t) 0 ≡ true). absurd (not_done (TEXT 1) (lit< tt) (rw none at e)))
    (λ (some : eqb (edition_of t) 0 ≡ false). go some (read_lines (table_of (edition_of t)) [] t) refl (rw some at e))
    (either (eqb (edition_of t) 0))
  where
    go : eqb (edition_of t) 0 ≡ false → (l : Lines) → read_lines (table_of (edition_of t)) [] t ≡ l → (concluded (edition_of t) l).answer ≡ DONE → Accepted t
    go some (text_at n) is e = absurd (not_done _ (lit< tt) e)
    go some (range_at n) is e = absurd (not_done _ (lit< tt) e)
    go some (all ns (b ∷ u)) is e = absurd (not_done _ (lit< tt) e)
    go some (all ns []) is e = accepted_lines t some ns is e (rw (some, is))

-- the numbers that stand on its lines are these
pub numbers_are : (t ns : List ℕ) (a : Accepted t) → read_lines (table_of (edition_of t)) [] t ≡ all ns [] → a.numbers ≡ ns
numbers_are t ns a is = one_list a.numbers ns (sym a.lines ∙ is)
  where
    one_list : (xs ys : List ℕ) → all xs [] ≡ all ys [] → xs ≡ ys
    one_list xs ys e = cc

-- ---- how a text opens

-- the number on the first line is the first that is read
first_number : (l : Entry) (ls : List Entry) (t ns r : List ℕ) → read_lines (l ∷ ls) [] t ≡ all ns r
    → stated (read_line (line_head l.key) l.range t) ≡ get_or ns 0 0
first_number l ls t ns r is = go (read_line (line_head l.key) l.range t) is
  where
    go : (k : LineRead) → and_then k 1 (λ v u. read_lines ls (v ∷ []) u) ≡ all ns r → stated k ≡ get_or ns 0 0
    go (taken v u) is = sym (ap (λ (l : List ℕ). get_or l 0 0) (lines_written ls (v ∷ []) u ns r 1 is).are)
    go ill is = cc
    go out is = cc

stated_later : (b : Bool) (n : ℕ) → 1 < if b 1 n → if b 1 n ≡ n
stated_later true n h = absurd (omega arith)
stated_later false n h = refl

-- the lines after an edition's first
abbrev later : ℕ → List Entry
later e = drop 1 (table_of e)

opened : (e : ℕ) → 1 < e → table_of e ≡ opening ∷ later e
unfolding table_of
opened e h = rw (ne_eqb e 1 (λ z. omega arith))

opens_own : (t : List ℕ) (a : Accepted t) → 1 < edition_of t → get_or a.numbers 0 0 ≡ edition_of t
unfolding edition_of
opens_own t a h =
    let is : read_lines (opening ∷ later (edition_of t)) [] t ≡ all a.numbers [] = ap (λ (ls : List Entry). read_lines ls [] t) (sym (opened (edition_of t) h)) ∙ a.lines in
    sym (first_number opening (later (edition_of t)) t a.numbers [] is) ∙ sym (stated_later (starts (line_head (bytes "orbit")) t) _ h)

opens_line : (v : ℕ) (rest : List ℕ) → within opening.range v ≡ true
    → read_line (line_head opening.key) opening.range (line_text (line_head opening.key) v ++ rest) ≡ taken v rest
unfolding opening
opens_line v rest = line_back (line_head opening.key) opening.range v rest (lit< tt) (lit< tt)

not_orbit : (v : ℕ) (rest : List ℕ) → starts (line_head (bytes "orbit")) (line_text (line_head opening.key) v ++ rest) ≡ false
unfolding opening line_text line_head bytes
not_orbit v rest = refl

-- ---- texts of an edition

module _ (t : List ℕ) (a : Accepted t) where
  known_own : Known (edition_of t)
  known_own = known (edition_of t) a.some (edition_most t)

  pub in_order : InOrder (edition_of t) a.numbers
  in_order =
      let r = lines_read (edition_of t) known_own t a.numbers a.lines in
      record {
        opens = opens_own t a;
        long = numbers_long (edition_of t) known_own t a.numbers a.lines ∙ sym known_own.long;
        inside = ap (first_out (ranges_of (table_of (edition_of t))) 1) r.are ∙ r.inside;
        related = a.related;
      }

  pub text_of_lem : t ≡ text_in (edition_of t) a.numbers
  text_of_lem =
      let r = lines_read (edition_of t) known_own t a.numbers a.lines in
      r.text ∙ append-nil _ ∙ ap (text_in (edition_of t)) (sym r.are)

first_in_range : (v : ℕ) (ns : List ℕ) (rs : List Range) → first_out (opening.range ∷ rs) 1 (v ∷ ns) ≡ 0 → within opening.range v ≡ true
first_in_range v ns rs e = (first_in opening.range rs v ns 1 (lit< tt) e).0

later_opens : (e : ℕ) → 1 < e → (v : ℕ) (ns : List ℕ) → v ≡ e → first_out (ranges_of (table_of e)) 1 (v ∷ ns) ≡ 0 → edition_of (text_in e (v ∷ ns)) ≡ e
unfolding edition_of
later_opens e h v ns own inside =
    let fine = first_in_range v ns (ranges_of (later e)) (rw (opened e h) at inside) in
    rw (opened e h, not_orbit v (lines_text (keys_of (later e)) ns), opens_line v (lines_text (keys_of (later e)) ns) fine) own

text_opens : (e : ℕ) → 0 < e → e ≤ newest → (ns : List ℕ) → InOrder e ns → edition_of (text_in e ns) ≡ e
unfolding edition_of table_of line_text line_head bytes
text_opens e some most [] o = absurd (omega (arith, o.long, (known e some most).long, (known e some most).some))
text_opens zero some most (n ∷ ns) o = absurd (omega arith)
text_opens (suc zero) some most (n ∷ ns) o = refl
text_opens (suc (suc e)) some most (n ∷ ns) o =
    let h : 1 < suc (suc e) = omega arith in
    later_opens (suc (suc e)) h n ns (o.opens h) o.inside

pub text_accepted : (e : ℕ) → 0 < e → e ≤ newest → (ns : List ℕ) → InOrder e ns
    → read_text (text_in e ns) ≡ record { answer = DONE; settings = settled e ns }
unfolding read_text
text_accepted e some most ns o =
    let k = known e some most in
    let t : List ℕ = text_in e ns in
    let whole : read_lines (table_of e) [] t ≡ all ns [] =
    ap (read_lines (table_of e) []) (sym (append-nil t)) ∙ lines_back (table_of e) ns [] [] 1 (lit< tt) k.good o.inside o.long in
    rw (text_opens e some most ns o, ne_eqb e 0 (λ z. omega arith), whole, o.related)

-- ---- the newest edition's own text

numbers_apart : (ns : List ℕ) → length ns ≡ 148 → get_or ns 0 0 ≡ newest → numbers_of (laid_out newest ns) ≡ ns
numbers_apart [] long e = absurd (omega arith)
numbers_apart (v ∷ vs) long e =
    ap (λ (l : List ℕ). newest ∷ l) (newest_laid v vs (omega arith)) ∙ ap (λ (n : ℕ). n ∷ vs) (sym e)

-- it has no line that is retired
as_laid : (ns : List ℕ) → settled newest ns ≡ laid_out newest ns
unfolding settled warn_blocks
as_laid ns = refl

pub text_back : (t : List ℕ) → edition_of t ≡ newest → (a : Accepted t) → text_of (read_text t).settings ≡ t
unfolding text_of
text_back t own a =
    let o = in_order t a in
    let opens = rw own at o.opens in
    rw (a.settings, own, as_laid, numbers_apart a.numbers (rw own at o.long ∙ (known newest (lit< tt) (lit≤ tt)).long) (opens (lit< tt))) (sym (rw own at (text_of_lem t a)))

-- ---- the round trips, as the operations have them

-- accepted text of the newest edition, written into a buffer with room, gives the same bytes, and later bytes stay
pub accepted_writes_back : (t d : List ℕ) → edition_of t ≡ newest → (read_text t).answer ≡ DONE → length t ≤ length d
    → written (read_text t).settings d ≡ record { answer = DONE; buffer = t ++ drop (length t) d }
unfolding written write_answer
accepted_writes_back t d own e room =
    let a = accepted t e in
    rw (a.checks, text_back t own a, le-leb (length t) (length d) room)

pub numbers_inside : (s : Settings) → out_of_range s ≡ 0 → first_out (ranges_of (table_of newest)) 1 (numbers_of s) ≡ 0
unfolding table_of opening out_of_range
numbers_inside s e = e

module _ (s : Settings) (long : length s.values ≡ 147) (ok : checked s ≡ DONE) where
  laid_back : laid_out newest (numbers_of s) ≡ s
  laid_back = ap (λ (vs : List ℕ). record { values = vs }) (newest_laid newest s.values long)

  numbers_in_order : InOrder newest (numbers_of s)
  numbers_in_order =
      let p = passed s ok in
      record { opens = λ h. refl; long = omega (arith, (known newest (lit< tt) (lit≤ tt)).long); inside = numbers_inside s p.inside; related = rw laid_back p.related }

  pub text_newest : edition_of (text_of s) ≡ newest
  unfolding text_of
  text_newest = text_opens newest (lit< tt) (lit≤ tt) (numbers_of s) numbers_in_order

  -- settings that pass the check read back from their text
  pub text_reads_back : read_text (text_of s) ≡ record { answer = DONE; settings = s }
  unfolding text_of
  text_reads_back =
      text_accepted newest (lit< tt) (lit≤ tt) (numbers_of s) numbers_in_order
      ∙ ap (λ (x : Settings). record { answer = DONE; settings = x }) (as_laid (numbers_of s) ∙ laid_back)

pub write_checks : (s : Settings) (room : ℕ) → write_answer s room ≡ DONE → checked s ≡ DONE
unfolding write_answer
write_checks s room e =
    ⊎_elim
    (λ (ok : succeeded (checked s) ≡ true). done_checks s ok)
    (λ (off : succeeded (checked s) ≡ false). rw off at e)
    (either (succeeded (checked s)))

-- what a successful writing left in front of the buffer is accepted, and gives the same settings
pub written_reads_back : (s : Settings) (d : List ℕ) → length s.values ≡ 147 → (written s d).answer ≡ DONE
    → read_text (take (length (text_of s)) (written s d).buffer) ≡ record { answer = DONE; settings = s }
unfolding written
written_reads_back s d long e =
    rw (e, take-append_seam) (text_reads_back s long (write_checks s (length d) e))

-- what is written of settings that pass the check, in a buffer with room
module _ (s : Settings) (d : List ℕ) (ok : checked s ≡ DONE) (room : length (text_of s) ≤ length d) where
  pub written_done : (written s d).answer ≡ DONE
  unfolding written write_answer
  written_done = rw (ok, le-leb (length (text_of s)) (length d) room)

  pub written_text : take (length (text_of s)) (written s d).buffer ≡ text_of s
  unfolding written write_answer
  written_text = rw (ok, le-leb (length (text_of s)) (length d) room) (take-append_seam (text_of s) _)

-- accepted text of any edition reads back, after writing, as equal values
pub older_reads_back : (t d : List ℕ) → (read_text t).answer ≡ DONE → length (text_of (read_text t).settings) ≤ length d
    → ((written (read_text t).settings d).answer ≡ DONE)
    × (read_text (take (length (text_of (read_text t).settings)) (written (read_text t).settings d).buffer) ≡ read_text t)
older_reads_back t d e room =
    let a = accepted t e in
    let s = (read_text t).settings in (
      written_done s d a.checks room,
      ap read_text (written_text s d a.checks room) ∙ text_reads_back s a.long a.checks ∙ sym (ap (λ (x : Told). record { answer = x; settings = s }) e),
    )
