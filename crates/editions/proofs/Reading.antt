-- The loop over the lines of an edition: what each turn and each way out says of the whole; and what reading answers by the way that was taken.
-- The walks over any table, at that of the edition; the ways by cases on what was told.
use mathlib.Core.Path.{◌≡◌, sym, ap, ◌∙◌}
use mathlib.Core.Bool.{true, false, false≢true}
use mathlib.Core.List.{List, [], ◌∷◌}
use Prim.Native.Nat.{ℕ, ◌+◌, ◌≤◌, ◌<◌}
use native.Mathlib.Numerals.{add-one}
use native.Mathlib.Omega.{arith}
use Rattle.std.specs.Prelude.{Ok, Err}
use lib.Dec.{eqb}
use lib.ListN.{length, drop, take, set, get_or, drop_of_length-le}
use lib.Seq.{drop-cons, length-take-le}
use Rattle.answer.specs.declared.Refusal.{Refusal}
use Rattle.answer.specs.Told.{told_refusal, DONE, TEXT, succeeded}
use Rattle.answer.proofs.Told.{refused as refused_lem}
use Rattle.text.specs.declared.LineFault.{LineFault}
use Rattle.text.specs.declared.LineFault.TheVariants as fault
use Rattle.text.specs.declared.Range.{Range}
use Rattle.text.specs.Lines.{Entry, line_head, taken, ill, out, read_line, Lines, all, text_at, read_lines}
use Rattle.text.specs.Lines as read
use Rattle.text.specs.Support.Seen.{LineIs}
use Rattle.text.proofs.Walk.{at_ill, at_out, at_value, at_end}
use Rattle.keys.specs.Settings.{table_of}
use Rattle.keys.specs.Keys.{key_at}
use Rattle.keys.specs.Support.Lines.{lines, range_at}
use Rattle.keys.proofs.Lines.{no_entry, entry_key, entry_range}
use Rattle.settings.specs.Relations.{relation, related}
use Rattle.settings.specs.Check.{out_of_range}
use Rattle.settings.specs.Lows.{lows_cleared}
use Rattle.editions.specs.Read.{edition_of, laid_out, warn_blocks, settled, refused, tested, concluded, read_text}
use Rattle.editions.specs.declared.tables.Edition.{Edition}
use Rattle.editions.specs.declared.tables.Edition.TheVariants.{First, Second, Third}
use Rattle.editions.specs.Support.Tables.{number_of, count_of, numbers_in, place_of}
use Rattle.editions.specs.Support.Got.{fault_at, lines_told, GotIs}
use Rattle.editions.proofs.Laid.{read_inside}
use Rattle.editions.proofs.Known.{Known, known_edition, place_inside, entry_is}

-- the loop before line n, which begins at a place of the text: the numbers so far, and what is left
pub record Before (e : Edition) (ns s : List ℕ) (at n : ℕ) : Type 0 where
  pub long : length ns ≡ 149
  pub left : read_lines (table_of (number_of e)) [] s ≡ read_lines (drop n (table_of (number_of e))) (take n ns) (drop at s)

-- its place among the lines of all editions, and its range
module _ {e : Edition} {ns s : List ℕ} {at n : ℕ} (b : Before e ns s at n) (p : ℕ) (r : Range) (more : n < count_of (number_of e)) (here : p ≡ place_of (number_of e) n) (range : r ≡ range_at p) where
  abbrev table : List Entry
  table = table_of (number_of e)

  k : Known (number_of e)
  k = known_edition e

  inside : n < length table
  inside = omega (arith, k.long)

  room : n < length ns
  room = omega (arith, b.long, k.most)

  entry : get_or table n no_entry ≡ get_or lines p no_entry
  entry = entry_is (number_of e) k n more ∙ rw here

  line_key : (get_or table n no_entry).key ≡ key_at p
  line_key = ap (λ (l : Entry). l.key) entry ∙ entry_key p (rw here (place_inside (number_of e) k n more))

  line_range : (get_or table n no_entry).range ≡ r
  line_range = ap (λ (l : Entry). l.range) entry ∙ entry_range p ∙ sym range

  pub fault_is : (f : LineFault) → LineIs s at (line_head (key_at p)) r (Err f) → fault_at (n + 1) f ≡ lines_told (read_lines table [] s)
  fault_is fault.Ill is = sym (ap lines_told (at_ill table ns s at n no_entry b.left inside room (rw (line_key, line_range) is.says)))
  fault_is fault.Out is = sym (ap lines_told (at_out table ns s at n no_entry b.left inside room (rw (line_key, line_range) is.says)))

  pub value_is : (v next : ℕ) → LineIs s at (line_head (key_at p)) r (Ok (v, next))
      → read_lines table [] s ≡ read_lines (drop (n + 1) table) (take (n + 1) (set ns n v)) (drop next s)
  value_is v next is = at_value table ns s at n no_entry b.left inside room v next (rw (line_key, line_range) is.says)

-- and after the last
module _ {e : Edition} {ns s : List ℕ} {at n : ℕ} (b : Before e ns s at n) (last : n ≡ count_of (number_of e)) where
  ended : read_lines (table_of (number_of e)) [] s ≡ all (numbers_in e ns) (drop at s)
  ended = rw (← last) (at_end (table_of (number_of e)) ns s at n b.left (omega (arith, (known_edition e).long)))

  pub tail_is : at < length s → TEXT (count_of (number_of e) + 1) ≡ lines_told (read_lines (table_of (number_of e)) [] s)
  tail_is h =
      sym (ap lines_told ended ∙ rw (drop-cons s at 0 h, length-take-le (count_of (number_of e)) ns (omega (arith, b.long, (known_edition e).most)), add-one))

  pub end_is : length s ≤ at → read_lines (table_of (number_of e)) [] s ≡ all (numbers_in e ns) []
  end_is past = ended ∙ rw (drop_of_length-le s past)

-- ---- what reading answers

pub unknown_is : (t : List ℕ) → edition_of t ≡ 0 → read_text t ≡ refused (TEXT 1)
unfolding read_text
unknown_is t e = rw e

opened : (t : List ℕ) (e : Edition) → number_of e ≡ edition_of t → read_text t ≡ concluded (number_of e) (read_lines (table_of (number_of e)) [] t)
unfolding read_text
opened t First is = rw (← is)
opened t Second is = rw (← is)
opened t Third is = rw (← is)

faulty : (e : ℕ) (l : Lines) (r : Refusal) → told_refusal r ≡ lines_told l → concluded e l ≡ refused (told_refusal r)
faulty e (text_at n) r says = rw says
faulty e (read.range_at n) r says = rw says
faulty e (all ns []) r says = absurd (false≢true (sym (refused_lem r) ∙ ap succeeded says))
faulty e (all ns (b ∷ u)) r says = rw says

-- of the edition that the text opens
module _ (t : List ℕ) (e : Edition) (is : number_of e ≡ edition_of t) where
  pub refused_is : (r : Refusal) → GotIs e t (Err r) → read_text t ≡ refused (told_refusal r)
  refused_is r says = opened t e is ∙ faulty (number_of e) (read_lines (table_of (number_of e)) [] t) r says

  module _ (ns : List ℕ) (got : GotIs e t (Ok ns)) where
    abbrev numbers : List ℕ
    numbers = numbers_in e ns

    read_is : read_text t ≡ tested (settled (number_of e) numbers) (related (relation (laid_out (number_of e) numbers)))
    read_is = opened t e is ∙ ap (concluded (number_of e)) got

    pub related_is : (r : Refusal) → told_refusal r ≡ related (relation (laid_out (number_of e) numbers)) → read_text t ≡ refused (told_refusal r)
    related_is r says = read_is ∙ rw (← says, refused_lem r)

    pub done_is : DONE ≡ related (relation (laid_out (number_of e) numbers)) → read_text t ≡ record { answer = DONE; settings = settled (number_of e) numbers }
    done_is says = read_is ∙ rw (← says)

-- the values are in their ranges
pub inside_is : (t : List ℕ) (e : Edition) (ns : List ℕ) → GotIs e t (Ok ns) → out_of_range (laid_out (number_of e) (numbers_in e ns)) ≡ 0
inside_is t e ns got = read_inside (number_of e) (known_edition e) t (numbers_in e ns) got

-- text that stopped triggers has low limits of 0
module _ (e : ℕ) (ns : List ℕ) where
  pub stopped_is : eqb (warn_blocks e ns) 1 ≡ true → settled e ns ≡ lows_cleared (laid_out e ns)
  unfolding settled
  stopped_is y = rw y

  pub going_is : eqb (warn_blocks e ns) 1 ≡ false → settled e ns ≡ laid_out e ns
  unfolding settled
  going_is y = rw y

pub ruleset reading = (unknown_is, inside_is, stopped_is, going_is)
