-- The text of settings that pass the check fits the buffer that the programs lend for it.
-- Each line has at most the digits of its range; added up over the table, that is what the reader may need.
use mathlib.Core.Path.{◌≡◌}
use mathlib.Core.Bool.{true, ◌&&◌}
use mathlib.Core.List.{List, [], ◌∷◌}
use Prim.Native.Nat.{ℕ, suc, ◌+◌, ◌-◌, ◌≤◌, ◌<◌, ◌^◌}
use native.Mathlib.Omega.{arith}
use borrow.Author.Tests.{leb-true, ltb-true}
use lib.Dec.{leb, ltb, lit<, lit≤}
use lib.ListN.{length, length-append}
use Rattle.answer.specs.Told.{DONE}
use Rattle.laws.specs.Base.{all_b}
use Rattle.laws.proofs.Bools.{both}
use Rattle.text.specs.declared.Range.{Range}
use Rattle.text.specs.Lines.{Entry, keys_of, ranges_of, line_head, line_text, lines_text, within, first_out, sensible}
use Rattle.text.proofs.Decimal.{digits_within}
use Rattle.text.proofs.Rows.{row_length}
use Rattle.text.proofs.Tables.{first_in}
use Rattle.keys.specs.Settings.{newest, table_of}
use Rattle.settings.specs.declared.Settings.{Settings}
use Rattle.settings.specs.Check.{checked}
use Rattle.settings.proofs.Passed.{passed}
use Rattle.editions.specs.Write.{numbers_of, text_of}
use Rattle.editions.specs.Support.Prefix.{text_most}
use Rattle.editions.proofs.Known.{known}
use Rattle.editions.proofs.Prefix.{most, tables_fit}
use Rattle.editions.proofs.RoundTrip.{numbers_inside}

line_most_lem : (h : List ℕ) (r : Range) (v : ℕ) → 0 < r.digits → r.high < 10 ^ r.digits → within r v ≡ true
    → length (line_text h v) ≤ length h + (r.digits - 1 + 2)
line_most_lem h r v some fits ok =
    let top = leb-true v r.high (both (leb r.low v) (leb v r.high) ok).1 in
    omega (arith, row_length h v, digits_within v r.digits some (omega arith))

lines_most : (ls : List Entry) (vs : List ℕ) (k : ℕ) → 0 < k → sensible (ranges_of ls) ≡ true → first_out (ranges_of ls) k vs ≡ 0
    → length (lines_text (keys_of ls) vs) ≤ most ls
unfolding all_b
lines_most [] vs k pos good ok = omega arith
lines_most (l ∷ ls) [] k pos good ok = omega arith
lines_most (l ∷ ls) (v ∷ vs) k pos good ok =
    let r : Range = l.range in
    let g = both (ltb 0 r.digits && ltb r.high (10 ^ r.digits)) (sensible (ranges_of ls)) good in
    let d = both (ltb 0 r.digits) (ltb r.high (10 ^ r.digits)) g.0 in
    let f = first_in r (ranges_of ls) v vs k pos ok in
    let first = line_most_lem (line_head l.key) r v (ltb-true 0 r.digits d.0) (ltb-true r.high (10 ^ r.digits) d.1) f.0 in
    rw length-append (omega (arith, first, lines_most ls vs (suc k) (omega arith) g.1 f.1))

pub text_fits : (s : Settings) → checked s ≡ DONE → length (text_of s) ≤ text_most
unfolding text_of
text_fits s e =
    let k = known newest (lit< tt) (lit≤ tt) in
    omega (arith, lines_most (table_of newest) (numbers_of s) 1 (lit< tt) k.good (numbers_inside s (passed s e).inside), tables_fit newest (lit≤ tt))
