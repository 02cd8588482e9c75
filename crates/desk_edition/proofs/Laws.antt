-- From the file to what is printed: a program that is not over has read its file, and the text of its settings is laid whole.
-- The text was accepted, so its settings pass the check, and their text fits the buffer.
use mathlib.Core.Path.{◌≡◌, sym, ap, ◌∙◌}
use mathlib.Core.Bool.{Bool, false}
use mathlib.Core.List.{List, ◌++◌}
use Prim.Native.Nat.{ℕ, ◌≤◌}
use native.Mathlib.Omega.{arith}
use borrow.Author.Tests.{le-leb}
use lib.ListN.{length, take, drop, length-append}
use lib.Seq.{take-append_seam}
use Rattle.answer.specs.Told.{Answer, told, DONE}
use Rattle.settings.specs.declared.Settings.{Settings}
use Rattle.settings.specs.Check.{checked}
use Rattle.editions.specs.declared.Read.{Read}
use Rattle.editions.specs.Read.{ReadOut}
use Rattle.editions.specs.Write.{WriteOut, text_of, write_out, write_answer, written}
use Rattle.editions.specs.Support.Prefix.{text_most}
use Rattle.editions.proofs.RoundTrip.{accepted}
use Rattle.editions.proofs.Fits.{text_fits}
use Rattle.ending.specs.Ends.{over}
use Rattle.ending.proofs.Ends.{went_on}
use Rattle.desk_edition.specs.Printed.{ReadOfSome, Upgrading, OfSomeText}

pub upgrading : (r : Read) (failed : Bool) → ReadOfSome r → over failed (told r.answer) ≡ false → Upgrading r.settings
upgrading r failed some on =
    record {
      text = some.0;
      accepted = sym (ap (λ (o : ReadOut). o.answer) some.1) ∙ went_on failed r.answer on;
      is = ap (λ (o : ReadOut). o.settings) some.1;
    }

module _ (s : Settings) (u : Upgrading s) (before after : List ℕ) (room : text_most ≤ length before) (a : Answer) (wrote : write_out a after ≡ written s before)
    (n : ℕ) (long : n ≡ length (text_of s)) where
  laid : after ≡ text_of s ++ drop (length (text_of s)) before
  unfolding written write_answer
  laid =
      let checks : checked s ≡ DONE = rw u.is (accepted u.text u.accepted).checks in
      let fits : length (text_of s) ≤ length before = omega (arith, text_fits s checks) in
      ap (λ (o : WriteOut). o.buffer) wrote ∙ rw (checks, le-leb _ _ fits)

  pub laid_long : n ≤ length after
  laid_long = rw (laid, length-append) (omega arith)

  pub laid_are : OfSomeText (take n after)
  laid_are = record { text = u.text; accepted = u.accepted; are = rw (long, laid, take-append_seam) (ap text_of u.is) }
