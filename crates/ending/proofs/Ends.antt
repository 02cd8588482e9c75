-- A program that is not over has read its file, and what it holds is accepted.
-- By cases on the failure: an answer that is no refusal is the success.
use mathlib.Core.Path.{◌≡◌, sym}
use mathlib.Core.Bool.{Bool, true, false, false≢true}
use borrow.Author.Tests.{not-false}
use Rattle.answer.specs.Told.{Answer, told, succeeded, DONE}
use Rattle.answer.proofs.Told.{told_done}
use Rattle.ending.specs.Ends.{over}

pub went_on : (failed : Bool) (a : Answer) → over failed (told a) ≡ false → told a ≡ DONE
went_on true a e = absurd (false≢true (sym e))
went_on false a e = told_done a (not-false (succeeded (told a)) e)
