-- Document 02, P7: the list of changes, an entry for each byte mended and for each part dropped, in rising order.
use Rattle.std.specs.Prelude.{ℕ, zero, suc, ◌+◌, List, [], ◌∷◌, ◌++◌, eqb, get_or}
use Rattle.laws.specs.Base.{if}
use Rattle.text.specs.Bytes.{bytes}
use Rattle.text.specs.Lines.{line_text}
use Rattle.records.specs.Records.{rec_at}
use Rattle.salvage.specs.Mending.{parts_in, is_kept, mend}

-- records numbered as in the input; a dropped record or tail has its first byte's value
pub data Change : Type 0 where
  mends : (number byte was becomes : ℕ) → Change
  drops : (number was : ℕ) → Change

-- ---- the entries

-- of byte k of record n
unfoldable pub change_at : (n kind k b : ℕ) → List Change
change_at n kind k b = if (eqb (mend kind k b) b) [] (mends n k b (mend kind k b) ∷ [])

-- of the first k bytes of record n
unfoldable pub changes_to : (k n : ℕ) → List ℕ → List Change
changes_to zero n rec = []
changes_to (suc k) n rec = changes_to k n rec ++ change_at n (get_or rec 0 0) k (get_or rec k 0)

-- of part n: a dropped one has one entry, whatever else was bad in it
unfoldable pub changes_of : (n : ℕ) → List ℕ → List Change
changes_of n part = if (is_kept part) (changes_to 24 n part) (drops n (get_or part 0 0) ∷ [])

-- of the first n parts of a log, numbered from `first` on
unfoldable pub changes_over : (n first : ℕ) → List ℕ → List Change
changes_over zero first log = []
changes_over (suc n) first log = changes_over n first log ++ changes_of (first + n) (rec_at log n)

abbrev pub changes_in : (first : ℕ) → List ℕ → List Change
changes_in first log = changes_over (parts_in log) first log

-- ---- their text

-- `record=`, `byte=`, `was=`
unfoldable pub place_text : (number byte was : ℕ) → List ℕ
place_text number byte was = line_text (bytes "record=") number ++ (line_text (bytes "byte=") byte ++ line_text (bytes "was=") was)

-- and `now=`; a dropped part has `byte=0` and `now=drop`
unfoldable pub change_text : Change → List ℕ
change_text (mends number byte was becomes) = place_text number byte was ++ line_text (bytes "now=") becomes
change_text (drops number was) = place_text number 0 was ++ (bytes "now=drop" ++ (10 ∷ []))

unfoldable pub list_text : List Change → List ℕ
list_text [] = []
list_text (c ∷ cs) = change_text c ++ list_text cs
