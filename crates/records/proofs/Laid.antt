-- A row written at the start of what is left of a buffer whose first a bytes are done: they are done, then the row, then the old bytes.
-- The part that was lent begins where the done bytes end and reaches to the end of the buffer.
use mathlib.Core.Path.{◌≡◌, ◌∙◌}
use mathlib.Core.List.{List, [], ◌++◌, append_assoc, append-nil}
use Prim.Native.Nat.{ℕ, ◌+◌, ◌-◌, ◌≤◌}
use native.Mathlib.Omega.{arith}
use lib.ListN.{length, drop, take, length-drop, drop_of_length-le}
use lib.Seq.{take_at, drop_at, take_all, drop-drop}
use borrow.Rule.Slice.PartMut.{put_mid}

pub laid : (done row old : List ℕ) (a w : ℕ) → length done ≡ a → length row ≡ w → a + w ≤ length old
    → (rows part : List ℕ) → rows ≡ done ++ drop a old → part ≡ row ++ drop w (take (length rows - a) (drop a rows))
    → put_mid a (length rows - a) rows part ≡ (done ++ row) ++ drop (a + w) old
laid done row old a w ed er h rows part e p =
    let tk : take a rows ≡ done = rw e (take_at done (drop a old) a ed) in
    let dr : drop a rows ≡ drop a old = rw e (drop_at done (drop a old) a ed) in
    let le : length (drop a old) ≤ length rows - a = rw (← dr) (rw length-drop (omega arith)) in
    let pt : part ≡ row ++ drop w (drop a old) = p ∙ rw (dr, take_all (length rows - a) (drop a old) le) in
    let no : drop (length rows - a) (drop a rows) ≡ [] = rw dr (drop_of_length-le (drop a old) le) in
    rw (tk, no, pt, append-nil, drop-drop, ← append_assoc)
