-- An older text runs as before: its settings have the view that the desk of its edition had of it. What is written of it reads back to them.
-- What was accepted gives settings that pass the check, laid out from the text's own numbers.
use mathlib.Core.Path.{◌≡◌, ap, ◌∙◌}
use mathlib.Core.List.{List}
use Prim.Native.Nat.{ℕ, ◌≤◌, ◌<◌}
use lib.Dec.{lit<, lit≤}
use lib.ListN.{length}
use Rattle.keys.specs.Settings.{newest}
use Rattle.editions.specs.Read.{ReadOut, edition_of, settled, read_text}
use Rattle.editions.specs.Support.Tables.{count_of}
use Rattle.editions.proofs.Known.{known}
use Rattle.editions.proofs.Laid.{numbers_long}
use Rattle.editions.proofs.RoundTrip.{accepted, numbers_are, text_newest, written_text, older_reads_back}
use Rattle.kit.specs.View.{View, view_of}
use Rattle.views.specs.Older.{first_view, second_view}
use Rattle.views.specs.AsBefore.{given, AsBeforeIn, WrittenAsBefore, AsBefore}
use Rattle.views.proofs.Equal.{equal_views}
use Rattle.views.proofs.Older.{first_view_lem, second_view_lem}

-- of any edition whose settings have the view
as_before_in : (e : ℕ) → 0 < e → e ≤ newest → (older : List ℕ → View)
    → ((ns : List ℕ) → length ns ≡ count_of e → view_of (settled e ns) ≡ older ns) → AsBeforeIn e older
as_before_in e some most older seen text ns done own is log buffer =
    let a = accepted text done in
    let same = numbers_are text ns a (rw own is) in
    let settings : (read_text text).settings ≡ settled e ns = a.settings ∙ rw (own, same) in
    equal_views (read_text text).settings (older ns) (ap view_of settings ∙ seen ns (numbers_long e (known e some most) text ns is)) a.checks log buffer

written_back : WrittenAsBefore
written_back text lent done room =
    let a = accepted text done in
    let s = (read_text text).settings in
    let back = older_reads_back text lent done room in
    record {
      accepted = ap (λ (o : ReadOut). o.answer) back.1 ∙ done;
      edition = ap edition_of (written_text s lent a.checks room) ∙ text_newest s a.long a.checks;
      same = λ log buffer. ap (λ (o : ReadOut). given o.settings log buffer) back.1;
    }

pub as_before : AsBefore
as_before = record {
  equal_views = equal_views;
  first = as_before_in 1 (lit< tt) (lit≤ tt) first_view first_view_lem;
  second = as_before_in 2 (lit< tt) (lit≤ tt) second_view second_view_lem;
  written_back = written_back;
}
