-- Document 02: "runs as before, proved" (P2, P3). Whatever settings give the older desk's view give its answers, rows and reports, over whole
-- logs, refused ones too; an older text gives those of the desk that it was written for; and so does what is written of it.
use Rattle.std.specs.Prelude.{ℕ, ◌≤◌, ◌≡◌, List, [], length, take}
use Rattle.answer.specs.Told.{DONE}
use Rattle.text.specs.Lines.{all, read_lines}
use Rattle.keys.specs.Settings.{newest, table_of}
use Rattle.settings.specs.declared.Settings.{Settings}
use Rattle.settings.specs.Check.{checked}
use Rattle.editions.specs.Read.{edition_of, read_text}
use Rattle.editions.specs.Write.{text_of, written}
use Rattle.kit.specs.View.{View, view_of}
use Rattle.board.specs.Fresh.{fresh_board}
use Rattle.board.specs.Block.{block_of}
use Rattle.report.specs.Report.{report_text}
use Rattle.views.specs.Run.{Given, given_by}
use Rattle.views.specs.Older.{first_view, second_view}

-- what the desk gives a bench of a whole log
abbrev pub given : Settings → (log buffer : List ℕ) → Given
given s log buffer =
    let o = block_of (fresh_board s) log buffer in
    record { answer = o.answer; rows = o.rows; report = report_text o.board }

abbrev pub EqualViews : Type 0
EqualViews = (s : Settings) (older : View) → view_of s ≡ older → checked s ≡ DONE → (log buffer : List ℕ) → given s log buffer ≡ given_by older log buffer

-- of an edition whose desk went by some view of the text; ns are the numbers that stand on its lines
abbrev pub AsBeforeIn : ℕ → (List ℕ → View) → Type 0
AsBeforeIn e older =
    (text ns : List ℕ) → (read_text text).answer ≡ DONE → edition_of text ≡ e → read_lines (table_of e) [] text ≡ all ns []
    → (log buffer : List ℕ) → given (read_text text).settings log buffer ≡ given_by (older ns) log buffer

-- what is written of a text, read back, is of the newest edition and gives the same
abbrev pub back_of : (text lent : List ℕ) → List ℕ
back_of text lent = let s = (read_text text).settings in take (length (text_of s)) (written s lent).buffer

pub record SameBack (text lent : List ℕ) : Type 0 where
  pub accepted : (read_text (back_of text lent)).answer ≡ DONE
  pub edition : edition_of (back_of text lent) ≡ newest
  pub same : (log buffer : List ℕ) → given (read_text (back_of text lent)).settings log buffer ≡ given (read_text text).settings log buffer

abbrev pub WrittenAsBefore : Type 0
WrittenAsBefore = (text lent : List ℕ) → (read_text text).answer ≡ DONE → length (text_of (read_text text).settings) ≤ length lent → SameBack text lent

pub record AsBefore : Type 0 where
  pub equal_views : EqualViews
  pub first : AsBeforeIn 1 first_view
  pub second : AsBeforeIn 2 second_view
  pub written_back : WrittenAsBefore
