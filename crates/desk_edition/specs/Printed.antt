-- What `desk_edition` prints of a `board.set` that it has read: no contract can say which bytes that holds, but they decide it.
use Rattle.std.specs.Prelude.{◌≡◌, List, ℕ}
use Rattle.answer.specs.Told.{DONE}
use Rattle.settings.specs.declared.Settings.{Settings}
use Rattle.editions.specs.declared.Read.{Read}
use Rattle.editions.specs.Read.{read_out, read_text}
use Rattle.editions.specs.Write.{text_of}

-- whatever was read, it is what some text is read as
abbrev pub ReadOfSome : Read → Type 0
ReadOfSome r = (text : List ℕ) × (read_out r ≡ read_text text)

-- the settings of some text that is accepted
pub record Upgrading (s : Settings) : Type 0 where
  pub text : List ℕ
  pub accepted : (read_text text).answer ≡ DONE
  pub is : s ≡ (read_text text).settings

-- the newest edition of some text that is accepted
pub record OfSomeText (bytes : List ℕ) : Type 0 where
  pub text : List ℕ
  pub accepted : (read_text text).answer ≡ DONE
  pub are : bytes ≡ text_of (read_text text).settings
