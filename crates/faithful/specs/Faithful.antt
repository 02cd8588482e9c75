-- Document 02, P7: what is promised of a salvaged log and of its list of changes.
use Rattle.std.specs.Prelude.{ℕ, ◌+◌, ◌*◌, ◌%◌, ◌/◌, ◌≤◌, ◌<◌, ◌≡◌, Bool, true, ◌&&◌, List, [], ◌∷◌, ◌++◌, length, get_or, take, drop}
use Rattle.answer.specs.Told.{succeeded, DONE}
use Rattle.records.specs.Records.{well, first_ill}
use Rattle.records.specs.Refusal.{records_in, refusal_of}
use Rattle.salvage.specs.Mending.{parts_in, salvaged_log}
use Rattle.salvage.specs.Changes.{Change, changes_in, list_text}
use Rattle.salvage.specs.Salvage.{MOST, salvage_of}
use Rattle.faithful.specs.Doing.{byte_after, is_dropped, log_after, AllFound, Rising}

-- a log of well-formed records
pub record Formed (log : List ℕ) : Type 0 where
  pub whole : length log % 24 ≡ 0
  pub well : first_ill (records_in log) log ≡ records_in log

-- ---- well-formed records pass unchanged, whatever stands before and behind them

pub record Passes (first : ℕ) (a rec b : List ℕ) : Type 0 where
  pub log : salvaged_log (a ++ (rec ++ b)) ≡ salvaged_log a ++ (rec ++ salvaged_log b)
  pub list : changes_in first (a ++ (rec ++ b)) ≡ changes_in first a ++ changes_in (first + length a / 24 + 1) b

abbrev pub RecordPasses : Type 0
RecordPasses = (first : ℕ) (a rec b : List ℕ) → length a % 24 ≡ 0 → length rec ≡ 24 → well rec ≡ true → Passes first a rec b

-- and a log of them comes out as it was, with an empty list
abbrev pub LogPasses : Type 0
LogPasses = (first : ℕ) (log : List ℕ) → Formed log → (salvaged_log log ≡ log) × (changes_in first log ≡ [])

-- ---- every record of the output is well formed, so a block made of it never gets RECORD

abbrev pub AllFormed : Type 0
AllFormed = (log : List ℕ) → Formed (salvaged_log log)

-- of any length, after any number of its records, over any crossings done, into any room
abbrev pub NeverRecord : Type 0
NeverRecord = (log : List ℕ) (before long done room : ℕ) → (refusal_of done (take long (drop (24 * before) (salvaged_log log))) room).number ≡ 7 → ⊥

-- ---- the list is true

pub record TrueList (first : ℕ) (log : List ℕ) : Type 0 where
  pub found : AllFound first log (changes_in first log)
  pub rising : Rising (24 * first) (changes_in first log)
  pub gives : log_after (changes_in first log) first log ≡ salvaged_log log
  -- to a part that it drops it does nothing else
  pub alone : (i k b : ℕ) → i < parts_in log → is_dropped (changes_in first log) (first + i) ≡ true → byte_after (changes_in first log) (first + i) k b ≡ b

abbrev pub ListIsTrue : Type 0
ListIsTrue = (first : ℕ) (log : List ℕ) → TrueList first log

-- and its text says one list
abbrev pub OneList : Type 0
OneList = (cs ds : List Change) → list_text cs ≡ list_text ds → cs ≡ ds

-- ---- salvage of its own output changes nothing

abbrev pub Again : Type 0
Again = (first : ℕ) (log : List ℕ) → (salvaged_log (salvaged_log log) ≡ salvaged_log log) × (changes_in first (salvaged_log log) ≡ [])

-- ---- pieces cut between records are the whole

-- a piece of a log, and the buffers that are lent for it
pub record Lent : Type 0 where
  pub log : List ℕ
  pub salvaged : List ℕ
  pub changes : List ℕ

abbrev pub uncut : List Lent → List ℕ
uncut [] = []
uncut (x ∷ xs) = x.log ++ uncut xs

-- only the last may have a tail
abbrev pub BetweenRecords : List Lent → Type 0
BetweenRecords [] = Unit {0}
BetweenRecords (x ∷ xs) = (0 < length (uncut xs) → length x.log % 24 ≡ 0) × BetweenRecords xs

-- what the pieces give: whether each was accepted, and what was written of each, one after the other
pub record Outcome : Type 0 where
  pub accepted : Bool
  pub salvaged : List ℕ
  pub list : List ℕ

-- one piece after the other, each numbered on from the records before it
unfoldable pub in_turn : (first : ℕ) → List Lent → Outcome
in_turn first [] = record { accepted = true; salvaged = []; list = [] }
in_turn first (x ∷ xs) =
    let o = salvage_of first x.log x.salvaged x.changes in
    let later = in_turn (first + length x.log / 24) xs in
    record {
      accepted = succeeded o.answer && later.accepted;
      salvaged = take o.log o.salvaged ++ later.salvaged;
      list = take o.list o.changes ++ later.list;
    }

abbrev pub Pieces : Type 0
Pieces =
    (first : ℕ) (pieces : List Lent)
    → BetweenRecords pieces
    → (in_turn first pieces).accepted ≡ true
    → ((in_turn first pieces).salvaged ≡ salvaged_log (uncut pieces)) × ((in_turn first pieces).list ≡ list_text (changes_in first (uncut pieces)))

-- ---- buffers that are always long enough: the log's own length, and 1,248 bytes for each part

abbrev pub RoomEnough : Type 0
RoomEnough =
    (first : ℕ) (log salvaged changes : List ℕ)
    → ((k : ℕ) → get_or log k 0 < 256)
    → first + parts_in log ≤ MOST
    → length log ≤ length salvaged
    → 1248 * parts_in log ≤ length changes
    → (salvage_of first log salvaged changes).answer ≡ DONE

pub record Faithful : Type 0 where
  pub record_passes : RecordPasses
  pub log_passes : LogPasses
  pub all_formed : AllFormed
  pub never_record : NeverRecord
  pub list_is_true : ListIsTrue
  pub one_list : OneList
  pub again : Again
  pub pieces : Pieces
  pub room_enough : RoomEnough
