-- Document 02, P6: what `desk_history` prints, of the bytes of `board.set` and `run.rec` and of the input that its argument names. No contract
-- can say which bytes a file holds, but what is printed is decided by them.
use Rattle.std.specs.Prelude.{ℕ, ◌≡◌, Bool, true, List, leb}
use Rattle.laws.specs.Base.{if}
use Rattle.answer.specs.Told.{Told, Answer, told, succeeded, DONE, RANGE}
use Rattle.history.specs.declared.Store.{Store}
use Rattle.history.specs.Store.{fresh_store, sound_store}
use Rattle.history.specs.Read.{read_bytes}
use Rattle.board.specs.declared.Board.{Board}
use Rattle.replay.specs.Replay.{opened_of}
use Rattle.replay.specs.Printed.{refusal_line, replayed}
use Rattle.beside.specs.Beside.{followed}

-- the text's refusal, RANGE with the input, the log's refusal; or the read-out of a store that followed the input through the whole log
unfoldable pub history_printed : (x : ℕ) (text log : List ℕ) → List ℕ
history_printed x text log =
    let made = opened_of text in
    let o = replayed made.board log in
    if (succeeded made.answer)
    (if (leb x 40) (if (succeeded o.answer) (read_bytes (followed x made.board log fresh_store)) (refusal_line o.answer)) (refusal_line (RANGE x)))
    (refusal_line made.answer)

-- the store after a piece: one that was not read, or is refused, leaves it
abbrev pub kept_after : (x : ℕ) → Board → (failed : Bool) → Told → List ℕ → Store → Store
kept_after x b failed a piece s = if failed s (if (succeeded a) (followed x b piece s) s)

-- the board of some text, which is accepted
pub record OpenedBy (b : Board) : Type 0 where
  pub text : List ℕ
  pub opens : (opened_of text).answer ≡ DONE
  pub is : b ≡ (opened_of text).board

-- whatever was read, the answer is that of some log in blocks of 64 records, and where that goes through the store is the one that followed it
pub record FollowedSomeLog (x : ℕ) (fresh : Board) (a : Answer) (s : Store) : Type 0 where
  pub log : List ℕ
  pub answer : told a ≡ (replayed fresh log).answer
  pub sound : sound_store s ≡ true
  pub store : told a ≡ DONE → s ≡ followed x fresh log fresh_store

-- the store of some text and some log, both accepted
pub record Closing (x : ℕ) (s : Store) : Type 0 where
  pub text : List ℕ
  pub log : List ℕ
  pub sound : sound_store s ≡ true
  pub are : read_bytes s ≡ history_printed x text log

-- what is printed for some text and some log
pub record OfSomeFiles (x : ℕ) (bytes : List ℕ) : Type 0 where
  pub text : List ℕ
  pub log : List ℕ
  pub are : bytes ≡ history_printed x text log
