-- What `desk_why` prints of the bytes of `board.set` and of `run.rec`: the desk's answer, and the block of the log that is refused.
-- No contract can say which bytes a file holds, but they decide what is printed.
use Rattle.std.specs.Prelude.{ℕ, zero, suc, ◌*◌, ◌≡◌, Bool, false, not, List, [], ◌++◌, ltb, replicate}
use Rattle.laws.specs.Base.{if}
use Rattle.answer.specs.Told.{Told, Answer, told, succeeded, DONE}
use Rattle.reason.specs.Reason.{answer_text, block_text}
use Rattle.records.specs.Refusal.{records_in}
use Rattle.board.specs.declared.Board.{Board}
use Rattle.replay.specs.Replay.{opened_of, blocks_in, in_blocks}
use Rattle.replay.specs.Printed.{replayed}

-- how many of the first n blocks of a log are run before one is refused
unfoldable pub run_before : ℕ → Board → List ℕ → List ℕ → ℕ
run_before zero b log rows = 0
run_before (suc n) b log rows = if (succeeded (in_blocks (suc n) b log rows).answer) (suc n) (run_before n b log rows)

-- how many of all its blocks, run as `replayed` does
unfoldable pub run_in : Board → List ℕ → ℕ
run_in b log = run_before (blocks_in log) b log (replicate (12 * records_in log) 0)

-- the lines of an answer, and where it refuses a log, of the block
abbrev pub why_text : Told → (refuses : Bool) → (block : ℕ) → List ℕ
why_text a refuses block = answer_text a ++ if refuses (block_text block) []

-- the text's answer where that is a refusal, and else the log's, with the block where that is one
unfoldable pub why_of : (text log : List ℕ) → List ℕ
why_of text log =
    let made = opened_of text in
    let a = (replayed made.board log).answer in
    if (succeeded made.answer) (why_text a (not (succeeded a)) (run_in made.board log)) (answer_text made.answer)

-- more of the log may follow: the block was read, is full and was accepted
abbrev pub goes_on : Bool → ℕ → Told → Bool
goes_on failed n a = if failed false (if (ltb n 1536) false (succeeded a))

-- the board of some text, which is accepted
pub record OpenedBy (b : Board) : Type 0 where
  pub text : List ℕ
  pub opens : (opened_of text).answer ≡ DONE
  pub is : b ≡ (opened_of text).board

-- whatever was read, the answer is that of some log in blocks of 64 records, and where that is refused, so many blocks were run before
pub record FoundInSomeLog (fresh : Board) (a : Answer) (block : ℕ) : Type 0 where
  pub log : List ℕ
  pub answer : told a ≡ (replayed fresh log).answer
  pub run : succeeded (told a) ≡ false → block ≡ run_in fresh log

-- what is printed for some text and some log
pub record OfSomeFiles (bytes : List ℕ) : Type 0 where
  pub text : List ℕ
  pub log : List ℕ
  pub are : bytes ≡ why_of text log
