-- The blocks of 64 records of a log, tested one after the other before any of them is run.
-- `tested_first` (replay/proofs/TestedFirst.antt): what is then run is what the blocks do in turn.
use Rattle.std.specs.Prelude.{ℕ, zero, suc, ◌+◌, ◌-◌, ◌*◌, ◌/◌, List, length, take, drop}
use Rattle.laws.specs.Base.{if}
use Rattle.answer.specs.Told.{Told, told, succeeded, DONE}
use Rattle.records.specs.declared.blocks.Tested.{Tested}
use Rattle.records.specs.Records.{crossings_in}
use Rattle.records.specs.Refusal.{records_in, refusal_of}

-- how many blocks a log has, the last holding what is left; and the one that n others stand before
abbrev pub block_count : List ℕ → ℕ
block_count log = (length log + 1535) / 1536

abbrev pub block_in : List ℕ → ℕ → List ℕ
block_in log n = take 1536 (drop (1536 * n) log)

-- the first refusal, and how many records stand before its block; DONE, and all records, where there is none
pub record TestedOut : Type 0 where
  pub answer : Told
  pub records : ℕ

abbrev pub tested_out : Tested → TestedOut
tested_out t = record { answer = told t.answer; records = t.records }

-- the first n blocks, over a board with this many crossings done and a rows buffer of this length
unfoldable pub tested_of : ℕ → (done : ℕ) (log : List ℕ) (room : ℕ) → TestedOut
tested_of zero done log room = record { answer = DONE; records = 0 }
tested_of (suc n) done log room =
    let before = tested_of n done log room in
    let a = refusal_of (done + crossings_in (64 * n) log) (block_in log n) (room - 768 * n) in
    if (succeeded before.answer) (record { answer = a; records = 64 * n + if (succeeded a) (records_in (block_in log n)) 0 }) before
