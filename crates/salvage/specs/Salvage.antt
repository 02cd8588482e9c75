-- Document 02, P7: the operation. Refusals: ROOM for either buffer, the log's first; before them RANGE, where the numbers would
-- pass the greatest that there is.
use Rattle.std.specs.Prelude.{ℕ, ◌+◌, min, List, Result, Ok, Err, leb, length}
use Rattle.laws.specs.Base.{if}
use Rattle.answer.specs.declared.Refusal.{Refusal}
use Rattle.answer.specs.Told.{Told, told_refusal, DONE, RANGE, ROOM}
use Rattle.text.specs.Bytes.{put}
use Rattle.salvage.specs.declared.Lengths.{Lengths}
use Rattle.salvage.specs.Mending.{parts_in, salvaged_log}
use Rattle.salvage.specs.Changes.{changes_in, list_text}

-- the greatest number, 2^64 − 1; a list that needs more is told to need that
abbrev pub MOST : ℕ
MOST = 18446744073709551615

-- what salvaging gives back: the answer, how many bytes it wrote into each buffer, and the buffers after it
pub record SalvageOut : Type 0 where
  pub answer : Told
  pub log : ℕ
  pub list : ℕ
  pub salvaged : List ℕ
  pub changes : List ℕ

-- a refusal writes nothing
abbrev pub refused_with : Told → List ℕ → List ℕ → SalvageOut
refused_with a salvaged changes = record { answer = a; log = 0; list = 0; salvaged = salvaged; changes = changes }

-- the code's result, as told
abbrev pub salvage_out : Result Lengths Refusal → List ℕ → List ℕ → SalvageOut
salvage_out (Ok written) salvaged changes = record { answer = DONE; log = written.log; list = written.list; salvaged = salvaged; changes = changes }
salvage_out (Err refusal) salvaged changes = refused_with (told_refusal refusal) salvaged changes

-- the records of the log are numbered from `first` on
unfoldable pub salvage_of : (first : ℕ) (log salvaged changes : List ℕ) → SalvageOut
salvage_of first log salvaged changes =
    let out = salvaged_log log in
    let list = list_text (changes_in first log) in
    if (leb (first + parts_in log) MOST)
    (if (leb (length out) (length salvaged))
    (if (leb (length list) (length changes))
    (record { answer = DONE; log = length out; list = length list; salvaged = put salvaged 0 out; changes = put changes 0 list })
    (refused_with (ROOM (min (length list) MOST)) salvaged changes))
    (refused_with (ROOM (length out)) salvaged changes))
    (refused_with (RANGE first) salvaged changes)
