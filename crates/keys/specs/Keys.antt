-- Every key that a text of the desk may have, by its place in the one table of byte strings.
use Rattle.std.specs.Prelude.{ℕ, List, [], ◌++◌, get_or}
use Rattle.text.specs.Lines.{keys_of}
use Rattle.keys.specs.Report.{common_keys, block_keys}
use Rattle.keys.specs.Support.Lines.{lines}

unfoldable pub keys : List (List ℕ)
unfolding lines common_keys block_keys
keys = keys_of lines ++ (common_keys ++ block_keys)

unfoldable pub key_at : ℕ → List ℕ
key_at n = get_or keys n []

abbrev pub key_count : ℕ
key_count = 181

-- where the report's keys begin
abbrev pub common_first : ℕ
common_first = 160

abbrev pub block_first : ℕ
block_first = 164

-- how long they are together, each with its `=`
abbrev pub key_bytes : ℕ
key_bytes = 1489

-- no line of a key and a u64 is longer
abbrev pub line_most : ℕ
line_most = 4096
