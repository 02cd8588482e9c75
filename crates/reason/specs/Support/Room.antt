-- The room that lines need: no value's line, no answer's lines and no block's line is longer, whatever 64-bit numbers they have.
use Rattle.std.specs.Prelude.{ℕ}

abbrev pub value_most : ℕ
value_most = 29

abbrev pub answer_most : ℕ
answer_most = 67

abbrev pub block_most : ℕ
block_most = 27
