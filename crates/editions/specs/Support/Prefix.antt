-- How many bytes of a settings text the programs read: no text that is accepted has more, and what a longer one gets is decided by these.
use Rattle.std.specs.Prelude.{ℕ}

abbrev pub text_most : ℕ
text_most = 4096
