-- The words in use as the code goes over them.
use Rattle.std.specs.Prelude.{ℕ, List}
use Rattle.history.specs.declared.ring.Ring.{Ring}
use Rattle.history.specs.Store.{content}

abbrev pub in_use : Ring → List ℕ
in_use r = content r.words.now r.oldest r.used
