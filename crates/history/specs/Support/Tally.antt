-- Where a scan of all words in use ends, and how many of them are changes.
use Rattle.std.specs.Prelude.{length}
use Rattle.history.specs.declared.Store.{Store}
use Rattle.history.specs.declared.scan.Tally.{Tally}
use Rattle.history.specs.Scan.{start, scanned, read}
use Rattle.history.specs.Store.{kept}

abbrev pub tally_of : Store → Tally
tally_of s = record { scan = scanned start (kept s); changes = length (read start (kept s)) }
