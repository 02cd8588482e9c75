-- What following a crossing's codes tells, so that nothing is looked at again where nothing changed.
use Rattle.std.specs.Prelude.{List, ℕ}
use Rattle.words.specs.Same.{same_bytes}
use Rattle.steady.specs.declared.News.{News}
use Rattle.steady.specs.Steady.{believed_of}

-- codes that the crossing before carried too are all believed: `firm_now` (proofs/Laws.antt)
unfoldable pub news_of : (carried believed codes : List ℕ) → News
news_of carried believed codes =
    record { stays = same_bytes 21 believed (believed_of carried believed codes); firm = same_bytes 21 carried codes }
