-- The words are lent and the rest of a store goes beside them, with where a scan of its words ends.
use Rattle.std.specs.Prelude.{◌≡◌, true, List, ℕ, length}
use Rattle.history.specs.declared.Store.{Store}
use Rattle.history.specs.declared.keep.Pen.{Pen}
use Rattle.history.specs.Scan.{start, scanned}
use Rattle.history.specs.Store.{kept, sound_store}

-- the store that words and a pen stand for
abbrev pub store_at : List ℕ → Pen → Store
store_at words p = record { words = words; oldest = p.oldest; used = p.used }

abbrev pub pen_of : Store → Pen
pen_of s = record { oldest = s.oldest; used = s.used; scan = scanned start (kept s) }

-- a sound store, and the scan of its words
pub record Aligned (words : List ℕ) (p : Pen) : Type 0 where
  pub long : length words ≡ 1024
  pub sound : sound_store (store_at words p) ≡ true
  pub scan : p.scan ≡ scanned start (kept (store_at words p))
