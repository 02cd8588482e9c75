-- Document 02, P6: the store, fresh and sound.
use Rattle.std.specs.Prelude.{ℕ, zero, suc, ◌%◌, Bool, ◌&&◌, List, [], ◌∷◌, leb, ltb, get_or, replicate}
use Rattle.history.specs.declared.Store.{Store}
use Rattle.history.specs.Scan.{start, ends, scanned}

-- n words of the ring from place o on
unfoldable pub content : (words : List ℕ) (o n : ℕ) → List ℕ
content words o zero = []
content words o (suc n) = get_or words (o % 1024) 0 ∷ content words (suc o) n

-- the words in use, oldest first: what the others hold does not matter
abbrev pub kept : Store → List ℕ
kept s = content s.words s.oldest s.used

-- a fresh store has none in use
unfoldable pub fresh_store : Store
fresh_store = record { words = replicate 1024 0; oldest = 0; used = 0 }

-- at most 1,024 words in use, the place of the oldest 0..1023, and the words in use are groups
unfoldable pub sound_store : Store → Bool
sound_store s = leb s.used 1024 && (ltb s.oldest 1024 && ends (scanned start (kept s)))
