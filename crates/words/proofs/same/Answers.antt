-- Both slices are of 21 bytes, so both are arrays, and the library's comparison of these decides whether they are equal.
-- So does `same_bytes`, by its law.
use Rattle.std.proofs.Common.{◌≡◌, ◌≢◌, ◌∙◌, ℕ, List, Option, Some, None, length, bytes_eq, MatchOption, Bor}
use Rattle.std.specs.Array.{IsWholeChunk}
use Rattle.std.specs.Option.{option_eq}
use Rattle.std.proofs.lemmas.Bool.Decides.{same_from_decides}
use Rattle.std.proofs.lemmas.Slice.Eq.{bytes_eq-Decides}
use Rattle.words.specs.Same.{same_bytes}
use Rattle.words.proofs.Laws.{same_bytes-Decides}
use Rattle.words.proofs.same.Goals as goal

compared : (x y : Option (Bor (List ℕ))) (a b : List ℕ) → length a ≡ 21 → length b ≡ 21 → MatchOption x (length a ≢ 21) (λ z. IsWholeChunk a z.now 21) → MatchOption y (length b ≢ 21) (λ z. IsWholeChunk b z.now 21)
    → option_eq (λ p q. bytes_eq p.now q.now) x y ≡ same_bytes 21 a b
compared None y a b la lb p q = absurd (p la)
compared (Some x) None a b la lb p q = absurd (q lb)
compared (Some x) (Some y) a b la lb p q =
    rw (p.same, q.same) (same_from_decides _ _ (bytes_eq-Decides a b) (same_bytes-Decides a b 21 la lb))

pub returns-clause-same : goal.returns-clause-same
returns-clause-same c = c.eq.ensures ∙ compared _ _ _ _ c.requires.0 c.requires.1 c.as_array.ensures.cases c.as_array-2.ensures.cases
