-- Document 02, P1: a code counts when the same input carried it in two consecutive crossings; until then the last believed one stands.
use Rattle.std.specs.Prelude.{ℕ, ◌+◌, ◌*◌, ◌/◌, ◌%◌, List, eqb, get_or}
use Rattle.laws.specs.Base.{if, map_i}

-- what one input is believed to carry: by the code of the crossing before, the last believed one, and the code that it carries now
unfoldable pub steady : (carried believed now : ℕ) → ℕ
steady carried believed now = if (eqb carried now) now believed

-- two inputs share a byte, each by itself
unfoldable pub steady_byte : (carried believed now : ℕ) → ℕ
steady_byte c b n = steady (c % 16) (b % 16) (n % 16) + 16 * steady (c / 16) (b / 16) (n / 16)

-- all 41, as the 21 code bytes of a record. `believed_code` (proofs/Laws.antt): each input by itself
unfoldable pub believed_of : (carried believed codes : List ℕ) → List ℕ
believed_of carried believed codes = map_i (λ k b. steady_byte (get_or carried k 0) b (get_or codes k 0)) 0 believed
