-- What each writer of this crate does: it lays a text into a buffer from a place on, and answers the place after it.
use Rattle.std.specs.Prelude.{ℕ, ◌+◌, ◌≡◌, List, length}
use Rattle.text.specs.Bytes.{put}

abbrev pub Laid : (old : List ℕ) (at : ℕ) (text : List ℕ) (after : ℕ) (new : List ℕ) → Type 0
Laid old at text after new = (after ≡ at + length text) × (new ≡ put old at text)
