-- Document 02, P1: the held codes, which are part of the board. A fresh board believes 0; sound asks each held code to be 0..15.
use Rattle.std.specs.Prelude.{◌≡◌, Bool, true, ◌&&◌, List, ℕ, ◌<◌, ltb, length, get_or, replicate}
use Rattle.status.specs.Codes.{code_at}
use Rattle.steady.specs.declared.Held.{Held}
use Rattle.steady.specs.Steady.{believed_of}

-- after a crossing with these codes
unfoldable pub next_held : Held → List ℕ → Held
next_held h codes = record { carried = codes; believed = believed_of h.carried h.believed codes }

unfoldable pub fresh_held : Held
fresh_held = record { carried = replicate 21 0; believed = replicate 21 0 }

-- of input 40, the GTFE code: the others share a byte with one more, where each is 0 to 15
unfoldable pub sound_held : Held → Bool
sound_held h = ltb (code_at h.carried 40) 16 && ltb (code_at h.believed 40) 16

-- the 21 bytes of all codes
pub record AreBytes (codes : List ℕ) : Type 0 where
  pub long : length codes ≡ 21
  pub bytes : (n : ℕ) → get_or codes n 0 < 256

-- so sound is, of bytes, that each of the 41 is held at 0..15 twice
pub record EachHeld (h : Held) : Type 0 where
  pub low : sound_held h ≡ true → (i : ℕ) → i < 41 → (code_at h.carried i < 16) × (code_at h.believed i < 16)
  pub sound : ((i : ℕ) → i < 41 → (code_at h.carried i < 16) × (code_at h.believed i < 16)) → sound_held h ≡ true

abbrev pub AllHeld : Type 0
AllHeld = (h : Held) → AreBytes h.carried → AreBytes h.believed → EachHeld h
