-- Document 01, "Report", and document 02, P5: the keys of the report's lines, in their order.
use Rattle.std.specs.Prelude.{ℕ, List, [], ◌∷◌}
use Rattle.text.specs.Bytes.{bytes}

-- the common lines
unfoldable pub common_keys : List (List ℕ)
unfolding bytes
common_keys = bytes "crossings" ∷ bytes "orbit" ∷ bytes "bc_errors" ∷ bytes "holder" ∷ []

-- the lines of each controller's block
unfoldable pub block_keys : List (List ℕ)
unfolding bytes
block_keys =
    bytes "ptc"
    ∷ bytes "state"
    ∷ bytes "requested"
    ∷ bytes "accepted"
    ∷ bytes "lost_state"
    ∷ bytes "lost_slot"
    ∷ bytes "lost_gap"
    ∷ bytes "lost_cal"
    ∷ bytes "lost_throttle"
    ∷ bytes "lost_r1"
    ∷ bytes "lost_r2"
    ∷ bytes "lost_r3"
    ∷ bytes "lost_r4"
    ∷ bytes "cal_requested"
    ∷ bytes "cal_accepted"
    ∷ bytes "cal_lost"
    ∷ bytes "events"
    ∷ []
