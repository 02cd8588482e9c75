-- Document 01, "Cycle and trigger": the calibration cycle through one crossing, by the state after the move.
use Rattle.std.specs.Prelude.{ℕ, Bool, not, ◌&&◌, eqb}
use Rattle.laws.specs.Base.{if}
use Rattle.settings.specs.declared.names.Schedule.{Schedule}
use Rattle.states.specs.Names.{running}

abbrev pub NONE : ℕ
NONE = 0

abbrev pub ARMED : ℕ
ARMED = 1

abbrev pub OPEN : ℕ
OPEN = 2

-- leaving states 7, 8 drops it; losing the slot drops an open one
unfoldable pub kept_of : (s : ℕ) (own : Bool) (cycle : ℕ) → ℕ
kept_of s own cycle = if (running s) (if (eqb cycle OPEN && not own) NONE cycle) NONE

-- an armed cycle at the holder opens at at_wte, and is open in that crossing
unfoldable pub opened_of : (at : Schedule) (number : ℕ) (own : Bool) (cycle : ℕ) → ℕ
opened_of at number own cycle = if (eqb cycle ARMED && (own && eqb number at.wte)) OPEN cycle

-- it sends 13 as it opens, and 2 at at_te while it is open
unfoldable pub cycle_code : (at : Schedule) (number before now : ℕ) → ℕ
cycle_code at number before now =
    if (eqb before ARMED && eqb now OPEN) 13 (if (eqb now OPEN && eqb number at.te) 2 0)

-- it asks one trigger at at_cal, and ends with that crossing, sent or not
unfoldable pub asks_of : (at : Schedule) (number cycle : ℕ) → Bool
asks_of at number cycle = eqb cycle OPEN && eqb number at.cal
