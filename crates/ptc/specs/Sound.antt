-- Document 01, "Sound": what a controller needs, among m crossings done, where own says whether it is the holder.
use Rattle.std.specs.Prelude.{ℕ, Bool, true, ◌&&◌, leb, eqb}
use Rattle.laws.specs.Base.{if}
use Rattle.states.specs.Names.{running}
use Rattle.states.specs.Sound.{sound_state}
use Rattle.counts.specs.Sound.{sound_counts}
use Rattle.ptc.specs.declared.Ptc.{Ptc}
use Rattle.ptc.specs.Cycle.{NONE, OPEN}

-- a calibration cycle only in states 7, 8, and an open one only at the holder
abbrev pub sound_cycle : (own : Bool) (s cycle : ℕ) → Bool
sound_cycle own s cycle = leb cycle 2 && (if (eqb cycle NONE) true (running s) && if (eqb cycle OPEN) own true)

unfoldable pub sound_ptc : (k : ℕ) (own : Bool) (m : ℕ) (p : Ptc) → Bool
sound_ptc k own m p =
    sound_state k p.state p.wait
    && (sound_cycle own p.state p.cycle
    && (sound_counts m p.counts
    && leb p.events m))
