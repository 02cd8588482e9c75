-- Document 01, "One crossing, in order", step 1: a controller of a fresh board.
use Rattle.counts.specs.Counts.{no_counts}
use Rattle.ptc.specs.declared.Ptc.{Ptc}
use Rattle.ptc.specs.Cycle.{NONE}

-- state 0, wait and counts 0, no cycle
abbrev pub fresh_ptc : Ptc
fresh_ptc = record { state = 0; wait = 0; cycle = NONE; counts = no_counts; events = 0 }
