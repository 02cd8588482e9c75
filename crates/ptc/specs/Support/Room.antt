-- What keeps the counting from wrapping: every count is far below 2^64. A sound board's counts are at most 2^40 - 1.
use Rattle.std.specs.Prelude.{◌<◌, ◌^◌}
use Rattle.counts.specs.Support.Room.{CountsRoom}
use Rattle.ptc.specs.declared.Ptc.{Ptc}

pub record Room (p : Ptc) : Type 0 where
  pub counts : CountsRoom p.counts
  pub events : p.events < 2 ^ 41
