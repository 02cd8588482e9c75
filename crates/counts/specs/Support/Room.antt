-- What keeps the counting from wrapping: every count is far below 2^64. A sound board's counts are at most 2^40 - 1.
use Rattle.std.specs.Prelude.{◌<◌, ◌^◌}
use Rattle.counts.specs.declared.Counts.{Counts}
use Rattle.counts.specs.declared.ByRule.{ByRule}
use Rattle.counts.specs.declared.Lost.{Lost}
use Rattle.counts.specs.declared.Calibrations.{Calibrations}

pub record RulesRoom (r : ByRule) : Type 0 where
  pub first : r.first < 2 ^ 41
  pub second : r.second < 2 ^ 41
  pub third : r.third < 2 ^ 41
  pub fourth : r.fourth < 2 ^ 41

pub record LostRoom (l : Lost) : Type 0 where
  pub state : l.state < 2 ^ 41
  pub slot : l.slot < 2 ^ 41
  pub gap : l.gap < 2 ^ 41
  pub cal : l.cal < 2 ^ 41
  pub throttle : l.throttle < 2 ^ 41
  pub ruled : RulesRoom l.rules

pub record CalRoom (c : Calibrations) : Type 0 where
  pub requested : c.requested < 2 ^ 41
  pub accepted : c.accepted < 2 ^ 41
  pub lost : c.lost < 2 ^ 41

pub record CountsRoom (c : Counts) : Type 0 where
  pub requested : c.requested < 2 ^ 41
  pub accepted : c.accepted < 2 ^ 41
  pub losses : LostRoom c.lost
  pub calibrations : CalRoom c.cal
