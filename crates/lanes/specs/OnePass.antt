-- What ties the code's merge to document 01's: one pass over the codes, by the lanes of `support/Lanes.antt`, gives each of the eight
-- controllers the merge of its own members.
use Rattle.std.specs.Prelude.{◌≡◌, List, ℕ}
use Rattle.settings.specs.declared.Settings.{Settings}
use Rattle.status.specs.Codes.{Coded}
use Rattle.status.specs.Merge.{classes}
use Rattle.status.specs.Support.Merger.{merger_of}
use Rattle.lanes.specs.Support.Lanes.{table_of, lane_classes}

abbrev pub OnePass : Type 0
OnePass = (s : Settings) (codes : List ℕ) → Coded codes → lane_classes (table_of (merger_of s)) codes ≡ classes s codes
