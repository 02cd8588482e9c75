-- The blocks of a log in one call: what the run of the records that were found in order asks, and what it then gives back.
-- The tests have looked at every record of it; its board and rows do not depend on what follows them.
use mathlib.Core.Path.{◌≡◌, ap}
use mathlib.Core.Bool.{true}
use mathlib.Core.List.{List, ◌++◌}
use Prim.Native.Nat.{ℕ, ◌+◌, ◌*◌, ◌≤◌}
use native.Mathlib.Omega.{arith}
use lib.ListN.{length, take, drop}
use lib.Seq.{length-take-le}
use Rattle.records.specs.declared.blocks.Tested.{Tested}
use Rattle.records.specs.Records.{first_ill, crossings_in}
use Rattle.records.specs.Refusal.{LIFETIME, records_in}
use Rattle.records.specs.Support.Blocks.{block_count, TestedOut, tested_out, tested_of}
use Rattle.records.proofs.Laws.{crossings_start}
use Rattle.records.proofs.Testing.{Clear, clear_formed, tested_clear}
use Rattle.board.specs.declared.Board.{Board}
use Rattle.board.specs.Run.{ran, rows_of}
use Rattle.board.specs.Sound.{sound_board}
use Rattle.board.specs.Block.{ran_out}
use Rattle.board.specs.Support.Blocks.{blocks_of}
use Rattle.board.proofs.Cut.{start_board, start_rows}
use Rattle.board.proofs.Settled.{sound_life}

module _ (b : Board) (log rows : List ℕ) (sound : sound_board b ≡ true) (t : Tested)
    (is : tested_out t ≡ tested_of (block_count log) b.clock.crossings log (length rows)) where
  pub tested_within : Clear b.clock.crossings log (length rows) t.records
  tested_within =
      rw (ap (λ (o : TestedOut). o.records) is) (tested_clear b.clock.crossings log (length rows) (sound_life b sound) (block_count log) (omega arith))

  -- the records that were found in order
  abbrev part : List ℕ
  part = take (24 * t.records) log

  pub part_long : length part ≡ 24 * t.records
  part_long = length-take-le (24 * t.records) log tested_within.within

  count : records_in part ≡ t.records
  count = rw part_long (omega arith)

  pub run_asked : (sound_board b ≡ true)
      × (length part ≡ 24 * records_in part)
      × (12 * records_in part ≤ length rows)
      × (first_ill (records_in part) part ≡ records_in part)
      × (b.clock.crossings + crossings_in (records_in part) part ≤ LIFETIME)
  run_asked =
      let c = tested_within in
      let n = t.records in
      rw count (sound, part_long, c.space, clear_formed _ log _ n c, rw (crossings_start log (24 * n) n (omega arith)) c.life)

  pub ran_is : (next : Board) (out : List ℕ) → next ≡ ran (records_in part) b part → out ≡ rows_of (records_in part) b part ++ drop (12 * records_in part) rows
      → ran_out t.answer next out ≡ blocks_of b log rows
  unfolding blocks_of
  ran_is next out n o =
      let m = t.records in
      rw (sound, ← is, n, o, count, start_board b log (24 * m) m (omega arith), start_rows b log (24 * m) m (omega arith))
