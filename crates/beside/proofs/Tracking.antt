-- A follower that stands where a board does brings the board's own change, and stands where the next board does.
-- The believed code is the law of one input (`believed_code`); the row's first byte tells what the clock goes by.
use mathlib.Core.Path.{◌≡◌, refl, sym, ◌∙◌}
use mathlib.Core.Bool.{true, false}
use mathlib.Core.List.{List}
use Prim.Native.Nat.{ℕ, ◌<◌}
use native.Mathlib.Omega.{arith}
use lib.Dec.{eqb}
use lib.ListN.{length, get_or}
use Rattle.laws.proofs.Bools.{if_has}
use Rattle.laws.proofs.Over.{length-map_i}
use Rattle.settings.specs.Names.{orbit_of}
use Rattle.status.specs.Codes.{code_at}
use Rattle.steady.specs.Steady.{steady}
use Rattle.steady.specs.Held.{next_held, sound_held}
use Rattle.steady.proofs.Laws.{believed_long, believed_code, carried_low, believed_low}
use Rattle.records.specs.Records.{is_crossing, marker_in, codes_in, well}
use Rattle.records.proofs.Laws.{gtfe_low}
use Rattle.eight.specs.Eight.{byte_of, shown_of, clock_of}
use Rattle.follower.specs.declared.Follower.{Follower}
use Rattle.follower.specs.Support.Follower.{change_seen, next_follower}
use Rattle.board.specs.declared.Board.{Board}
use Rattle.board.specs.Crossing.{eight, held_in, crossed_by, crossing_row_by}
use Rattle.board.specs.Command.{commanded_by}
use Rattle.board.specs.Run.{stepped, row_of}
use Rattle.daybook.proofs.Decoding.{row_byte_lem}
use Rattle.beside.specs.Changes.{change_in}
use Rattle.beside.specs.Support.Through.{Tracks}

module _ (x : ℕ) (b : Board) (rec : List ℕ) (f : Follower) (t : Tracks x b f) where
  abbrev code : ℕ
  code = code_at (codes_in rec) x

  abbrev next : Follower
  next = next_follower (orbit_of b.settings) f (marker_in rec) code (get_or (row_of b rec) 0 0)

  module _ (low : x < 41) (sound : sound_held b.held ≡ true) (ptcs : length b.ptcs ≡ 8) (w : well rec ≡ true) (cross : is_crossing rec ≡ true) (small : code < 16) where
    code_next : code_at (held_in b rec).believed x ≡ steady f.carried f.believed code
    unfolding next_held
    code_next =
        believed_code b.held.carried b.held.believed (codes_in rec) t.long (carried_low b.held sound) (believed_low b.held sound) (gtfe_low rec w cross) x low
        ∙ rw (t.carried, t.believed)

    pub change_is : change_seen (orbit_of b.settings) f (marker_in rec) code ≡ change_in x b rec
    unfolding change_in change_seen
    change_is = rw (code_next, t.clock, t.carried, t.believed)

    row_first : get_or (row_of b rec) 0 0 ≡ get_or (eight byte_of b rec) 0 0
    unfolding row_of crossing_row_by
    row_first = rw cross (row_byte_lem (eight byte_of b rec) (eight shown_of b rec) (length-map_i _ 0 b.ptcs ∙ ptcs) 0 (omega arith))

    steady_small : steady f.carried f.believed code < 16
    unfolding steady
    steady_small = if_has (λ (n : ℕ). n < 16) (eqb f.carried code) code f.believed (λ e. small) (λ e. t.low)

    pub crossing_tracks : Tracks x (stepped b rec) next
    unfolding stepped crossed_by clock_of next_follower next_held
    crossing_tracks =
        rw cross
        (record {
          long = believed_long b.held.carried b.held.believed (codes_in rec) ∙ t.long;
          clock = rw (row_first, t.clock);
          carried = refl;
          believed = sym code_next;
          low = steady_small;
        })

  pub command_tracks : is_crossing rec ≡ false → Tracks x (stepped b rec) f
  unfolding stepped commanded_by
  command_tracks e = rw e (record { long = t.long; clock = t.clock; carried = t.carried; believed = t.believed; low = t.low })
