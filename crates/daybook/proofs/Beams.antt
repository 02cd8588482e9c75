-- The beam that settings and markers tell is the board's own: the same numbers, and the same holder in each crossing.
-- By induction on the records; the orbit count, which a code may set to 0, is the one thing that they do not share.
use mathlib.Core.Path.{◌≡◌, refl, ap, ◌∙◌}
use mathlib.Core.Logic.{⊎_elim}
use mathlib.Core.Bool.{true, false}
use mathlib.Core.List.{List}
use Prim.Native.Nat.{ℕ, zero, suc}
use Rattle.laws.proofs.Tests.{either}
use Rattle.settings.specs.declared.Settings.{Settings}
use Rattle.clock.specs.declared.Turn.{Turn}
use Rattle.clock.specs.Clock.{ticked_of}
use Rattle.records.specs.Records.{rec_at, is_crossing, marker_in}
use Rattle.board.specs.declared.Board.{Board}
use Rattle.board.specs.Crossing.{turn_in, turn_by, scene_of, scene_by, board_crossed, crossed_by}
use Rattle.eight.specs.Eight.{clock_of}
use Rattle.board.specs.Command.{board_commanded, commanded_by}
use Rattle.board.specs.Run.{stepped, ran}
use Rattle.board.specs.Fresh.{fresh_board}
use Rattle.board.proofs.Keeps.{ran_settings}
use Rattle.daybook.specs.Beam.{Beam, handed_over, beam_past, beam_at, number_in, holder_in}

pub record Along (a : Beam) (b : Board) : Type 0 where
  pub crossings : a.clock.crossings ≡ b.clock.crossings
  pub next : a.clock.next ≡ b.clock.next
  pub errors : a.clock.errors ≡ b.clock.errors
  pub turn : a.turn ≡ b.turn

module _ (s : Settings) (a : Beam) (b : Board) (rec : List ℕ) (own : b.settings ≡ s) (g : Along a b) where
  -- the slot in this crossing
  handed_over_lem : turn_in b (marker_in rec) ≡ handed_over s a rec
  unfolding turn_by
  handed_over_lem = rw (own, g.next, g.crossings, g.turn)

  past_crossing_lem : is_crossing rec ≡ true → Along (beam_past s a rec) (board_crossed b rec)
  unfolding beam_past crossed_by clock_of ticked_of
  past_crossing_lem e =
      record {
        crossings = rw (e, g.crossings);
        next = rw (e, own, g.next);
        errors = rw (e, g.errors, g.next);
        turn = rw (e, handed_over_lem);
      }

  past_command_lem : is_crossing rec ≡ false → Along (beam_past s a rec) (board_commanded b rec)
  unfolding beam_past commanded_by
  past_command_lem e = record { crossings = rw (e, g.crossings); next = rw (e, g.next); errors = rw (e, g.errors); turn = rw (e, g.turn) }

  past : Along (beam_past s a rec) (stepped b rec)
  unfolding stepped
  past =
      ⊎_elim
      (λ (e : is_crossing rec ≡ true). rw e (past_crossing_lem e))
      (λ (e : is_crossing rec ≡ false). rw e (past_command_lem e))
      (either (is_crossing rec))

module _ (s : Settings) (log : List ℕ) where
  fresh_settings : (fresh_board s).settings ≡ s
  unfolding fresh_board
  fresh_settings = refl

  pub own_settings : (i : ℕ) → (ran i (fresh_board s) log).settings ≡ s
  own_settings i = ran_settings (fresh_board s) log i ∙ fresh_settings

  pub along : (i : ℕ) → Along (beam_at s log i) (ran i (fresh_board s) log)
  unfolding beam_at ran fresh_board
  along zero = record { crossings = refl; next = refl; errors = refl; turn = refl }
  along (suc i) = past s (beam_at s log i) (ran i (fresh_board s) log) (rec_at log i) (own_settings i) (along i)

  -- the crossing's number and holder, as all eight see them
  module _ (i : ℕ) where
    pub number_told : (scene_of (ran i (fresh_board s) log) (marker_in (rec_at log i))).number ≡ number_in s log i
    unfolding scene_by number_in
    number_told = rw (along i).next

    pub holder_told : (scene_of (ran i (fresh_board s) log) (marker_in (rec_at log i))).holder ≡ holder_in s log i
    unfolding scene_by holder_in
    holder_told =
        ap (λ (t : Turn). t.holder)
        (handed_over_lem s (beam_at s log i) (ran i (fresh_board s) log) (rec_at log i) (own_settings i) (along i))
