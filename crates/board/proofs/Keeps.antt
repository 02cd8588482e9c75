-- Records keep a board sound, its settings and the lengths of its lists, and each crossing counts once; a fresh board is sound.
-- Each of the six facts is kept by the law of its own crate; a run is then by induction on its records.
use mathlib.Core.Path.{◌≡◌, refl, ◌∙◌}
use mathlib.Core.Logic.{⊎_elim}
use mathlib.Core.Bool.{Bool, true, false}
use mathlib.Core.List.{List}
use Prim.Native.Nat.{ℕ, zero, suc, ◌+◌, ◌*◌, ◌≤◌, ◌<◌}
use native.Mathlib.Nat.{zero-add}
use native.Mathlib.Omega.{arith}
use borrow.Author.Tests.{le-leb, lt-ltb}
use lib.Dec.{eqb, leb, ltb}
use lib.ListN.{length, get_or, length-set, length-append}
use Rattle.laws.specs.Base.{if, one}
use Rattle.laws.proofs.Bools.{both, if_has, one_le}
use Rattle.laws.proofs.Tests.{either}
use Rattle.laws.proofs.All.{alli-map_i, alli_set}
use Rattle.laws.proofs.Over.{length-map_i}
use Rattle.answer.specs.Told.{DONE}
use Rattle.settings.specs.declared.Settings.{Settings}
use Rattle.settings.specs.Names.{orbit_of, waits_of}
use Rattle.settings.specs.Check.{checked}
use Rattle.steady.proofs.Laws.{fresh_held_sound, next_sound}
use Rattle.throttle.proofs.Ring.{passed_long}
use Rattle.throttle.proofs.Sound.{passed_sound, fresh_marks_sound}
use Rattle.clock.specs.declared.Clock.{Clock}
use Rattle.clock.specs.Clock.{orbit_ends, ticked_of, fresh_clock, sound_clock}
use Rattle.clock.proofs.Keeps.{ticked_sound, turned_sound, fresh_turn_sound}
use Rattle.ptc.proofs.Keeps.{crossed_sound, commanded_sound}
use Rattle.records.specs.Records.{rec_at, is_crossing, marker_in, asked_in, codes_in, well, first_ill, crossings_in}
use Rattle.records.specs.Rows.{carries, clears_orbit}
use Rattle.records.specs.Refusal.{LIFETIME}
use Rattle.records.proofs.Laws.{crossings_below, well_at_lem, gtfe_low, row_long, command_row_long}
use Rattle.board.specs.declared.Board.{Board}
use Rattle.kit.specs.Kit.{slots_of, plan_of}
use Rattle.board.specs.Crossing.{turn_in, turn_by, scene_of, scene_by, classes_in, eight, board_crossed, crossed_by, crossing_row_by}
use Rattle.eight.specs.Eight.{act_of, ptc_of, byte_of, shown_of, clock_of, sound_at}
use Rattle.ptc.specs.Fresh.{fresh_ptc}
use Rattle.board.specs.Command.{command_in, command_by, board_commanded, commanded_by, command_row_by}
use Rattle.board.specs.Run.{stepped, row_of, ran, rows_of}
use Rattle.eight.specs.Eight.{sound_eight}
use Rattle.board.specs.Sound.{sound_board}
use Rattle.board.specs.Fresh.{fresh_board}
use Rattle.board.proofs.Settled.{Parts, sound_parts_lem, parts_sound}
use Rattle.eight.proofs.Sound.{ptc_at, fresh_eight_sound}
use Rattle.kit.proofs.Settled.{waits_sound, slots_long, orbit_some}

-- ---- what stays, whatever the record is

module _ (b : Board) (rec : List ℕ) where
  pub crossed_settings : (board_crossed b rec).settings ≡ b.settings
  unfolding crossed_by
  crossed_settings = refl

  pub commanded_settings : (board_commanded b rec).settings ≡ b.settings
  unfolding commanded_by
  commanded_settings = refl

  pub stepped_settings : (stepped b rec).settings ≡ b.settings
  unfolding stepped
  stepped_settings = if_has (λ (x : Board). x.settings ≡ b.settings) (is_crossing rec) _ _ (λ e. crossed_settings) (λ e. commanded_settings)

  pub crossed_count : (board_crossed b rec).clock.crossings ≡ b.clock.crossings + 1
  unfolding crossed_by clock_of ticked_of
  crossed_count = refl

  pub commanded_count : (board_commanded b rec).clock.crossings ≡ b.clock.crossings
  unfolding commanded_by
  commanded_count = refl

  pub stepped_count : (stepped b rec).clock.crossings ≡ b.clock.crossings + one (is_crossing rec)
  unfolding stepped
  stepped_count =
      ⊎_elim
      (λ (e : is_crossing rec ≡ true). rw e crossed_count)
      (λ (e : is_crossing rec ≡ false). rw (e, commanded_count) (omega arith))
      (either (is_crossing rec))

  pub stepped_ptcs_long : length (stepped b rec).ptcs ≡ length b.ptcs
  unfolding stepped crossed_by commanded_by
  stepped_ptcs_long =
      if_has (λ (x : Board). length x.ptcs ≡ length b.ptcs) (is_crossing rec) _ _
      (λ e. length-map_i _ 0 b.ptcs)
      (λ e. length-set b.ptcs _ _)

  pub stepped_marks_long : length (stepped b rec).marks ≡ length b.marks
  unfolding stepped crossed_by commanded_by
  stepped_marks_long =
      if_has (λ (x : Board). length x.marks ≡ length b.marks) (is_crossing rec) _ _
      (λ e. passed_long b.marks _ _)
      (λ e. refl)

-- ---- a crossing and a command keep a board sound

-- an orbit count of 0 is within the crossings done
cleared_sound : (most orbit : ℕ) (t : Clock) (clears : Bool) → sound_clock most orbit t ≡ true
    → sound_clock most orbit (record { crossings = t.crossings; next = t.next; orbits = if clears 0 t.orbits; errors = t.errors }) ≡ true
unfolding sound_clock
cleared_sound most orbit t false e = e
cleared_sound most orbit t true e =
    let x = both (leb t.crossings most) _ e in
    let y = both (ltb t.next orbit) _ x.1 in
    let z = both (leb t.orbits t.crossings) (leb t.errors t.crossings) y.1 in
    rw (x.0, y.0, z.1, le-leb 0 t.crossings (omega arith))

-- the test of the controller at a place
-- the eight among one crossing more, with the holder of this crossing
eight_crossed : (b : Board) (rec : List ℕ) → Parts b
    → sound_eight (turn_in b (marker_in rec)).holder (b.clock.crossings + 1) (eight ptc_of b rec) ≡ true
unfolding sound_eight scene_by act_of
eight_crossed b rec p =
    let s = b.settings in
    let scene = scene_of b (marker_in rec) in
    let own = b.turn.holder in
    let m = b.clock.crossings in
    let asked = asked_in (get_or rec 2 0) in
    let w = waits_sound s p.checks in
    alli-map_i (sound_at own m) (sound_at scene.holder (m + 1)) (λ k. ptc_of (plan_of s k) scene (classes_in b rec) (get_or rec 2 0) k)
    (λ k q h. crossed_sound (plan_of s k) scene k (get_or (classes_in b rec) k 0) (asked k) (eqb k own) m q w h)
    0 b.ptcs p.eight

pub crossing_sound : (b : Board) (rec : List ℕ) → length b.marks ≡ 32 → b.clock.crossings < LIFETIME → get_or (codes_in rec) 0 0 < 16 → sound_board b ≡ true
    → sound_board (board_crossed b rec) ≡ true
unfolding crossed_by clock_of turn_by ticked_of
crossing_sound b rec long room gtfe e =
    let p = sound_parts_lem b e in
    let orbit = orbit_of b.settings in
    let marker = marker_in rec in
    let bytes = eight byte_of b rec in
    let ticked = ticked_sound LIFETIME orbit b.clock marker (orbit_some b.settings p.checks).0 room p.clock in
    parts_sound (board_crossed b rec)
    (record {
      checks = p.checks;
      clock = cleared_sound LIFETIME orbit (ticked_of orbit b.clock marker) (clears_orbit bytes) ticked;
      turn = turned_sound (slots_of b.settings) (orbit_ends b.clock marker) b.turn (slots_long b.settings) p.turn;
      eight = eight_crossed b rec p;
      held = next_sound b.held p.held (codes_in rec) gtfe;
      marks = passed_sound b.marks b.clock.crossings (one (carries bytes)) long (omega (arith, one_le (carries bytes))) p.marks;
    })

-- a fresh controller is sound at every place and among any crossings, so it may stand for one past the end
eight_commanded : (b : Board) (rec : List ℕ) → Parts b → sound_eight b.turn.holder b.clock.crossings (board_commanded b rec).ptcs ≡ true
unfolding sound_eight commanded_by command_by
eight_commanded b rec p =
    let k = get_or rec 1 0 in
    let own = b.turn.holder in
    let m = b.clock.crossings in
    let w = waits_sound b.settings p.checks in
    let old = ptc_at own m b.ptcs k p.eight in
    let new = commanded_sound (waits_of b.settings) k (get_or rec 2 0) (eqb k own) m (get_or b.ptcs k fresh_ptc) w old in
    alli_set (sound_at own m) 0 b.ptcs k (command_in b rec).ptc p.eight (rw zero-add new)

pub command_sound : (b : Board) (rec : List ℕ) → sound_board b ≡ true → sound_board (board_commanded b rec) ≡ true
unfolding commanded_by
command_sound b rec e =
    let p = sound_parts_lem b e in
    parts_sound (board_commanded b rec)
    (record { checks = p.checks; clock = p.clock; turn = p.turn; eight = eight_commanded b rec p; held = p.held; marks = p.marks })

-- ---- boards that code can have: sound, and with lists of their lengths

pub record Fit (b : Board) : Type 0 where
  pub ptcs : length b.ptcs ≡ 8
  pub marks : length b.marks ≡ 32
  pub sound : sound_board b ≡ true

fresh_clock_sound : (orbit : ℕ) → 0 < orbit → sound_clock LIFETIME orbit fresh_clock ≡ true
unfolding sound_clock
fresh_clock_sound orbit h = rw (lt-ltb 0 orbit h)

module _ (s : Settings) (ok : checked s ≡ DONE) where
  pub fresh_sound : sound_board (fresh_board s) ≡ true
  unfolding fresh_board
  fresh_sound =
      parts_sound (fresh_board s)
      (record {
        checks = ok;
        clock = fresh_clock_sound (orbit_of s) (orbit_some s ok).0;
        turn = fresh_turn_sound (slots_of s) (slots_long s);
        eight = fresh_eight_sound (fresh_board s).turn.holder;
        held = fresh_held_sound;
        marks = fresh_marks_sound;
      })

  pub fresh_fit : Fit (fresh_board s)
  unfolding fresh_board
  fresh_fit = record { ptcs = refl; marks = refl; sound = fresh_sound }

pub stepped_fit : (b : Board) (rec : List ℕ) → Fit b → (is_crossing rec ≡ true → b.clock.crossings < LIFETIME) → well rec ≡ true → Fit (stepped b rec)
unfolding stepped
stepped_fit b rec f room w =
    record {
      ptcs = stepped_ptcs_long b rec ∙ f.ptcs;
      marks = stepped_marks_long b rec ∙ f.marks;
      sound = if_has (λ (x : Board). sound_board x ≡ true) (is_crossing rec) _ _
          (λ e. crossing_sound b rec f.marks (room e) (gtfe_low rec w e) f.sound)
          (λ e. command_sound b rec f.sound);
    }

-- ---- runs

module _ (b : Board) (log : List ℕ) where
  pub ran_settings : (i : ℕ) → (ran i b log).settings ≡ b.settings
  unfolding ran
  ran_settings zero = refl
  ran_settings (suc i) = stepped_settings (ran i b log) (rec_at log i) ∙ ran_settings i

  pub ran_count : (i : ℕ) → (ran i b log).clock.crossings ≡ b.clock.crossings + crossings_in i log
  unfolding ran crossings_in
  ran_count zero = omega arith
  ran_count (suc i) = omega (arith, stepped_count (ran i b log) (rec_at log i), ran_count i)

  pub ran_ptcs_long : (i : ℕ) → length (ran i b log).ptcs ≡ length b.ptcs
  unfolding ran
  ran_ptcs_long zero = refl
  ran_ptcs_long (suc i) = stepped_ptcs_long (ran i b log) (rec_at log i) ∙ ran_ptcs_long i

  -- a run within a board's life has room for each of its crossings
  pub ran_room : (n i : ℕ) → b.clock.crossings + crossings_in n log ≤ LIFETIME → i < n → is_crossing (rec_at log i) ≡ true → (ran i b log).clock.crossings < LIFETIME
  ran_room n i life h e = omega (arith, ran_count i, crossings_below i n log h e)

pub ran_fit : (n : ℕ) (b : Board) (log : List ℕ) → Fit b → b.clock.crossings + crossings_in n log ≤ LIFETIME → first_ill n log ≡ n → (i : ℕ) → i ≤ n → Fit (ran i b log)
unfolding ran
ran_fit n b log f life formed zero h = f
ran_fit n b log f life formed (suc i) h =
    stepped_fit (ran i b log) (rec_at log i) (ran_fit n b log f life formed i (omega arith)) (ran_room b log n i life h) (well_at_lem n log formed i h)

-- ---- rows

pub row_of_long : (b : Board) (rec : List ℕ) → length b.ptcs ≡ 8 → length (row_of b rec) ≡ 12
unfolding row_of crossing_row_by command_row_by
row_of_long b rec long =
    if_has (λ (r : List ℕ). length r ≡ 12) (is_crossing rec) _ _
    (λ e. row_long (eight byte_of b rec) (eight shown_of b rec) (length-map_i _ 0 b.ptcs ∙ long) (length-map_i _ 0 b.ptcs ∙ long))
    (λ e. command_row_long (command_in b rec).taken)

pub rows_long : (n : ℕ) (b : Board) (log : List ℕ) → length b.ptcs ≡ 8 → length (rows_of n b log) ≡ 12 * n
unfolding rows_of
rows_long zero b log long = refl
rows_long (suc n) b log long =
    let row = row_of_long (ran n b log) (rec_at log n) (ran_ptcs_long b log n ∙ long) in
    rw length-append (omega (arith, row, rows_long n b log long))
