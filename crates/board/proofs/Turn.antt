-- One record of a block: what its calls ask, that board and row are what the definitions make of it, and that what is kept stays true.
-- A run adds at the end, so a turn is its clause; a crossing is put together by the laws of `still` and of `Crossings`.
use mathlib.Core.Path.{◌≡◌, refl, ap, sym, ◌∙◌}
use mathlib.Core.Bool.{Bool, true, false, ◌&&◌, false≢true}
use mathlib.Core.List.{List, ◌++◌}
use Prim.Native.Nat.{ℕ, ◌+◌, ◌*◌, ◌-◌, ◌%◌, ◌≤◌, ◌<◌}
use native.Mathlib.Nat.{zero-add}
use native.Mathlib.Numerals.{add-one}
use native.Mathlib.Omega.{arith}
use lib.Dec.{ltb}
use lib.ListN.{length, get_or, set, take, drop, replicate, length-append, length-drop}
use borrow.Rule.Slice.PartMut.{put_mid}
use Rattle.laws.specs.Base.{map_i, one, all_b}
use Rattle.laws.proofs.Bools.{both}
use Rattle.laws.proofs.Over.{length-map_i, get_or-map_i}
use Rattle.laws.proofs.Maps.{map_is}
use Rattle.status.specs.Codes.{Coded}
use Rattle.lanes.specs.Support.Lanes.{lane_classes}
use Rattle.words.specs.Same.{same_bytes}
use Rattle.words.proofs.Laws.{same_lists}
use Rattle.steady.specs.declared.Held.{Held}
use Rattle.steady.specs.Steady.{believed_of}
use Rattle.steady.specs.Held.{next_held}
use Rattle.steady.specs.Support.News.{news_of}
use Rattle.steady.proofs.Laws.{firm_now, believed_coded}
use Rattle.throttle.specs.Marks.{passed}
use Rattle.throttle.specs.Rules.{Sensible}
use Rattle.clock.specs.declared.Clock.{Clock}
use Rattle.clock.specs.Clock.{number_of}
use Rattle.clock.specs.Support.Room.{ClockRoom, SlotRoom}
use Rattle.states.specs.Names.{status_of}
use Rattle.states.specs.Moves.{orbit_code}
use Rattle.ptc.specs.declared.Ptc.{Ptc}
use Rattle.ptc.specs.declared.Plan.{Plan}
use Rattle.ptc.specs.Support.Times.{plan_from}
use Rattle.ptc.specs.declared.Scene.{Scene}
use Rattle.ptc.specs.declared.Crossed.{Crossed}
use Rattle.ptc.specs.Support.Room.{Room}
use Rattle.ptc.specs.Fresh.{fresh_ptc}
use Rattle.ptc.specs.Command.{commanded_of}
use Rattle.records.specs.Records.{rec_at, is_crossing, marker_in, asked_in, codes_in, well, first_ill, crossings_in}
use Rattle.records.specs.Refusal.{LIFETIME}
use Rattle.records.specs.Rows.{row_byte, carries, crossing_row, command_row}
use Rattle.records.proofs.Laws.{rec_long, rec_bytes, well_at_lem, command_kind}
use Rattle.records.proofs.Laid.{laid}
use Rattle.kit.specs.declared.Kit.{Kit}
use Rattle.kit.specs.Kit.{plan_of}
use Rattle.kit.proofs.Plans.{plan_from_lem}
use Rattle.kit.specs.Support.Laid.{busy_of, kit_of}
use Rattle.eight.specs.Eight.{act_of, ptc_of, byte_of, shown_of, clock_of}
use Rattle.eight.proofs.Eight.{room_at, shown_low}
use Rattle.still.specs.declared.Sight.{Sight}
use Rattle.still.specs.Support.Still.{due_of}
use Rattle.still.specs.Support.Sight.{first_sight, sight_of, scene_for}
use Rattle.still.proofs.Passing.{passed as passes, passed_over, plain_code, due_low}
use Rattle.still.proofs.Seen.{whole_scene, scene_seen}
use Rattle.still.proofs.Acting.{Quiet, Acted}
use Rattle.board.specs.declared.Board.{Board}
use Rattle.board.specs.Crossing.{with_ptcs, turn_in, scene_of, scene_by, classes_in, eight, crossed_by, crossing_row_by}
use Rattle.board.specs.Command.{command_by, commanded_by, command_row_by}
use Rattle.board.specs.Run.{stepped, row_of, ran, rows_of}
use Rattle.board.specs.declared.run.Watch.{Watch}
use Rattle.board.specs.Support.Loop.{Calm, Watches, Comes}
use Rattle.board.proofs.Settled.{sound_parts_lem}
use Rattle.board.proofs.Crossings.{coded, clock_room, turn_asked, scene_asked, turn_is, classes_is}
use Rattle.board.proofs.Keeps.{Fit, ran_settings, ran_room, ran_ptcs_long, ran_fit, row_of_long, rows_long}

-- ---- the loop's invariant

abbrev pub plans_in : Kit → ℕ → Plan
plans_in kit = plan_from kit.times kit.waits kit.gap

pub watches_first : (b : Board) (kit : Kit) (w : Watch) → Coded b.held.carried → Coded b.held.believed
    → w ≡ record { sight = first_sight b.turn kit.lanes b.held.carried b.held.believed; shown = replicate 8 0; calm = false } → Watches kit b w
watches_first b kit w c v e =
    record {
      turn = rw e;
      wide = rw e;
      carried = c;
      believed = v;
      votes = rw e;
      firm = λ h. sym (same_lists b.held.carried b.held.believed 21 c.long v.long (rw e at h));
      still = λ h. absurd (false≢true (rw e at h));
    }

-- before record i the board is the one after the records before it, and their rows are laid out
pub record Stands (first : Board) (log old : List ℕ) (kit : Kit) (b : Board) (rows : List ℕ) (w : Watch) (i : ℕ) : Type 0 where
  pub board : b ≡ ran i first log
  pub laid_out : rows ≡ rows_of i first log ++ drop (12 * i) old
  pub long : length rows ≡ length old
  pub watched : Watches kit b w

pub begins : (first : Board) (log old : List ℕ) (kit : Kit) (w : Watch) → Watches kit first w → Stands first log old kit first old w 0
unfolding ran rows_of
begins first log old kit w q = record { board = refl; laid_out = refl; long = refl; watched = q }

-- the block that is run, which is not refused
pub record Begun (first : Board) (log old : List ℕ) (kit : Kit) (busy : List ℕ) (n : ℕ) : Type 0 where
  pub fit : Fit first
  pub long : length log ≡ 24 * n
  pub room : 12 * n ≤ length old
  pub formed : first_ill n log ≡ n
  pub life : first.clock.crossings + crossings_in n log ≤ LIFETIME
  pub bytes : (k : ℕ) → get_or log k 0 < 256
  pub made : kit ≡ kit_of first.settings
  pub marked : busy ≡ busy_of first.settings

module _ {first : Board} {log old : List ℕ} {kit : Kit} {busy : List ℕ} {n : ℕ} (t : Begun first log old kit busy n) {b : Board} {rows : List ℕ} {w : Watch} {i : ℕ}
    (less : i < n) (here : Stands first log old kit b rows w i) where
  settings_at : first.settings ≡ b.settings
  settings_at = sym (ap (λ (x : Board). x.settings) here.board ∙ ran_settings first log i)

  pub comes : Comes kit busy b w (rec_at log i)
  comes =
      let fit : Fit b = rw here.board (ran_fit n first log t.fit t.life t.formed i (omega arith)) in
      let long = rec_long log i n t.long less in
      record {
        sound = fit.sound;
        eight = fit.ptcs;
        made = t.made ∙ ap kit_of settings_at;
        marked = t.marked ∙ ap busy_of settings_at;
        watched = here.watched;
        long = long;
        formed = well_at_lem n log t.formed i less;
        bytes = λ k. rec_bytes log i k long t.bytes;
        life = λ k. omega (arith, ap (λ (x : Board). x.clock.crossings) here.board, ran_room first log n i t.life less k);
      }

  pub stands : (next : Board) (watch : Watch) (row part : List ℕ) → next ≡ stepped b (rec_at log i) → row ≡ row_of b (rec_at log i)
      → Watches kit next watch → part ≡ row ++ drop 12 (take (length rows - 12 * i) (drop (12 * i) rows))
      → Stands first log old kit next (put_mid (12 * i) (length rows - 12 * i) rows part) watch (i + 1)
  unfolding ran rows_of
  stands next watch row part s r q p =
      let eight = t.fit.ptcs in
      let wide = row_of_long (ran i first log) (rec_at log i) (ran_ptcs_long first log i ∙ eight) in
      let room : 12 * i + 12 ≤ length old = omega (arith, less, t.room) in
      let step : 12 * (i + 1) ≡ 12 * i + 12 = omega arith in
      let out : put_mid (12 * i) (length rows - 12 * i) rows part ≡ rows_of (i + 1) first log ++ drop (12 * (i + 1)) old =
      rw (step, add-one)
      (laid (rows_of i first log) (row_of (ran i first log) (rec_at log i)) old (12 * i) 12 (rows_long i first log eight) wide room rows part here.laid_out
      (p ∙ rw (r, here.board))) in
      record {
        board = s ∙ rw (add-one, here.board);
        laid_out = out;
        long = rw (out, length-append, rows_long (i + 1) first log eight, length-drop) (omega (arith, less, t.room));
        watched = q;
      }

-- ---- a command

module _ (b : Board) (kit : Kit) (rec : List ℕ) (made : kit ≡ kit_of b.settings) (formed : well rec ≡ true) (kind : is_crossing rec ≡ false) where
  pub named : get_or rec 1 0 ≤ 7
  named = (command_kind rec formed kind).1

  pub obeyed : (p : Ptc) (taken : Bool) (row : List ℕ) → p ≡ (commanded_of kit.waits (get_or rec 2 0) (get_or b.ptcs (get_or rec 1 0) fresh_ptc)).ptc
      → taken ≡ (commanded_of kit.waits (get_or rec 2 0) (get_or b.ptcs (get_or rec 1 0) fresh_ptc)).taken → row ≡ command_row taken
      → (with_ptcs b (set b.ptcs (get_or rec 1 0) p) ≡ stepped b rec) × (row ≡ row_of b rec)
  unfolding stepped row_of commanded_by command_row_by command_by kit_of
  obeyed p taken row e t r = (rw (kind, e, made), rw (kind, r, t, made))

-- after a command nothing is known of the rest
pub watches_obeyed : (kit : Kit) (b next : Board) (w : Watch) (rec : List ℕ) → is_crossing rec ≡ false → next ≡ stepped b rec → Watches kit b w
    → Watches kit next (record { sight = w.sight; shown = w.shown; calm = false })
unfolding stepped commanded_by
watches_obeyed kit b next w rec kind e q =
    rw (e, kind)
    (record {
      turn = q.turn;
      wide = q.wide;
      carried = q.carried;
      believed = q.believed;
      votes = q.votes;
      firm = q.firm;
      still = λ z. absurd (false≢true z);
    })

-- ---- a crossing

module _ {kit : Kit} {busy : List ℕ} {b : Board} {w : Watch} {rec : List ℕ} (t : Comes kit busy b w rec) (kind : is_crossing rec ≡ true) where
  plan_at : (k : ℕ) → plans_in kit k ≡ plan_of b.settings k
  unfolding kit_of
  plan_at k = rw t.made (plan_from_lem b.settings k)

  coded_at : Coded (codes_in rec)
  coded_at = coded rec t.long t.formed t.bytes

  pub crossing_room : b.clock.crossings < LIFETIME
  crossing_room = t.life kind

  pub room_asked : (k : ℕ) → k < 8 → Room (get_or b.ptcs k fresh_ptc)
  room_asked k h = room_at b.turn.holder b.clock.crossings b.ptcs k crossing_room (sound_parts_lem b t.sound).eight (rw t.eight h)

  pub clock_asked : ClockRoom b.clock
  clock_asked = clock_room b t.sound

  pub next_asked : (length rec ≡ 24)
      × (Coded (codes_in rec))
      × (Coded b.held.carried)
      × (Coded b.held.believed)
      × (w.sight.classes ≡ lane_classes kit.lanes b.held.believed)
      × (w.sight.firm ≡ true → b.held.believed ≡ b.held.carried)
      × (SlotRoom kit.slots)
      × (w.sight.turn.holder ≤ 8)
  next_asked =
      let s = turn_asked b kit t.made t.sound in
      let q = t.watched in
      (t.long, coded_at, q.carried, q.believed, q.votes, q.firm, s.0, rw q.turn s.1)

  pub rules_asked : Sensible kit.rules
  rules_asked = (scene_asked b kit t.made t.sound).1

  module _ (seen : Sight) (looks : seen ≡ sight_of busy kit.lanes kit.slots b.clock w.sight.turn w.calm b.held.carried b.held.believed rec)
      (scene : Scene) (sees : scene ≡ scene_for kit.times kit.waits kit.rules (get_or b.ptcs (seen.turn.holder % 8) fresh_ptc) seen b.marks b.clock) where
    -- the believed codes with those of this crossing
    abbrev next : List ℕ
    next = believed_of b.held.carried b.held.believed (codes_in rec)

    next_coded : Coded next
    next_coded = believed_coded b.held.carried b.held.believed (codes_in rec) t.watched.carried t.watched.believed coded_at

    votes_at : seen.classes ≡ lane_classes kit.lanes next
    unfolding sight_of
    votes_at = ap (λ (l : Sight). l.classes) looks

    firm_at : seen.firm ≡ true → next ≡ codes_in rec
    unfolding sight_of news_of
    firm_at e =
        firm_now b.held.carried b.held.believed (codes_in rec) t.watched.carried.long t.watched.believed.long coded_at.long
        (sym (ap (λ (l : Sight). l.firm) looks) ∙ e)

    requests_at : seen.requests ≡ get_or rec 2 0
    unfolding sight_of
    requests_at = ap (λ (l : Sight). l.requests) looks

    marker_at : seen.marker ≡ marker_in rec
    unfolding sight_of
    marker_at = ap (λ (l : Sight). l.marker) looks

    turn_at : seen.turn ≡ turn_in b (marker_in rec)
    unfolding sight_of
    turn_at = turn_is b kit t.made rec _ _ refl (ap (λ (l : Sight). l.turn) looks ∙ rw t.watched.turn)

    classes_at : seen.classes ≡ classes_in b rec
    unfolding next_held
    classes_at = classes_is b kit t.made next _ next_coded votes_at

    due_at : seen.due ≡ due_of (w.calm && same_bytes 21 b.held.believed next) busy (number_of b.clock seen.marker) seen.requests
    unfolding sight_of
    due_at = ap (λ (l : Sight). l.due) looks ∙ rw (marker_at, requests_at)

    pub due_fits : seen.due < 256
    due_fits = rw (due_at) (due_low _ _ _ seen.requests (rw requests_at (t.bytes 2)))

    number_at : scene.number ≡ number_of b.clock seen.marker
    unfolding scene_for
    number_at = ap (λ (s : Scene). s.number) sees

    -- whoever is not due: all were at rest, and the believed codes stay
    pub quiet_at : (j : ℕ) → j < 8 → asked_in seen.due j ≡ false → Quiet (plans_in kit) scene seen.classes seen.requests seen.due b.ptcs w.shown j
    quiet_at j h e =
        let p = passes _ _ _ _ j h (rw due_at at e) in
        let q = both w.calm (same_bytes 21 b.held.believed next) p.rests in
        let c = t.watched.still q.0 in
        let stays = same_lists b.held.believed next 21 t.watched.believed.long next_coded.long q.1 in
        let same : w.sight.classes ≡ seen.classes = t.watched.votes ∙ ap (lane_classes kit.lanes) stays ∙ sym votes_at in
        let rests = rw same at (c.rests j h) in
        let plain : orbit_code (plan_of b.settings j).at scene.number ≡ 0 = rw number_at (plain_code b.settings _ j (rw t.marked at p.plain) h) in
        let code = ap (λ (x : Plan). orbit_code x.at scene.number) (plan_at j) ∙ plain in
        record { rests = rests; shows = c.shows j h; stays = passed_over (plans_in kit j) scene _ _ j _ rests code p.silent }

    scene_at_lem : whole_scene kit.times kit.waits kit.gap kit.rules seen b.marks b.clock b.ptcs ≡ scene_of b (marker_in rec)
    unfolding scene_by kit_of
    scene_at_lem = rw (marker_at, turn_at, t.made)

    acts_at : (k : ℕ) → k < 8
        → act_of (plans_in kit k) scene seen.classes seen.requests k (get_or b.ptcs k fresh_ptc)
        ≡ act_of (plan_of b.settings k) (scene_of b (marker_in rec)) (classes_in b rec) (get_or rec 2 0) k (get_or b.ptcs k fresh_ptc)
    acts_at k h =
        ap (λ (s : Scene). act_of (plans_in kit k) s seen.classes seen.requests k (get_or b.ptcs k fresh_ptc)) sees
        ∙ scene_seen kit.times kit.waits kit.gap kit.rules seen b.marks b.clock b.ptcs k h
        ∙ rw (scene_at_lem, plan_at k, classes_at, requests_at)

    -- what the loop made of the eight is what the definition makes of them
    eight_at : {A : Type 0} (g : Crossed → A) (d : A)
        → map_i (λ k p. g (act_of (plans_in kit k) scene seen.classes seen.requests k p)) 0 b.ptcs
        ≡ map_i (λ k p. g (act_of (plan_of b.settings k) (scene_of b (marker_in rec)) (classes_in b rec) (get_or rec 2 0) k p)) 0 b.ptcs
    eight_at g d =
        map_is _ b.ptcs fresh_ptc d _ (length-map_i _ 0 b.ptcs)
        (λ k h. ap g (acts_at k (rw (← t.eight) h)) ∙ sym (get_or-map_i _ 0 k b.ptcs fresh_ptc d h ∙ rw zero-add))

    module _ (cur : List Ptc) (bytes shown : List ℕ) (calm : Bool) (a : Acted (plans_in kit) scene seen.classes seen.requests seen.due b.ptcs w.shown cur bytes shown calm) where
      ptcs_at : cur ≡ eight ptc_of b rec
      ptcs_at = a.ptcs ∙ eight_at (λ o. o.ptc) fresh_ptc

      bytes_at : bytes ≡ eight byte_of b rec
      unfolding byte_of
      bytes_at = a.sends ∙ eight_at (λ o. row_byte o.code o.sent o.cal) 0

      shown_at : shown ≡ eight shown_of b rec
      unfolding shown_of
      shown_at = a.shows ∙ eight_at (λ o. status_of o.ptc.state) 0

      pub shown_fits : all_b (λ s. ltb s 16) shown ≡ true
      unfolding shown_of
      shown_fits = rw shown_at (shown_low (λ k p. (act_of _ _ _ _ k p).ptc.state) 0 _)

      calm_at : calm ≡ true → Calm seen.classes shown cur
      unfolding shown_of
      calm_at z =
          let at : (j : ℕ) → j < 8 → get_or cur j fresh_ptc ≡ ptc_of (plans_in kit j) scene seen.classes seen.requests j (get_or b.ptcs j fresh_ptc) =
          λ j h. rw a.ptcs (get_or-map_i _ 0 j b.ptcs fresh_ptc fresh_ptc (rw t.eight h) ∙ rw zero-add) in
          record {
            rests = λ j h. rw (at j h) (a.rests z j h);
            shows = λ j h. rw (at j h, a.shows) (sym (get_or-map_i _ 0 j b.ptcs fresh_ptc 0 (rw t.eight h) ∙ rw zero-add));
          }

      module _ (held : Held) (carried : Bool) (mark : ℕ) (clock : Clock) (marks row : List ℕ) (hb : held ≡ next_held b.held (codes_in rec)) where
        pub crossed_is : carried ≡ carries bytes → mark ≡ one carried → marks ≡ passed b.marks b.clock.crossings mark → clock ≡ clock_of kit.orbit b.clock seen.marker bytes
            → record { settings = b.settings; clock = clock; turn = seen.turn; ptcs = cur; held = held; marks = marks } ≡ stepped b rec
        unfolding stepped crossed_by kit_of
        crossed_is c m k x = rw (kind, k, m, c, x, bytes_at, ptcs_at, turn_at, marker_at, t.made, hb)

        pub row_is : row ≡ crossing_row bytes shown → row ≡ row_of b rec
        unfolding row_of crossing_row_by
        row_is r = rw (kind, r, bytes_at, shown_at)

        pub watches_crossed : Watches kit (record { settings = b.settings; clock = clock; turn = seen.turn; ptcs = cur; held = held; marks = marks })
            (record { sight = seen; shown = shown; calm = calm })
        unfolding next_held
        watches_crossed =
            record {
              turn = refl;
              wide = rw (a.shows, length-map_i) t.eight;
              carried = rw hb coded_at;
              believed = rw hb next_coded;
              votes = rw hb votes_at;
              firm = λ e. rw hb (firm_at e);
              still = calm_at;
            }

-- ---- a turn of the loop, by either kind of record

module _ {first : Board} {log old : List ℕ} {kit : Kit} {busy : List ℕ} {n : ℕ} (t : Begun first log old kit busy n) {b : Board} {rows : List ℕ} {w : Watch} {i : ℕ}
    (less : i < n) (here : Stands first log old kit b rows w i) where
  abbrev rec : List ℕ
  rec = rec_at log i

  abbrev laid_rows : List ℕ → List ℕ
  laid_rows part = put_mid (12 * i) (length rows - 12 * i) rows part

  pub command_stands : (p : Ptc) (taken : Bool) (row part : List ℕ) → is_crossing rec ≡ false
      → p ≡ (commanded_of kit.waits (get_or rec 2 0) (get_or b.ptcs (get_or rec 1 0) fresh_ptc)).ptc
      → taken ≡ (commanded_of kit.waits (get_or rec 2 0) (get_or b.ptcs (get_or rec 1 0) fresh_ptc)).taken
      → row ≡ command_row taken → part ≡ row ++ drop 12 (take (length rows - 12 * i) (drop (12 * i) rows))
      → Stands first log old kit (with_ptcs b (set b.ptcs (get_or rec 1 0) p)) (laid_rows part) (record { sight = w.sight; shown = w.shown; calm = false }) (i + 1)
  command_stands p taken row part kind e k r q =
      let c = comes t less here in
      let o = obeyed b kit rec c.made c.formed kind p taken row e k r in
      stands t less here _ _ row part o.0 o.1 (watches_obeyed kit b _ w rec kind o.0 here.watched) q

  module _ (kind : is_crossing rec ≡ true) (seen : Sight)
      (looks : seen ≡ sight_of busy kit.lanes kit.slots b.clock w.sight.turn w.calm b.held.carried b.held.believed rec)
      (scene : Scene) (sees : scene ≡ scene_for kit.times kit.waits kit.rules (get_or b.ptcs (seen.turn.holder % 8) fresh_ptc) seen b.marks b.clock)
      (cur : List Ptc) (bytes shown : List ℕ) (calm : Bool)
      (a : Acted (plans_in kit) scene seen.classes seen.requests seen.due b.ptcs w.shown cur bytes shown calm) where
    pub crossing_stands : (held : Held) (carried : Bool) (mark : ℕ) (clock : Clock) (marks row part : List ℕ) → held ≡ next_held b.held (codes_in rec)
        → carried ≡ carries bytes → mark ≡ one carried → marks ≡ passed b.marks b.clock.crossings mark → clock ≡ clock_of kit.orbit b.clock seen.marker bytes
        → row ≡ crossing_row bytes shown → part ≡ row ++ drop 12 (take (length rows - 12 * i) (drop (12 * i) rows))
        → Stands first log old kit (record { settings = b.settings; clock = clock; turn = seen.turn; ptcs = cur; held = held; marks = marks }) (laid_rows part)
        (record { sight = seen; shown = shown; calm = calm }) (i + 1)
    crossing_stands held carried mark clock marks row part h c m k x r q =
        let o = comes t less here in
        stands t less here _ _ row part
        (crossed_is o kind seen looks scene sees cur bytes shown calm a held carried mark clock marks row h c m k x)
        (row_is o kind seen looks scene sees cur bytes shown calm a held carried mark clock marks row h r)
        (watches_crossed o kind seen looks scene sees cur bytes shown calm a held carried mark clock marks row h) q
