-- The loop over the records of a block: after i of them the store is that of their changes, and the follower stands where the board does.
-- A crossing is the law of one (`Tracking`), a command changes neither.
use mathlib.Core.Path.{◌≡◌, refl, sym, ap, ◌∙◌}
use mathlib.Core.Bool.{true, false}
use mathlib.Core.List.{List, ◌++◌, append-nil}
use Prim.Native.Nat.{ℕ, ◌+◌, ◌-◌, ◌*◌, ◌≤◌, ◌<◌}
use native.Mathlib.Nat.{add-zero}
use native.Mathlib.Numerals.{add-one}
use native.Mathlib.Omega.{arith}
use borrow.Author.Tests.{ltb-true}
use lib.Dec.{leb, ltb}
use lib.ListN.{length, get_or, take, drop, take-append-drop}
use lib.Seq.{get_or-take, get_or-drop}
use Rattle.laws.proofs.Bools.{both}
use Rattle.settings.specs.declared.Settings.{Settings}
use Rattle.settings.specs.Names.{orbit_of}
use Rattle.status.specs.Codes.{code_at}
use Rattle.steady.specs.Held.{sound_held}
use Rattle.clock.specs.Clock.{sound_clock}
use Rattle.clock.specs.Support.Room.{ClockRoom}
use Rattle.kit.proofs.Settled.{orbit_some}
use Rattle.records.specs.Records.{rec_at, is_crossing, marker_in, codes_in, well}
use Rattle.records.specs.Refusal.{LIFETIME, records_in}
use Rattle.records.proofs.Laws.{rec_long, well_at_lem, gtfe_low}
use Rattle.history.specs.declared.Store.{Store}
use Rattle.history.specs.declared.keep.Pen.{Pen}
use Rattle.history.specs.Store.{sound_store}
use Rattle.history.specs.Keep.{kept_all}
use Rattle.history.specs.Support.Pen.{store_at, pen_of, Aligned}
use Rattle.history.proofs.Recall.{kept_append}
use Rattle.follower.specs.declared.Follower.{Follower}
use Rattle.follower.specs.Support.Follower.{change_seen, next_follower}
use Rattle.board.specs.declared.Board.{Board}
use Rattle.board.specs.Sound.{sound_board}
use Rattle.board.specs.Run.{row_of, ran, rows_of}
use Rattle.board.proofs.Settled.{sound_parts_lem}
use Rattle.board.proofs.Crossings.{clock_room}
use Rattle.board.proofs.Keeps.{Fit, ran_fit, ran_settings}
use Rattle.daybook.specs.Row.{row_at}
use Rattle.daybook.proofs.Ground.{row_is}
use Rattle.beside.specs.Changes.{change_in, changes_over}
use Rattle.beside.specs.Support.Through.{Through, Tracks}
use Rattle.beside.proofs.Tracking.{change_is, crossing_tracks, command_tracks}

-- what the loop holds before record i
pub record Stands (x : ℕ) (b : Board) (s : Store) (log words : List ℕ) (pen : Pen) (f : Follower) (i : ℕ) : Type 0 where
  pub most : i ≤ records_in log
  pub aligned : Aligned words pen
  pub store : store_at words pen ≡ kept_all s (changes_over x i b log)
  pub tracks : Tracks x (ran i b log) f

pub stands_first : (x : ℕ) (log : List ℕ) (pen : Pen) (f : Follower) (b : Board) (s : Store)
    → pen ≡ pen_of s → length s.words ≡ 1024 → sound_store s ≡ true → Tracks x b f → Stands x b s log s.words pen f 0
unfolding changes_over ran kept_all
stands_first x log pen f b s e long sound tracks =
    rw e (record { most = omega arith; aligned = record { long = long; sound = sound; scan = refl }; store = refl; tracks = tracks })

-- ---- what the loop reads

pub next_low : (b : Board) → sound_board b ≡ true → b.clock.next < 4096
unfolding sound_clock
next_low b sound =
    let p = sound_parts_lem b sound in
    let below = (both (ltb b.clock.next (orbit_of b.settings)) _ (both (leb b.clock.crossings LIFETIME) _ p.clock).1).0 in
    omega (arith, ltb-true b.clock.next (orbit_of b.settings) below, orbit_some b.settings p.checks)

pub record_lent : (log : List ℕ) (i : ℕ) → take (24 * i + 24 - 24 * i) (drop (24 * i) log) ≡ rec_at log i
record_lent log i = let e : 24 * i + 24 - 24 * i ≡ 24 = omega arith in rw e

-- ---- a record of a block that was run

module _ (b : Board) (log rows : List ℕ) (th : Through b log rows) (ptcs : length b.ptcs ≡ 8) (marks : length b.marks ≡ 32)
    (i : ℕ) (h : i < records_in log) where
  abbrev now : Board
  now = ran i b log

  abbrev rec : List ℕ
  rec = rec_at log i

  fits : Fit now
  fits =
      ran_fit (records_in log) b log (record { ptcs = ptcs; marks = marks; sound = th.sound }) th.ready.life th.ready.formed i (omega arith)

  formed : well rec ≡ true
  formed = well_at_lem (records_in log) log th.ready.formed i h

  settled : now.settings ≡ b.settings
  settled = ran_settings b log i

  pub long : length rec ≡ 24
  long = rec_long log i (records_in log) th.ready.whole h

  pub gtfe : is_crossing rec ≡ true → get_or (codes_in rec) 0 0 < 16
  gtfe = gtfe_low rec formed

  -- the row's first byte
  first_byte : get_or rows (12 * i) 0 ≡ get_or (row_of now rec) 0 0
  first_byte =
      let n = records_in log in
      let all : rows ≡ rows_of n b log ++ drop (12 * n) rows = sym (take-append-drop (12 * n) rows) ∙ ap (λ (l : List ℕ). l ++ drop (12 * n) rows) th.laid in
      let row : row_at rows i ≡ row_of now rec = ap (λ (l : List ℕ). row_at l i) all ∙ row_is b log ptcs n i (drop (12 * n) rows) h in
      let at : get_or (row_at rows i) 0 0 ≡ get_or rows (12 * i + 0) 0 = get_or-take 12 (drop (12 * i) rows) 0 0 (omega arith) ∙ get_or-drop (12 * i) rows 0 0 in
      sym (rw add-zero at at) ∙ ap (λ (l : List ℕ). get_or l 0 0) row

  module _ (x : ℕ) (s : Store) (words : List ℕ) (pen : Pen) (f : Follower) (st : Stands x b s log words pen f i) where
    pub asked : (Aligned words pen) × (ClockRoom f.clock) × (f.clock.next < 4096) × (f.believed < 16)
    asked =
        let t = st.tracks in
        (st.aligned, rw t.clock (clock_room now fits.sound), rw t.clock (next_low now fits.sound), t.low)

    pub command_stands : is_crossing rec ≡ false → Stands x b s log words pen f (i + 1)
    unfolding changes_over ran
    command_stands e =
        rw (add-one i)
        (record { most = omega arith; aligned = st.aligned; store = rw (e, append-nil) st.store; tracks = command_tracks x now rec f st.tracks e })

    module _ (cross : is_crossing rec ≡ true) (low : x ≤ 40) (code : ℕ) (is : code ≡ code_at (codes_in rec) x) (small : code < 16)
        (after : List ℕ) (on : Pen) (next : Follower)
        (moved : next ≡ next_follower (orbit_of b.settings) f (marker_in rec) code (get_or rows (12 * i) 0))
        (wrote : store_at after on ≡ kept_all (store_at words pen) (change_seen (orbit_of b.settings) f (marker_in rec) code)) (aligned : Aligned after on) where
      held : sound_held now.held ≡ true
      held = (sound_parts_lem now fits.sound).held

      change : change_seen (orbit_of b.settings) f (marker_in rec) code ≡ change_in x now rec
      change =
          ap (λ (z : Settings). change_seen (orbit_of z) f (marker_in rec) code) (sym settled)
          ∙ ap (λ (k : ℕ). change_seen (orbit_of now.settings) f (marker_in rec) k) is
          ∙ change_is x now rec f st.tracks (omega arith) held fits.ptcs formed cross (rw is at small)

      stepped_on : next ≡ next_follower (orbit_of now.settings) f (marker_in rec) (code_at (codes_in rec) x) (get_or (row_of now rec) 0 0)
      stepped_on =
          moved
          ∙ ap (λ (z : Settings). next_follower (orbit_of z) f (marker_in rec) code (get_or rows (12 * i) 0)) (sym settled)
          ∙ ap (λ (k : ℕ). next_follower (orbit_of now.settings) f (marker_in rec) k (get_or rows (12 * i) 0)) is
          ∙ ap (next_follower (orbit_of now.settings) f (marker_in rec) (code_at (codes_in rec) x)) first_byte

      pub crossing_stands : Stands x b s log after on next (i + 1)
      unfolding changes_over ran
      crossing_stands =
          let t = crossing_tracks x now rec f st.tracks (omega arith) held fits.ptcs formed cross (rw is at small) in
          rw (add-one i)
          (record {
            most = omega arith;
            aligned = aligned;
            store = rw (cross, ← change, kept_append s (changes_over x i b log), ← st.store) wrote;
            tracks = rw stepped_on t;
          })
