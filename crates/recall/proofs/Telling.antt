-- The changes over a run from a fresh board are those that settings, records and rows tell.
-- The number and the believed code are told already (`along`, `told_at`); the orbit count is told by induction on the records.
use mathlib.Core.Path.{◌≡◌, refl, sym, ap, ap₂, ◌∙◌}
use mathlib.Core.Logic.{⊎_elim}
use mathlib.Core.Bool.{true, false}
use mathlib.Core.List.{List, ◌++◌}
use Prim.Native.Nat.{ℕ, zero, suc, ◌+◌, ◌%◌, ◌≤◌, ◌<◌}
use native.Mathlib.Omega.{arith}
use lib.Dec.{eqb}
use lib.ListN.{length}
use Rattle.laws.proofs.Tests.{either}
use Rattle.laws.proofs.Over.{length-map_i}
use Rattle.settings.specs.declared.Settings.{Settings}
use Rattle.settings.specs.Names.{orbit_of}
use Rattle.status.specs.Codes.{code_at}
use Rattle.steady.specs.declared.Held.{Held}
use Rattle.clock.specs.Clock.{ticked_of}
use Rattle.records.specs.Records.{rec_at, is_crossing, marker_in}
use Rattle.records.specs.Rows.{clears_orbit}
use Rattle.records.specs.Refusal.{records_in}
use Rattle.eight.specs.Eight.{byte_of, shown_of, clock_of}
use Rattle.history.specs.declared.keep.Change.{Change}
use Rattle.follower.specs.Change.{change_for}
use Rattle.board.specs.declared.Board.{Board}
use Rattle.board.specs.Crossing.{eight, held_in, crossed_by, crossing_row_by}
use Rattle.board.specs.Command.{commanded_by}
use Rattle.board.specs.Run.{stepped, row_of, ran}
use Rattle.board.specs.Fresh.{fresh_board}
use Rattle.daybook.specs.Row.{row_at}
use Rattle.daybook.specs.Whole.{Taken, whole}
use Rattle.daybook.specs.Beam.{number_in}
use Rattle.daybook.proofs.Decoding.{row_byte_lem}
use Rattle.daybook.proofs.Ground.{fit_at, row_at_lem}
use Rattle.daybook.proofs.Beams.{along}
use Rattle.bounce.specs.Input.{believed_before}
use Rattle.bounce.proofs.Holds.{told_at}
use Rattle.beside.specs.Changes.{change_in, changes_over}
use Rattle.recall.specs.Told.{grown, orbits_before, changes_told}

-- a crossing's row begins with the byte that the clock goes by
clears_seen : (b : Board) (rec : List ℕ) → length b.ptcs ≡ 8 → is_crossing rec ≡ true → clears_orbit (row_of b rec) ≡ clears_orbit (eight byte_of b rec)
unfolding row_of crossing_row_by
clears_seen b rec long e =
    rw e (ap (λ (n : ℕ). eqb (n % 16) 8) (row_byte_lem (eight byte_of b rec) (eight shown_of b rec) (length-map_i _ 0 b.ptcs ∙ long) 0 (omega arith)))

-- the held codes after a crossing are the next board's
believed_next : (b : Board) (rec : List ℕ) → is_crossing rec ≡ true → (stepped b rec).held ≡ held_in b rec
unfolding stepped crossed_by
believed_next b rec e = rw e

module _ {s : Settings} {log buffer : List ℕ} (t : Taken s log buffer) where
  abbrev rows : List ℕ
  rows = (whole s log buffer).rows

  abbrev now : ℕ → Board
  now i = ran i (fresh_board s) log

  -- what step 1 leaves
  counted : (i : ℕ) → (now i).clock.orbits ≡ orbits_before s log rows i
      → (ticked_of (orbit_of (now i).settings) (now i).clock (marker_in (rec_at log i))).orbits ≡ orbits_before s log rows i + grown s log i
  unfolding ticked_of
  counted i e = let a = along s log i in rw (e, a.next, a.crossings)

  module _ (i : ℕ) (h : i < records_in log) (e : (now i).clock.orbits ≡ orbits_before s log rows i) where
    row_seen : is_crossing (rec_at log i) ≡ true → clears_orbit (row_at rows i) ≡ clears_orbit (eight byte_of (now i) (rec_at log i))
    row_seen cross = ap clears_orbit (row_at_lem t i h) ∙ clears_seen (now i) (rec_at log i) (fit_at t i (omega arith)).ptcs cross

    after_crossing : is_crossing (rec_at log i) ≡ true → (stepped (now i) (rec_at log i)).clock.orbits ≡ orbits_before s log rows (suc i)
    unfolding stepped crossed_by clock_of orbits_before
    after_crossing cross = rw (cross, row_seen cross, counted i e)

    after_command : is_crossing (rec_at log i) ≡ false → (stepped (now i) (rec_at log i)).clock.orbits ≡ orbits_before s log rows (suc i)
    unfolding stepped commanded_by orbits_before
    after_command other = rw other e

  orbits_told : (i : ℕ) → i ≤ records_in log → (now i).clock.orbits ≡ orbits_before s log rows i
  unfolding ran fresh_board orbits_before
  orbits_told zero h = refl
  orbits_told (suc i) h =
      let e = orbits_told i (omega arith) in
      ⊎_elim (after_crossing i h e) (after_command i h e) (either (is_crossing (rec_at log i)))

  -- the change of a crossing
  module _ (x : ℕ) (low : x < 41) where
    code_told : (i : ℕ) → i < records_in log → is_crossing (rec_at log i) ≡ true → code_at (held_in (now i) (rec_at log i)).believed x ≡ believed_before log x (suc i)
    unfolding ran
    code_told i h cross =
        ap (λ (held : Held). code_at held.believed x) (sym (believed_next (now i) (rec_at log i) cross)) ∙ (told_at t (suc i) h).believed x low

    change_told : (i : ℕ) → i < records_in log → is_crossing (rec_at log i) ≡ true
        → change_in x (now i) (rec_at log i)
        ≡ change_for (orbits_before s log rows i + grown s log i) (number_in s log i) (believed_before log x i) (believed_before log x (suc i))
    unfolding change_in number_in
    change_told i h cross =
        rw (code_told i h cross, counted i (orbits_told i (omega arith)), (along s log i).next, (told_at t i (omega arith)).believed x low)

    pub changes_told_lem : (i : ℕ) → i ≤ records_in log → changes_over x i (fresh_board s) log ≡ changes_told s log rows x i
    unfolding changes_over changes_told
    changes_told_lem zero h = refl
    changes_told_lem (suc i) h =
        ap₂ (◌++◌ {A = Change}) (changes_told_lem i (omega arith))
        (⊎_elim
        (λ (e : is_crossing (rec_at log i) ≡ true). rw e (change_told i h e))
        (λ (e : is_crossing (rec_at log i) ≡ false). rw e)
        (either (is_crossing (rec_at log i))))
