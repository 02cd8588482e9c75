-- A board's run, rows and report are those by its settings' view; and a run by a view carries any settings along.
-- By induction over the records: settings stay through each, and no step looks at them but by the view.
use mathlib.Core.Path.{◌≡◌, refl, ap, ap₂, ◌∙◌}
use mathlib.Core.Bool.{Bool, true, false}
use mathlib.Core.List.{List, [], ◌∷◌, ◌++◌}
use Prim.Native.Nat.{ℕ, zero, suc, ◌+◌, ◌≤◌}
use native.Mathlib.Nat.{zero-add}
use native.Mathlib.Omega.{arith}
use lib.ListN.{length, get_or}
use Rattle.laws.specs.Base.{if}
use Rattle.laws.proofs.Over.{get_d_tabulate}
use Rattle.settings.specs.declared.Settings.{Settings}
use Rattle.settings.specs.Names.{slot_of}
use Rattle.ptc.specs.declared.Ptc.{Ptc}
use Rattle.records.specs.Records.{rec_at, is_crossing}
use Rattle.kit.specs.Kit.{slots_of}
use Rattle.kit.specs.View.{View, view_of}
use Rattle.board.specs.declared.Board.{Board}
use Rattle.board.specs.Crossing.{turn_by, scene_by, crossed_by, crossing_row_by}
use Rattle.board.specs.Command.{command_by, commanded_by, command_row_by}
use Rattle.board.specs.Run.{stepped_by, row_by, stepped, row_of, ran, rows_of}
use Rattle.board.proofs.Keeps.{ran_settings}
use Rattle.report.specs.Report.{controller_text, blocks_from, report_text}
use Rattle.views.specs.Run.{ran_by, rows_by, blocks_by, report_by}

abbrev pub with_settings : Settings → Board → Board
with_settings s b = record { settings = s; clock = b.clock; turn = b.turn; ptcs = b.ptcs; held = b.held; marks = b.marks }

-- ---- whole logs by the view of the board's settings

module _ (b : Board) (log : List ℕ) where
  settled : (n : ℕ) → view_of (ran n b log).settings ≡ view_of b.settings
  settled n = ap view_of (ran_settings b log n)

  pub ran_by_lem : (n : ℕ) → ran n b log ≡ ran_by (view_of b.settings) n b log
  unfolding ran ran_by stepped
  ran_by_lem zero = refl
  ran_by_lem (suc n) = ap₂ (λ (v : View) (c : Board). stepped_by v c (rec_at log n)) (settled n) (ran_by_lem n)

  pub rows_by_lem : (n : ℕ) → rows_of n b log ≡ rows_by (view_of b.settings) n b log
  unfolding rows_of rows_by row_of
  rows_by_lem zero = refl
  rows_by_lem (suc n) =
      ap₂ (λ (x y : List ℕ). x ++ y) (rows_by_lem n) (ap₂ (λ (v : View) (c : Board). row_by v c (rec_at log n)) (settled n) (ran_by_lem n))

-- ---- settings are carried

module _ (s : Settings) (v : View) where
  carried_if : (t : Bool) (x y : Board) → if t (with_settings s x) (with_settings s y) ≡ with_settings s (if t x y)
  carried_if true x y = refl
  carried_if false x y = refl

  step_carries : (b : Board) (rec : List ℕ) → stepped_by v (with_settings s b) rec ≡ with_settings s (stepped_by v b rec)
  unfolding crossed_by commanded_by command_by turn_by scene_by
  step_carries b rec = carried_if (is_crossing rec) (crossed_by v b rec) (commanded_by v b rec)

  row_carries : (b : Board) (rec : List ℕ) → row_by v (with_settings s b) rec ≡ row_by v b rec
  unfolding crossing_row_by command_row_by command_by turn_by scene_by
  row_carries b rec = refl

  pub ran_carries : (n : ℕ) (b : Board) (log : List ℕ) → ran_by v n (with_settings s b) log ≡ with_settings s (ran_by v n b log)
  unfolding ran_by
  ran_carries zero b log = refl
  ran_carries (suc n) b log = ap (λ (c : Board). stepped_by v c (rec_at log n)) (ran_carries n b log) ∙ step_carries (ran_by v n b log) (rec_at log n)

  pub rows_carry : (n : ℕ) (b : Board) (log : List ℕ) → rows_by v n (with_settings s b) log ≡ rows_by v n b log
  unfolding rows_by
  rows_carry zero b log = refl
  rows_carry (suc n) b log =
      ap₂ (λ (x y : List ℕ). x ++ y) (rows_carry n b log)
      (ap (λ (c : Board). row_by v c (rec_at log n)) (ran_carries n b log) ∙ row_carries (ran_by v n b log) (rec_at log n))

-- ---- the report

blocks_by_lem : (s : Settings) (k : ℕ) (ps : List Ptc) → k + length ps ≤ 8 → blocks_from s k ps ≡ blocks_by (slots_of s) k ps
unfolding blocks_by blocks_from controller_text
blocks_by_lem s k [] h = refl
blocks_by_lem s k (p ∷ ps) h =
    let slot : get_or (slots_of s) k 0 ≡ slot_of s k = get_d_tabulate (slot_of s) 0 8 k 0 (omega arith) ∙ rw zero-add in
    rw (slot, blocks_by_lem s (suc k) ps (omega arith))

pub report_by_lem : (b : Board) → length b.ptcs ≡ 8 → report_text b ≡ report_by (view_of b.settings) b
unfolding report_by report_text
report_by_lem b long = rw (blocks_by_lem b.settings 0 b.ptcs (omega arith))
