-- Document 01, "One crossing, in order": the whole board through one crossing record, and the row that it gives. What it goes by is a
-- view (`kit/specs/View.antt`); where none is named it is that of the board's own settings.
use Rattle.std.specs.Prelude.{ℕ, Bool, true, false, List, get_or}
use Rattle.laws.specs.Base.{one, map_i}
use Rattle.throttle.specs.Marks.{passed}
use Rattle.steady.specs.declared.Held.{Held}
use Rattle.steady.specs.Held.{next_held}
use Rattle.clock.specs.declared.Clock.{Clock}
use Rattle.clock.specs.declared.Turn.{Turn}
use Rattle.clock.specs.Clock.{number_of, orbit_ends}
use Rattle.clock.specs.Turn.{turned_of}
use Rattle.ptc.specs.declared.Ptc.{Ptc}
use Rattle.ptc.specs.declared.Plan.{Plan}
use Rattle.ptc.specs.declared.Scene.{Scene}
use Rattle.records.specs.Records.{marker_in, codes_in}
use Rattle.records.specs.Rows.{crossing_row, carries}
use Rattle.eight.specs.Eight.{ptc_of, byte_of, shown_of, clock_of}
use Rattle.board.specs.declared.Board.{Board}
use Rattle.kit.specs.View.{View, view_of}

abbrev pub with_ptcs : Board → List Ptc → Board
with_ptcs b ps = record { settings = b.settings; clock = b.clock; turn = b.turn; ptcs = ps; held = b.held; marks = b.marks }

-- step 1: who holds the slot in this crossing
unfoldable pub turn_by : View → Board → Bool → Turn
turn_by v b marker = turned_of v.slots (orbit_ends b.clock marker) b.turn

abbrev pub turn_in : Board → Bool → Turn
turn_in b = turn_by (view_of b.settings) b

-- the first rule that would refuse a trigger now, 0 where none does
abbrev pub refused_now : View → Board → Bool → ℕ
refused_now v b = v.refused b.marks b.clock.crossings

-- what all eight see of this crossing. Only the holder can send, and the rules look at earlier crossings alone
abbrev pub scene_at_by : (v : View) (b : Board) (number holder : ℕ) → Scene
scene_at_by v b number holder = record { number = number; holder = holder; norm = refused_now v b false; low = refused_now v b true }

abbrev pub scene_at : (b : Board) (number holder : ℕ) → Scene
scene_at b = scene_at_by (view_of b.settings) b

unfoldable pub scene_by : View → Board → Bool → Scene
scene_by v b marker = scene_at_by v b (number_of b.clock marker) (turn_by v b marker).holder

abbrev pub scene_of : Board → Bool → Scene
scene_of b = scene_by (view_of b.settings) b

-- step 2 (document 02, P1): the held codes with those of this crossing, and the classes of the believed ones
abbrev pub held_in : Board → List ℕ → Held
held_in b rec = next_held b.held (codes_in rec)

abbrev pub classes_for : View → Board → List ℕ → List ℕ
classes_for v b rec = v.classes (held_in b rec).believed

abbrev pub classes_in : Board → List ℕ → List ℕ
classes_in b = classes_for (view_of b.settings) b

-- f of each of the eight in this crossing, each by its own plan
abbrev pub eight_by : {A : Type 0} → (Plan → Scene → List ℕ → ℕ → ℕ → Ptc → A) → View → Board → List ℕ → List A
eight_by f v b rec =
    map_i (λ k. f (v.plan k) (scene_by v b (marker_in rec)) (classes_for v b rec) (get_or rec 2 0) k) 0 b.ptcs

abbrev pub eight : {A : Type 0} → (Plan → Scene → List ℕ → ℕ → ℕ → Ptc → A) → Board → List ℕ → List A
eight f b = eight_by f (view_of b.settings) b

-- the board with the next clock and turn, with these held codes, and with this crossing's mark
abbrev pub passed_on : Board → Clock → Turn → Held → Bool → Board
passed_on b clock turn held carried = record {
  settings = b.settings;
  clock = clock;
  turn = turn;
  ptcs = b.ptcs;
  held = held;
  marks = passed b.marks b.clock.crossings (one carried);
}

-- all controllers' triggers count, of both kinds
unfoldable pub crossed_by : View → Board → List ℕ → Board
crossed_by v b rec =
    let bytes = eight_by byte_of v b rec in
    passed_on (with_ptcs b (eight_by ptc_of v b rec)) (clock_of v.orbit b.clock (marker_in rec) bytes) (turn_by v b (marker_in rec))
    (held_in b rec) (carries bytes)

abbrev pub board_crossed : Board → List ℕ → Board
board_crossed b = crossed_by (view_of b.settings) b

unfoldable pub crossing_row_by : View → Board → List ℕ → List ℕ
crossing_row_by v b rec = crossing_row (eight_by byte_of v b rec) (eight_by shown_of v b rec)

abbrev pub row_crossed : Board → List ℕ → List ℕ
row_crossed b = crossing_row_by (view_of b.settings) b
