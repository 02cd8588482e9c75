-- A crossing put together from its calls: what each of them asks of a sound board, and what their answers make.
-- The kit holds what the settings say, so each answer is the definition's; bytes of a record are codes.
use mathlib.Core.Path.{◌≡◌, ◌∙◌}
use mathlib.Core.Bool.{Bool, true}
use mathlib.Core.List.{List}
use Prim.Native.Nat.{ℕ, ◌≤◌, ◌<◌}
use native.Mathlib.Omega.{arith}
use lib.ListN.{length, get_or, length-drop}
use lib.Seq.{get_or-drop}
use Rattle.settings.specs.Names.{orbit_of, rules_of}
use Rattle.status.specs.Codes.{Coded}
use Rattle.status.specs.Merge.{classes}
use Rattle.lanes.specs.Support.Lanes.{lane_classes}
use Rattle.lanes.proofs.Laws.{one_pass}
use Rattle.throttle.specs.Rules.{Sensible}
use Rattle.clock.specs.declared.Turn.{Turn}
use Rattle.clock.specs.Clock.{orbit_ends}
use Rattle.clock.specs.Turn.{turned_of}
use Rattle.clock.specs.Support.Room.{ClockRoom, SlotRoom}
use Rattle.clock.proofs.Keeps.{clock_roomy, holder_most}
use Rattle.records.specs.Records.{well, marker_in, codes_in}
use Rattle.records.specs.Refusal.{LIFETIME}
use Rattle.records.proofs.Laws.{code_low}
use Rattle.board.specs.declared.Board.{Board}
use Rattle.kit.specs.declared.Kit.{Kit}
use Rattle.kit.specs.Support.Laid.{kit_of}
use Rattle.board.specs.Crossing.{turn_in, turn_by}
use Rattle.board.specs.Sound.{sound_board}
use Rattle.board.proofs.Settled.{sound_parts_lem}
use Rattle.kit.proofs.Settled.{slot_room, sensible, orbit_some}

-- ---- what the calls ask

-- the codes of a well-formed record
pub coded : (rec : List ℕ) → length rec ≡ 24 → well rec ≡ true → ((n : ℕ) → get_or rec n 0 < 256) → Coded (codes_in rec)
coded rec long w bytes = record {
  long = rw length-drop (omega arith);
  gtfe = rw (get_or-drop 3 rec 0 0) (omega (arith, code_low rec long w));
  bytes = λ n. rw (get_or-drop 3 rec n 0) (bytes _);
}

-- a sound clock has room for one crossing more
pub clock_room : (b : Board) → sound_board b ≡ true → ClockRoom b.clock
clock_room b e =
    let p = sound_parts_lem b e in
    let orbit = orbit_some b.settings p.checks in
    clock_roomy LIFETIME (orbit_of b.settings) b.clock (omega arith) (omega arith) p.clock

module _ (b : Board) (kit : Kit) (own : kit ≡ kit_of b.settings) where
  pub turn_asked : sound_board b ≡ true → (SlotRoom kit.slots) × (b.turn.holder ≤ 8)
  unfolding kit_of
  turn_asked e = let p = sound_parts_lem b e in (rw own (slot_room b.settings p.checks), holder_most _ b.turn p.turn)

  pub scene_asked : sound_board b ≡ true → (kit.rules ≡ rules_of b.settings) × (Sensible kit.rules)
  unfolding kit_of
  scene_asked e = (rw own, rw own (sensible b.settings (sound_parts_lem b e).checks))

-- ---- what their answers make

module _ (b : Board) (kit : Kit) (own : kit ≡ kit_of b.settings) where
  pub turn_is : (rec : List ℕ) (ends : Bool) (turn : Turn) → ends ≡ orbit_ends b.clock (marker_in rec) → turn ≡ turned_of kit.slots ends b.turn
      → turn ≡ turn_in b (marker_in rec)
  unfolding kit_of turn_by
  turn_is rec ends turn e t = t ∙ rw (e, own)

  pub classes_is : (codes got : List ℕ) → Coded codes → got ≡ lane_classes kit.lanes codes → got ≡ classes b.settings codes
  unfolding kit_of
  classes_is codes got good e = e ∙ rw own (one_pass b.settings codes good)
