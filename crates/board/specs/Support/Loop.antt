-- What the loop over the records of a block keeps beside the board, and what it knows of a record that comes.
use Rattle.std.specs.Prelude.{◌≡◌, ℕ, ◌<◌, true, List, length, get_or}
use Rattle.status.specs.Codes.{Coded}
use Rattle.lanes.specs.Support.Lanes.{lane_classes}
use Rattle.states.specs.Names.{status_of}
use Rattle.ptc.specs.declared.Ptc.{Ptc}
use Rattle.ptc.specs.Support.Rest.{at_rest}
use Rattle.ptc.specs.Fresh.{fresh_ptc}
use Rattle.records.specs.Records.{is_crossing, well}
use Rattle.records.specs.Refusal.{LIFETIME}
use Rattle.kit.specs.declared.Kit.{Kit}
use Rattle.kit.specs.Support.Laid.{busy_of, kit_of}
use Rattle.board.specs.declared.Board.{Board}
use Rattle.board.specs.declared.run.Watch.{Watch}
use Rattle.board.specs.Sound.{sound_board}

-- all eight are at rest under these classes, and show what is kept of them
pub record Calm (classes shown : List ℕ) (ps : List Ptc) : Type 0 where
  pub rests : (j : ℕ) → j < 8 → at_rest (get_or classes j 0) (get_or ps j fresh_ptc) ≡ true
  pub shows : (j : ℕ) → j < 8 → status_of (get_or ps j fresh_ptc).state ≡ get_or shown j 0

-- what is kept is true of the board
pub record Watches (kit : Kit) (b : Board) (w : Watch) : Type 0 where
  pub turn : w.sight.turn ≡ b.turn
  pub wide : length w.shown ≡ 8
  pub carried : Coded b.held.carried
  pub believed : Coded b.held.believed
  pub votes : w.sight.classes ≡ lane_classes kit.lanes b.held.believed
  pub firm : w.sight.firm ≡ true → b.held.believed ≡ b.held.carried
  pub still : w.calm ≡ true → Calm w.sight.classes w.shown b.ptcs

-- a well-formed record comes to a sound board that has life for it
pub record Comes (kit : Kit) (busy : List ℕ) (b : Board) (w : Watch) (rec : List ℕ) : Type 0 where
  pub sound : sound_board b ≡ true
  pub eight : length b.ptcs ≡ 8
  pub made : kit ≡ kit_of b.settings
  pub marked : busy ≡ busy_of b.settings
  pub watched : Watches kit b w
  pub long : length rec ≡ 24
  pub formed : well rec ≡ true
  pub bytes : (k : ℕ) → get_or rec k 0 < 256
  pub life : is_crossing rec ≡ true → b.clock.crossings < LIFETIME
