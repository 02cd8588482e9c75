-- The six facts that a sound board is made of.
-- They are the parts of the one conjunction, read and put together.
use mathlib.Core.Path.{◌≡◌}
use mathlib.Core.Bool.{true, ◌&&◌}
use Prim.Native.Nat.{◌≤◌}
use Rattle.laws.proofs.Bools.{both}
use Rattle.answer.specs.Told.{DONE, succeeded}
use Rattle.settings.specs.Names.{orbit_of}
use Rattle.settings.specs.Check.{checked}
use Rattle.settings.proofs.Passed.{done_checks, checks_done}
use Rattle.steady.specs.Held.{sound_held}
use Rattle.throttle.specs.Sound.{sound_marks}
use Rattle.clock.specs.Clock.{sound_clock}
use Rattle.clock.specs.Turn.{sound_turn}
use Rattle.records.specs.Refusal.{LIFETIME}
use Rattle.board.specs.declared.Board.{Board}
use Rattle.kit.specs.Kit.{slots_of}
use Rattle.eight.specs.Eight.{sound_eight}
use Rattle.board.specs.Sound.{sound_board}
use Rattle.soundness.proofs.Life.{within_life}

pub record Parts (b : Board) : Type 0 where
  pub checks : checked b.settings ≡ DONE
  pub clock : sound_clock LIFETIME (orbit_of b.settings) b.clock ≡ true
  pub turn : sound_turn (slots_of b.settings) b.turn ≡ true
  pub eight : sound_eight b.turn.holder b.clock.crossings b.ptcs ≡ true
  pub held : sound_held b.held ≡ true
  pub marks : sound_marks b.clock.crossings b.marks ≡ true

pub sound_parts_lem : (b : Board) → sound_board b ≡ true → Parts b
unfolding sound_board
sound_parts_lem b e =
    let m = b.clock.crossings in
    let clock = sound_clock LIFETIME (orbit_of b.settings) b.clock in
    let turn = sound_turn (slots_of b.settings) b.turn in
    let eight = sound_eight b.turn.holder m b.ptcs in
    let held = sound_held b.held in
    let marks = sound_marks m b.marks in
    let of_all = both (succeeded (checked b.settings)) (clock && (turn && (eight && (held && marks)))) e in
    let of_clock = both clock (turn && (eight && (held && marks))) of_all.1 in
    let of_turn = both turn (eight && (held && marks)) of_clock.1 in
    let of_eight = both eight (held && marks) of_turn.1 in
    let of_held = both held marks of_eight.1 in
    record { checks = done_checks b.settings of_all.0; clock = of_clock.0; turn = of_turn.0; eight = of_eight.0; held = of_held.0; marks = of_held.1 }

pub parts_sound : (b : Board) → Parts b → sound_board b ≡ true
unfolding sound_board
parts_sound b p = rw (checks_done b.settings p.checks, p.clock, p.turn, p.eight, p.held, p.marks)

-- a sound clock has not passed the end of the board's life
pub sound_life : (b : Board) → sound_board b ≡ true → b.clock.crossings ≤ LIFETIME
sound_life b e = within_life _ b.clock (sound_parts_lem b e).clock
