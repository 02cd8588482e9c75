-- `soundness::is_sound` meets its contract: each early return is a part of the conjunction that fails.
-- What a test that was passed says of the parts is a fact of its way, and is what the later ones ask.
use mathlib.Core.Path.{◌≡◌, sym, ap, ◌∙◌}
use mathlib.Core.Bool.{true, false, not}
use native.Mathlib.Omega.{arith}
use Rattle.std.specs.Prelude.{is_err}
use Rattle.answer.specs.Told.{Answer, DONE, told, succeeded}
use Rattle.answer.proofs.Told.{is_err_told}
use Rattle.settings.specs.declared.Settings.{Settings}
use Rattle.settings.specs.Names.{orbit_of}
use Rattle.settings.specs.Check.{checked}
use Rattle.settings.proofs.Passed.{done_checks}
use Rattle.clock.specs.Clock.{sound_clock}
use Rattle.clock.specs.Turn.{sound_turn}
use Rattle.records.specs.Refusal.{LIFETIME}
use Rattle.kit.specs.Kit.{slots_of}
use Rattle.kit.proofs.Settled.{slot_room}
use Rattle.soundness.proofs.Life.{within_life}
use Rattle.soundness.proofs.is_sound.Goals as goal

module _ (s : Settings) (a : Answer) (is : told a ≡ checked s) where
  accepted : is_err a ≡ false → checked s ≡ DONE
  accepted e = done_checks s (ap succeeded (sym is) ∙ is_err_told a ∙ ap not e)

  refused : is_err a ≡ true → succeeded (checked s) ≡ false
  refused e = ap succeeded (sym is) ∙ is_err_told a ∙ ap not e

pub returns-then-is_err : goal.returns-then-is_err
returns-then-is_err c = rw (refused _ _ c.check.ensures (sym c.is_err.ensures.value ∙ c.if-is_err.true))

pub returns-then-not-is_sound : goal.returns-then-not-is_sound
returns-then-not-is_sound c =
    let checks : checked c.args.settings.now ≡ DONE = accepted _ _ c.check.ensures (sym c.is_err.ensures.value ∙ c.if-is_err.false) in
    let late : sound_clock LIFETIME (orbit_of c.args.settings.now) c.args.clock ≡ false = rw (← c.orbit.ensures) (sym c.is_sound.ensures) ∙ c.if-not-is_sound.true in
    rw (checks, late)

pub is_sound-requires-2 : goal.is_sound-requires-2
is_sound-requires-2 c =
    let checks : checked c.args.settings.now ≡ DONE = accepted _ _ c.check.ensures (sym c.is_err.ensures.value ∙ c.if-is_err.false) in
    rw c.slots_of.ensures (slot_room _ checks)

pub returns-then-not-is_sound-2 : goal.returns-then-not-is_sound-2
returns-then-not-is_sound-2 c =
    let checks : checked c.args.settings.now ≡ DONE = accepted _ _ c.check.ensures (sym c.is_err.ensures.value ∙ c.if-is_err.false) in
    let on_time : sound_clock LIFETIME (orbit_of c.args.settings.now) c.args.clock ≡ true = rw (← c.orbit.ensures) (sym c.is_sound.ensures) ∙ c.if-not-is_sound.false in
    let out : sound_turn (slots_of c.args.settings.now) c.args.turn ≡ false = rw (← c.slots_of.ensures) (sym c.is_sound-2.ensures) ∙ c.if-not-is_sound-2.true in
    rw (checks, on_time, out)

pub are_sound-requires : goal.are_sound-requires
are_sound-requires c =
    let on_time : sound_clock LIFETIME (orbit_of c.args.settings.now) c.args.clock ≡ true = rw (← c.orbit.ensures) (sym c.is_sound.ensures) ∙ c.if-not-is_sound.false in
    omega (arith, within_life _ _ on_time)

pub returns-then-not-are_sound : goal.returns-then-not-are_sound
returns-then-not-are_sound c =
    let checks : checked c.args.settings.now ≡ DONE = accepted _ _ c.check.ensures (sym c.is_err.ensures.value ∙ c.if-is_err.false) in
    let on_time : sound_clock LIFETIME (orbit_of c.args.settings.now) c.args.clock ≡ true = rw (← c.orbit.ensures) (sym c.is_sound.ensures) ∙ c.if-not-is_sound.false in
    let in_turn : sound_turn (slots_of c.args.settings.now) c.args.turn ≡ true = rw (← c.slots_of.ensures) (sym c.is_sound-2.ensures) ∙ c.if-not-is_sound-2.false in
    rw (checks, on_time, in_turn, sym c.are_sound.ensures ∙ c.if-not-are_sound.true)

pub returns-then-not-is_sound-3 : goal.returns-then-not-is_sound-3
returns-then-not-is_sound-3 c =
    let checks : checked c.args.settings.now ≡ DONE = accepted _ _ c.check.ensures (sym c.is_err.ensures.value ∙ c.if-is_err.false) in
    let on_time : sound_clock LIFETIME (orbit_of c.args.settings.now) c.args.clock ≡ true = rw (← c.orbit.ensures) (sym c.is_sound.ensures) ∙ c.if-not-is_sound.false in
    let in_turn : sound_turn (slots_of c.args.settings.now) c.args.turn ≡ true = rw (← c.slots_of.ensures) (sym c.is_sound-2.ensures) ∙ c.if-not-is_sound-2.false in
    rw (checks, on_time, in_turn, sym c.are_sound.ensures ∙ c.if-not-are_sound.false, sym c.is_sound-3.ensures ∙ c.if-not-is_sound-3.true)

pub is_sound-requires-4 : goal.is_sound-requires-4
is_sound-requires-4 c =
    let on_time : sound_clock LIFETIME (orbit_of c.args.settings.now) c.args.clock ≡ true = rw (← c.orbit.ensures) (sym c.is_sound.ensures) ∙ c.if-not-is_sound.false in
    omega (arith, within_life _ _ on_time)

pub returns : goal.returns
returns c =
    let checks : checked c.args.settings.now ≡ DONE = accepted _ _ c.check.ensures (sym c.is_err.ensures.value ∙ c.if-is_err.false) in
    let on_time : sound_clock LIFETIME (orbit_of c.args.settings.now) c.args.clock ≡ true = rw (← c.orbit.ensures) (sym c.is_sound.ensures) ∙ c.if-not-is_sound.false in
    let in_turn : sound_turn (slots_of c.args.settings.now) c.args.turn ≡ true = rw (← c.slots_of.ensures) (sym c.is_sound-2.ensures) ∙ c.if-not-is_sound-2.false in
    rw (checks, on_time, in_turn, sym c.are_sound.ensures ∙ c.if-not-are_sound.false, sym c.is_sound-3.ensures ∙ c.if-not-is_sound-3.false) c.is_sound-4.ensures
