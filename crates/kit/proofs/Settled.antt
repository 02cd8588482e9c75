-- What settings that pass the check give the steps to count with.
-- Each fact is one of their bounds.
use mathlib.Core.Path.{◌≡◌}
use mathlib.Core.Bool.{true}
use Prim.Native.Nat.{◌≤◌, ◌<◌}
use native.Mathlib.Omega.{arith}
use lib.ListN.{length}
use Rattle.std.proofs.lemmas.Grind.{common_steps}
use Rattle.laws.proofs.Over.{length_tabulate, get_d_tabulate}
use Rattle.answer.specs.Told.{DONE}
use Rattle.settings.specs.declared.Settings.{Settings}
use Rattle.settings.specs.Names.{orbit_of, rules_of, waits_of, slot_of}
use Rattle.settings.specs.Check.{checked}
use Rattle.settings.proofs.Bounds.{bounded}
use Rattle.throttle.specs.Rules.{Sensible}
use Rattle.clock.specs.Support.Room.{SlotRoom}
use Rattle.states.specs.Sound.{sound_waits}
use Rattle.kit.specs.Kit.{slots_of}

pub slots_long : (s : Settings) → length (slots_of s) ≡ 8
slots_long s = length_tabulate (slot_of s) 0 8

pub sensible : (s : Settings) → checked s ≡ DONE → Sensible (rules_of s)
sensible s ok = omega (arith, bounded s ok)

-- past the last controller there is 0
pub slot_room : (s : Settings) → checked s ≡ DONE → SlotRoom (slots_of s)
slot_room s ok = record { most = λ k. let b = bounded s ok in grind (arith, common_steps, length_tabulate, get_d_tabulate) }

pub waits_sound : (s : Settings) → checked s ≡ DONE → sound_waits (waits_of s) ≡ true
waits_sound s ok = let b = bounded s ok in grind arith

pub orbit_some : (s : Settings) → checked s ≡ DONE → (0 < orbit_of s) × (orbit_of s ≤ 4096)
orbit_some s ok = omega (arith, bounded s ok)
