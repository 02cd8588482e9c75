-- `still::Sight::scene` meets its contract: a holder that asks is told by the rules, in the state after its move; any other is told nothing.
-- The two ways are the two values of the definition's test.
use mathlib.Core.Path.{◌≡◌, sym, ◌∙◌}
use mathlib.Core.Bool.{Bool, true, false, not, ◌||◌}
use mathlib.Core.List.{List}
use Prim.Native.Nat.{ℕ, ◌%◌}
use lib.Dec.{eqb}
use lib.ListN.{get_or}
use Rattle.settings.specs.declared.names.Rules.{Rules}
use Rattle.settings.specs.declared.names.Waits.{Waits}
use Rattle.throttle.specs.Rules.{refused_by}
use Rattle.clock.specs.declared.Clock.{Clock}
use Rattle.clock.specs.Clock.{number_of}
use Rattle.states.specs.Moves.{moved_of}
use Rattle.ptc.specs.declared.Ptc.{Ptc}
use Rattle.ptc.specs.declared.Scene.{Scene}
use Rattle.ptc.specs.Support.Times.{schedule_from}
use Rattle.records.specs.Records.{asked_in}
use Rattle.still.specs.declared.Sight.{Sight}
use Rattle.still.specs.Support.Sight.{scene_for}
use Rattle.still.proofs.Sight.scene.Goals as goal

module _ (times : List ℕ) (waits : Waits) (rules : Rules) (p : Ptc) (sight : Sight) (marks : List ℕ) (clock : Clock) (number : ℕ) where
  abbrev asks : Bool
  asks = asked_in sight.requests (sight.turn.holder % 8) || not (eqb p.cycle 0)

  abbrev seeing : ℕ → Scene
  seeing rule = record { number = number; holder = sight.turn.holder; norm = rule; low = rule }

  asked_is : (warn : Bool) (rule : ℕ) → number ≡ number_of clock sight.marker → asks ≡ true
      → warn ≡ eqb (moved_of (schedule_from times sight.turn.holder) waits sight.turn.holder number (get_or sight.classes (sight.turn.holder % 8) 0) p.state p.wait).state 8
      → rule ≡ refused_by rules marks clock.crossings warn → seeing rule ≡ scene_for times waits rules p sight marks clock
  unfolding scene_for
  asked_is warn rule n a w f = rw (f, w, n, a)

  idle_is : number ≡ number_of clock sight.marker → asks ≡ false → seeing 0 ≡ scene_for times waits rules p sight marks clock
  unfolding scene_for
  idle_is n a = rw (n, a)

pub returns-then-asks : goal.returns-then-asks
returns-then-asks c = asked_is _ _ _ _ _ _ _ _ _ _ c.number-number.ensures (sym c.asks.ensures ∙ c.if-asks.true) c.is_warned-warn.ensures c.refused_by-rule.ensures

pub returns-else-asks : goal.returns-else-asks
returns-else-asks c = idle_is _ _ _ _ _ _ _ _ c.number-number.ensures (sym c.asks.ensures ∙ c.if-asks.false)
