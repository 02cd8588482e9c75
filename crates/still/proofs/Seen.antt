-- What the code lets all eight see is what they would see of the whole throttle: it comes to the same crossing for each of them.
-- Another than the holder, or a holder that does not ask, does not look at the rules; one that asks looks at them in the state after its move.
use mathlib.Core.Path.{◌≡◌, refl, sym, ap, ◌∙◌}
use mathlib.Core.Logic.{inl, inr, ⊎_elim}
use mathlib.Core.Bool.{Bool, true, false, not, ◌||◌, false≢true}
use mathlib.Core.List.{List}
use Prim.Native.Nat.{ℕ, ◌%◌, ◌<◌}
use native.Mathlib.Omega.{arith}
use borrow.Author.Tests.{ne_eqb, eqb-true, not-false}
use lib.Dec.{eqb}
use lib.ListN.{get_or}
use Rattle.laws.specs.Base.{if}
use Rattle.laws.proofs.Tests.{either, same_or_not}
use Rattle.settings.specs.declared.names.Gap.{Gap}
use Rattle.settings.specs.declared.names.Rules.{Rules}
use Rattle.settings.specs.declared.names.Waits.{Waits}
use Rattle.throttle.specs.Rules.{refused_by}
use Rattle.clock.specs.declared.Clock.{Clock}
use Rattle.clock.specs.Clock.{number_of}
use Rattle.states.specs.Names.{WARN}
use Rattle.states.specs.Moves.{moved_of}
use Rattle.ptc.specs.declared.Ptc.{Ptc}
use Rattle.ptc.specs.declared.Plan.{Plan}
use Rattle.ptc.specs.declared.Scene.{Scene}
use Rattle.ptc.specs.Crossing.{rule_in}
use Rattle.ptc.specs.Support.Times.{schedule_from, plan_from}
use Rattle.ptc.specs.Fresh.{fresh_ptc}
use Rattle.ptc.proofs.Rest.{unasked_scene, moved_scene}
use Rattle.records.specs.Records.{asked_in}
use Rattle.eight.specs.Eight.{act_of}
use Rattle.still.specs.declared.Sight.{Sight}
use Rattle.still.specs.Support.Sight.{scene_for}

-- either limit, by the state
by_state : (f : Bool → ℕ) (s : ℕ) → if (eqb s WARN) (f (eqb s WARN)) (f (eqb s WARN)) ≡ if (eqb s WARN) (f true) (f false)
by_state f s = ⊎_elim (λ (e : eqb s WARN ≡ true). rw e) (λ (e : eqb s WARN ≡ false). rw e) (either (eqb s WARN))

neither : (a b : Bool) → a || b ≡ false → (a ≡ false) × (b ≡ false)
neither true b e = absurd (false≢true (sym e))
neither false b e = (refl, e)

module _ (times : List ℕ) (waits : Waits) (gap : Gap) (rules : Rules) (sight : Sight) (marks : List ℕ) (clock : Clock) (ps : List Ptc) where
  abbrev plans : ℕ → Plan
  plans = plan_from times waits gap

  abbrev holding : Ptc
  holding = get_or ps (sight.turn.holder % 8) fresh_ptc

  abbrev seen : Scene
  seen = scene_for times waits rules holding sight marks clock

  -- the whole throttle
  abbrev pub whole_scene : Scene
  whole_scene = record {
    number = number_of clock sight.marker;
    holder = sight.turn.holder;
    norm = refused_by rules marks clock.crossings false;
    low = refused_by rules marks clock.crossings true;
  }

  numbers : seen.number ≡ whole_scene.number
  unfolding scene_for
  numbers = refl

  holders : seen.holder ≡ whole_scene.holder
  unfolding scene_for
  holders = refl

  asks : Bool
  asks = asked_in sight.requests (sight.turn.holder % 8) || not (eqb holding.cycle 0)

  -- the holder's own
  abbrev moves_to : ℕ → ℕ
  moves_to k =
      (moved_of (plans k).at (plans k).waits k (number_of clock sight.marker) (get_or sight.classes k 0) (get_or ps k fresh_ptc).state (get_or ps k fresh_ptc).wait).state

  -- the state that the holder moves to
  abbrev held_to : ℕ
  held_to =
      let holder = sight.turn.holder in
      (moved_of (schedule_from times holder) waits holder (number_of clock sight.marker) (get_or sight.classes (holder % 8) 0) holding.state holding.wait).state

  same_move : (k : ℕ) → k ≡ sight.turn.holder → k < 8 → held_to ≡ moves_to k
  same_move k e h =
      let z : k % 8 ≡ k = omega arith in
      let to : ℕ → ℕ → ℕ = λ x y.
      (moved_of (schedule_from times x) waits x (number_of clock sight.marker) (get_or sight.classes y 0) (get_or ps y fresh_ptc).state (get_or ps y fresh_ptc).wait).state in
      ap (λ (x : ℕ). to x (x % 8)) (sym e) ∙ ap (to k) z

  own_rule : (k : ℕ) → k ≡ sight.turn.holder → k < 8 → asks ≡ true → rule_in seen (moves_to k) ≡ rule_in whole_scene (moves_to k)
  unfolding scene_for asks
  own_rule k e h a = rw (a, same_move k e h) (by_state (λ w. refused_by rules marks clock.crossings w) (moves_to k))

  idle : (k : ℕ) → k ≡ sight.turn.holder → k < 8 → asks ≡ false → (asked_in sight.requests k ≡ false) × ((get_or ps k fresh_ptc).cycle ≡ 0)
  unfolding asks
  idle k e h a =
      let z : k % 8 ≡ k = omega arith in
      let n = neither _ _ (rw (← e, z) at a) in
      (n.0, eqb-true _ _ (not-false _ n.1))

  pub scene_seen : (k : ℕ) → k < 8
      → act_of (plans k) seen sight.classes sight.requests k (get_or ps k fresh_ptc)
      ≡ act_of (plans k) whole_scene sight.classes sight.requests k (get_or ps k fresh_ptc)
  unfolding act_of scene_for
  scene_seen k h =
      ⊎_elim
      (λ (e : k ≡ sight.turn.holder).
      ⊎_elim
      (λ (t : asks ≡ true). moved_scene (plans k) seen whole_scene k (get_or sight.classes k 0) _ (get_or ps k fresh_ptc) numbers holders (own_rule k e h t))
      (λ (f : asks ≡ false). unasked_scene (plans k) seen whole_scene k _ _ _ numbers holders (inr (idle k e h f)))
      (either asks))
      (λ (n : k ≡ sight.turn.holder → ⊥). unasked_scene (plans k) seen whole_scene k _ _ _ numbers holders (inl (ne_eqb k _ n)))
      (same_or_not k sight.turn.holder)
