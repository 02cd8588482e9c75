-- `still::is_warned` meets its contract: at rest the state after the move is the state before it.
-- The test of rest is the premise of the law of rest; else the move is made.
use mathlib.Core.Path.{ap, sym, ◌∙◌}
use Prim.Native.Nat.{ℕ}
use lib.Dec.{eqb}
use Rattle.settings.specs.declared.names.Schedule.{Schedule}
use Rattle.states.specs.declared.Moved.{Moved}
use Rattle.states.specs.Moves.{moved_of}
use Rattle.ptc.specs.Support.Times.{schedule_from}
use Rattle.ptc.proofs.Rest.{rest_state}
use Rattle.still.proofs.is_warned.Goals as goal

pub returns-then-is_at_rest : goal.returns-then-is_at_rest
returns-then-is_at_rest c =
    let a = c.args in
    ap (λ (s : ℕ). eqb s 8) (sym (rest_state (schedule_from a.kit.now.times a.holder) a.kit.now.waits _ _ _ _ (sym c.is_at_rest.ensures ∙ c.if-is_at_rest.true)))

pub returns : goal.returns
returns c =
    let a = c.args in
    ap (λ (m : Moved). eqb m.state 8)
    (c.advance-step.ensures ∙ ap (λ (at : Schedule). moved_of at a.kit.now.waits a.holder a.number a.class a.p.state a.p.wait) c.schedule_of-at.ensures)
