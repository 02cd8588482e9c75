-- The worked figures hold: each is computed from the definitions.
-- The first three by a walk in which t does not stand (`any_time`), those by rows of a whole board by the walk of `runup`.
use mathlib.Core.Path.{◌≡◌, refl, sym, ap, ◌∙◌}
use mathlib.Core.Bool.{true, false}
use mathlib.Core.List.{List}
use Prim.Native.Nat.{ℕ, ◌<◌}
use native.Mathlib.Nat.{zero-add}
use lib.Dec.{leb, eqb}
use lib.ListN.{get_or, replicate, get_or-replicate}
use Rattle.laws.specs.Base.{highest}
use Rattle.laws.proofs.Over.{get_d_tabulate}
use Rattle.status.specs.Class.{none, class_of, counted}
use Rattle.status.specs.Codes.{code_at}
use Rattle.status.specs.Merge.{member_by, vote_by, merged, merged_by, classes, classes_by}
use Rattle.throttle.proofs.Windows.{none_told}
use Rattle.states.specs.Names.{READY, WARN}
use Rattle.runup.proofs.Walk.{steady_under, Follows, walk_same, walked_same}
use Rattle.runup.proofs.Opened.{opened}
use Rattle.runup.proofs.FirstTrigger.{to_first_trigger}
use Rattle.figures.specs.Figures.{ignoring, all_of, board_at, up_to250, around_gap, counts_of, Figures}
use Rattle.figures.proofs.AnyTime.{sends_after, any_time}

-- where the classes of all eight are none, that of each is
each_none : (codes : List ℕ) → classes ignoring codes ≡ replicate 8 none → (k : ℕ) → k < 8 → merged ignoring codes k ≡ none
unfolding classes_by
each_none codes e k h =
    let here : get_or (classes ignoring codes) k none ≡ merged ignoring codes k = get_d_tabulate (merged ignoring codes) 0 8 k none h ∙ rw zero-add in
    sym here ∙ rw e (get_or-replicate 8 k none none h)

-- no earlier trigger, so no marks
unmarked : (number state : ℕ) → Follows (board_at number state) (steady_under (eqb state WARN))
unmarked number state = record { std = refl; carried = refl; believed = refl; long = refl; told = none_told number }

pub figures : Figures
unfolding opened sends_after highest class_of counted code_at member_by vote_by merged_by classes_by
figures = record {
  ready = λ t. any_time t (λ k. false);
  warning = λ t. any_time t (λ k. true);
  ready_then_warning = λ t. any_time t (λ k. leb 4 k);
  ready_in_rows = walk_same (λ k. false) up_to250 400 0 (unmarked 1000 READY);
  warning_in_rows = walk_same (λ k. true) up_to250 400 0 (unmarked 1000 WARN);
  ready_then_warning_in_rows = walk_same (λ k. leb 3 k) up_to250 400 0 (unmarked 1000 READY);
  code_11_of_partition_23 = refl;
  code_11_of_partition_24 = refl;
  all_disconnected_and_ignored = λ k h. (each_none (all_of 0) refl k h, each_none (all_of 15) refl k h);
  sent_gap_gap_sent = walk_same (λ k. false) around_gap 122 0 (unmarked 3443 READY);
  lost_to_gap = ap counts_of (walked_same (λ k. false) around_gap 122 0 (unmarked 3443 READY));
  start_to_first_trigger = to_first_trigger;
  marker_at_five = (refl, refl);
  marker_at_zero = refl;
}
