-- The three promises: a store changes nothing, any blocks give the uncut log's store, and the store tells the last changes.
-- The first by the definition; the second by induction on the blocks, as the cut without a store; the third is what a store recalls of its changes.
use mathlib.Core.Path.{refl, subst}
use mathlib.Core.Logic.{⊎_elim}
use mathlib.Core.List.{List}
use Prim.Native.Nat.{ℕ, ◌≤◌, ◌<◌}
use native.Mathlib.Omega.{arith}
use lib.ListN.{length, get_or, replicate, get_or-replicate, get_or-eq_default}
use Rattle.laws.proofs.Tests.{lt_or_ge}
use Rattle.settings.specs.declared.Settings.{Settings}
use Rattle.status.specs.Codes.{Coded}
use Rattle.steady.specs.Held.{fresh_held}
use Rattle.records.specs.Refusal.{records_in, Ready}
use Rattle.history.specs.Store.{fresh_store}
use Rattle.history.specs.declared.keep.Change.{Change}
use Rattle.history.specs.Read.{changes_in}
use Rattle.history.specs.Recall.{LastOf}
use Rattle.history.proofs.Recall.{recalling}
use Rattle.board.specs.Fresh.{fresh_board}
use Rattle.daybook.proofs.Ground.{ground}
use Rattle.beside.specs.Changes.{changes_over}
use Rattle.beside.specs.Beside.{followed, beside_of}
use Rattle.recall.specs.Recall.{StoreChangesNothing, Recall}
use Rattle.recall.proofs.Fitting.{CodedHeld, all_fit}
use Rattle.recall.proofs.Telling.{changes_told_lem}

pub store_changes_nothing : StoreChangesNothing
unfolding beside_of
store_changes_nothing b s x log rows e = record { answer = rw e; board = rw e; rows_left = rw e }

-- ---- what the store tells

fresh_bytes : (s : Settings) → CodedHeld (fresh_board s)
unfolding fresh_board fresh_held
fresh_bytes s =
    let none : Coded (replicate 21 0) = record { long = refl; gtfe = omega arith; bytes = zeros } in
    record { carried = none; believed = none }
  where
    zeros : (n : ℕ) → get_or (replicate 21 0) n 0 < 256
    zeros n =
        ⊎_elim
        (λ (h : n < 21). rw (get_or-replicate {A = ℕ} 21 n 0 0 h) (omega arith))
        (λ (h : 21 ≤ n). rw (get_or-eq_default {A = ℕ} (replicate 21 0) 0 h) (omega arith))
        (lt_or_ge n 21)

fresh_ready : (s : Settings) (log : List ℕ) (room : ℕ) → Ready 0 log room → Ready (fresh_board s).clock.crossings log room
unfolding fresh_board
fresh_ready s log room r = r

pub recall : Recall
recall s x log buffer t bytes low =
    let g = ground t in
    let b = fresh_board s in
    let fits = all_fit b log (length buffer) g.fit (fresh_ready s log (length buffer) g.ready) (fresh_bytes s) bytes x (records_in log) (omega arith) in
    let r = recalling (changes_over x (records_in log) b log) fits in
    let told = changes_told_lem t x (omega arith) (records_in log) (omega arith) in
    record { sound = r.sound; changes = subst (λ (cs : List Change). LastOf cs (changes_in (followed x b log fresh_store))) told r.changes }
