-- Over a board that a program can hold and a log of bytes, every change fits the words of a store.
-- The held codes stay nibbles in bytes, and a crossing's number is below 4,096.
use mathlib.Core.Path.{◌≡◌}
use mathlib.Core.Logic.{⊎_elim}
use mathlib.Core.Bool.{true, false}
use mathlib.Core.List.{List, []}
use Prim.Native.Nat.{ℕ, zero, suc, ◌≤◌, ◌<◌}
use native.Mathlib.Omega.{arith}
use Rattle.laws.specs.Base.{if}
use Rattle.laws.proofs.Bools.{if_has}
use Rattle.laws.proofs.Tests.{either}
use Rattle.status.specs.Codes.{Coded}
use Rattle.status.proofs.Codes.{code_low}
use Rattle.steady.specs.Held.{next_held}
use Rattle.steady.proofs.Laws.{believed_coded}
use Rattle.clock.specs.Clock.{number_of}
use Rattle.records.specs.Records.{rec_at, is_crossing, marker_in, codes_in}
use Rattle.records.specs.Refusal.{records_in, Ready}
use Rattle.records.proofs.Laws.{rec_long, rec_bytes, well_at_lem}
use Rattle.history.specs.Recall.{AllFit}
use Rattle.history.proofs.Recall.{fit_append}
use Rattle.follower.proofs.Fits.{change_fits}
use Rattle.board.specs.declared.Board.{Board}
use Rattle.board.specs.Crossing.{crossed_by}
use Rattle.board.specs.Command.{commanded_by}
use Rattle.board.specs.Run.{stepped, ran}
use Rattle.board.proofs.Crossings.{coded}
use Rattle.board.proofs.Keeps.{Fit, ran_fit}
use Rattle.beside.specs.Changes.{change_in, changes_over}
use Rattle.beside.proofs.Turns.{next_low}
use Rattle.recall.specs.Told.{OfBytes}

-- the held codes are well formed
pub record CodedHeld (b : Board) : Type 0 where
  pub carried : Coded b.held.carried
  pub believed : Coded b.held.believed

held_next : (b : Board) (rec : List ℕ) → CodedHeld b → (is_crossing rec ≡ true → Coded (codes_in rec)) → CodedHeld (stepped b rec)
unfolding stepped crossed_by commanded_by next_held
held_next b rec h codes =
    ⊎_elim
    (λ (e : is_crossing rec ≡ true). rw e (record { carried = codes e; believed = believed_coded b.held.carried b.held.believed (codes_in rec) h.carried h.believed (codes e) }))
    (λ (e : is_crossing rec ≡ false). rw e (record { carried = h.carried; believed = h.believed }))
    (either (is_crossing rec))

module _ (b : Board) (log : List ℕ) (room : ℕ) (fit : Fit b) (r : Ready b.clock.crossings log room) (held : CodedHeld b) (bytes : OfBytes log) where
  codes_here : (i : ℕ) → i < records_in log → Coded (codes_in (rec_at log i))
  codes_here i h =
      let long = rec_long log i (records_in log) r.whole h in
      coded (rec_at log i) long (well_at_lem (records_in log) log r.formed i h) (λ n. rec_bytes log i n long bytes)

  pub held_at : (i : ℕ) → i ≤ records_in log → CodedHeld (ran i b log)
  unfolding ran
  held_at zero h = held
  held_at (suc i) h = held_next (ran i b log) (rec_at log i) (held_at i (omega arith)) (λ e. codes_here i h)

  fits_here : (x i : ℕ) → i < records_in log → AllFit (change_in x (ran i b log) (rec_at log i))
  unfolding change_in next_held
  fits_here x i h =
      let now = ran i b log in
      let codes = codes_in (rec_at log i) in
      let held = held_at i (omega arith) in
      let fit_now = ran_fit (records_in log) b log fit r.life r.formed i (omega arith) in
      let number : number_of now.clock (marker_in (rec_at log i)) < 4096 =
      if_has (λ (n : ℕ). n < 4096) (marker_in (rec_at log i)) 0 now.clock.next (λ e. omega arith) (λ e. next_low now fit_now.sound) in
      let next = believed_coded now.held.carried now.held.believed codes held.carried held.believed (codes_here i h) in
      change_fits _ _ _ _ number (code_low _ next x)

  pub all_fit : (x i : ℕ) → i ≤ records_in log → AllFit (changes_over x i b log)
  unfolding changes_over
  all_fit x zero h = tt
  all_fit x (suc i) h =
      fit_append (changes_over x i b log) (if (is_crossing (rec_at log i)) (change_in x (ran i b log) (rec_at log i)) []) (all_fit x i (omega arith)) (if_has AllFit (is_crossing (rec_at log i)) (change_in x (ran i b log) (rec_at log i)) [] (λ e. fits_here x i h) (λ e. tt))
