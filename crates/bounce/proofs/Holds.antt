-- What a board holds is what the records tell, of each input by itself.
-- By induction on the records, by the law of one input (`believed_code`): the GTFE codes of a sound board are nibbles.
use mathlib.Core.Path.{◌≡◌, refl, ◌∙◌}
use mathlib.Core.Logic.{⊎_elim}
use mathlib.Core.Bool.{true, false}
use mathlib.Core.List.{List}
use Prim.Native.Nat.{ℕ, zero, suc, ◌+◌, ◌/◌, ◌%◌, ◌≤◌, ◌<◌}
use native.Mathlib.Omega.{arith}
use borrow.Author.Tests.{eq-eqb, ne_eqb}
use lib.Dec.{eqb}
use lib.ListN.{length, get_or-replicate}
use Rattle.laws.proofs.Bools.{if_has}
use Rattle.laws.proofs.Tests.{either, same_or_not}
use Rattle.settings.specs.declared.Settings.{Settings}
use Rattle.status.specs.Codes.{code_at}
use Rattle.steady.specs.declared.Held.{Held}
use Rattle.steady.specs.Held.{next_held, fresh_held, sound_held}
use Rattle.steady.proofs.Laws.{believed_long, believed_code, carried_low, believed_low}
use Rattle.records.specs.Records.{rec_at, is_crossing, codes_in, well}
use Rattle.records.specs.Refusal.{records_in}
use Rattle.records.proofs.Laws.{gtfe_low}
use Rattle.board.specs.declared.Board.{Board}
use Rattle.board.specs.Crossing.{crossed_by}
use Rattle.board.specs.Command.{commanded_by}
use Rattle.board.specs.Run.{stepped, ran}
use Rattle.board.specs.Fresh.{fresh_board}
use Rattle.board.proofs.Settled.{sound_parts_lem}
use Rattle.daybook.specs.Whole.{Taken}
use Rattle.daybook.proofs.Ground.{ground, fit_at, well_here}
use Rattle.bounce.specs.Input.{code_before, believed_before, Holding}

-- held codes that are those told before record i
pub record Telling (log : List ℕ) (i : ℕ) (h : Held) : Type 0 where
  pub long : length h.believed ≡ 21
  pub carried : (y : ℕ) → y < 41 → code_at h.carried y ≡ code_before log y i
  pub believed : (y : ℕ) → y < 41 → code_at h.believed y ≡ believed_before log y i

none_yet : (y : ℕ) → y < 41 → code_at fresh_held.carried y ≡ 0
unfolding fresh_held code_at
none_yet y h =
    ⊎_elim
    (λ (e : y ≡ 40). rw (eq-eqb y 40 e))
    (λ (e : y ≡ 40 → ⊥).
    let inside : 1 + y / 2 < 21 = omega arith in
    rw (ne_eqb y 40 e, get_or-replicate {A = ℕ} 21 (1 + y / 2) 0 0 inside)
    (if_has (λ (n : ℕ). n ≡ 0) (eqb (y % 2) 0) (0 % 16) (0 / 16) (λ t. refl) (λ t. refl)))
    (same_or_not y 40)

told_fresh : (log : List ℕ) → Telling log 0 fresh_held
unfolding fresh_held code_before believed_before
told_fresh log = record { long = refl; carried = none_yet; believed = none_yet }

module _ (log : List ℕ) (i : ℕ) (b : Board) (sound : sound_held b.held ≡ true) (w : well (rec_at log i) ≡ true) (g : Telling log i b.held) where
  abbrev rec : List ℕ
  rec = rec_at log i

  told_crossing : is_crossing rec ≡ true → Telling log (suc i) (next_held b.held (codes_in rec))
  unfolding next_held code_before believed_before
  told_crossing e =
      let c = b.held.carried in
      let d = b.held.believed in
      record {
        long = believed_long c d (codes_in rec) ∙ g.long;
        carried = λ y l. rw e;
        believed = λ y l.
            believed_code c d (codes_in rec) g.long (carried_low b.held sound) (believed_low b.held sound) (gtfe_low rec w e) y l
            ∙ rw (e, g.carried y l, g.believed y l);
      }

  told_command : is_crossing rec ≡ false → Telling log (suc i) b.held
  unfolding code_before believed_before
  told_command e = record { long = g.long; carried = λ y l. rw e (g.carried y l); believed = λ y l. rw e (g.believed y l) }

  told_next : Telling log (suc i) (stepped b rec).held
  unfolding stepped crossed_by commanded_by
  told_next =
      ⊎_elim
      (λ (e : is_crossing rec ≡ true). rw e (told_crossing e))
      (λ (e : is_crossing rec ≡ false). rw e (told_command e))
      (either (is_crossing rec))

module _ {s : Settings} {log buffer : List ℕ} (t : Taken s log buffer) where
  pub told_at : (i : ℕ) → i ≤ records_in log → Telling log i (ran i (fresh_board s) log).held
  unfolding ran fresh_board
  told_at zero l = told_fresh log
  told_at (suc i) l =
      let b = ran i (fresh_board s) log in
      let sound = (sound_parts_lem b (fit_at t i (omega arith)).sound).held in
      told_next log i b sound (well_here t i l) (told_at i (omega arith))

pub holding : Holding
holding s log buffer t x low =
    let g = told_at t (records_in log) (omega arith) in
    rw (ground t).closing (record { carried = g.carried x low; believed = g.believed x low })
