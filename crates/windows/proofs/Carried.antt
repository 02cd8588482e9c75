-- The mark that a crossing leaves is the number of triggers in its row, and whoever sent one was allowed to by every rule.
-- At most one is sent, so the row has a byte with a trigger exactly where the sum over the eight is 1.
use mathlib.Core.Path.{◌≡◌, refl, sym, ap, ◌∙◌}
use mathlib.Core.Logic.{⊎_elim}
use mathlib.Core.Bool.{Bool, true, false, ◌||◌, false≢true}
use mathlib.Core.List.{List, [], ◌∷◌}
use Prim.Native.Nat.{ℕ, zero, suc, ◌+◌, ◌≤◌, ◌<◌}
use native.Mathlib.Omega.{arith}
use borrow.Author.Tests.{not-true, not-false}
use lib.Dec.{eqb, ltb}
use lib.ListN.{length, get_or}
use Rattle.laws.specs.Base.{if, one, all_b}
use Rattle.laws.proofs.Tests.{either, same_or_not}
use Rattle.laws.proofs.All.{all_get}
use Rattle.laws.proofs.Over.{length-map_i}
use Rattle.settings.specs.declared.Settings.{Settings}
use Rattle.settings.specs.Names.{rules_of}
use Rattle.throttle.specs.Rules.{allows, refused_by}
use Rattle.throttle.proofs.Instances.{free_allows}
use Rattle.states.specs.Names.{WARN}
use Rattle.ptc.specs.Crossing.{rule_in, free_in}
use Rattle.records.specs.Records.{rec_at}
use Rattle.records.specs.Rows.{carries}
use Rattle.board.specs.declared.Board.{Board}
use Rattle.board.specs.Crossing.{scene_by, eight}
use Rattle.eight.specs.Eight.{byte_of}
use Rattle.board.specs.Run.{ran}
use Rattle.board.specs.Fresh.{fresh_board}
use Rattle.daybook.specs.Row.{row_at, sent_in, cal_in, sends_in, triggers_of, triggers_in, warns_in}
use Rattle.daybook.specs.Whole.{Taken, Crossing, whole}
use Rattle.daybook.proofs.Ground.{fit_at}
use Rattle.daybook.proofs.Beams.{own_settings}
use Rattle.daybook.proofs.Seen.{scene_in, crossed_in, warns_told, fires_told}
use Rattle.owner.proofs.Owner.{silent_sum, sent_says, cal_says, one_at_most}
use Rattle.windows.specs.Windows.{rule_at}

-- ---- the triggers of a row, controller by controller

or_sum : (a b : Bool) → one (a || b) ≤ one a + one b
or_sum true b = omega arith
or_sum false b = omega arith

module _ (row : List ℕ) where
  none_sent : (n : ℕ) → ((k : ℕ) → k < n → sends_in row k ≡ false) → triggers_of row n ≡ 0
  unfolding triggers_of
  none_sent zero each = refl
  none_sent (suc n) each =
      omega (arith, none_sent n (λ k h. each k (omega arith)), silent_sum (sent_in row n) (cal_in row n) (each n (omega arith)))

  pub some_sent : (n k : ℕ) → k < n → sends_in row k ≡ true → 1 ≤ triggers_of row n
  unfolding triggers_of
  some_sent zero k h e = absurd (omega arith)
  some_sent (suc n) k h e =
      ⊎_elim
      (λ (z : k ≡ n).
      let sends : one (sends_in row n) ≡ 1 = rw (← z, e) in
      omega (arith, or_sum (sent_in row n) (cal_in row n), sends))
      (λ (z : k ≡ n → ⊥). omega (arith, some_sent n k (omega (arith, z)) e))
      (same_or_not k n)

  -- one that sent
  pub record Sender (n : ℕ) : Type 0 where
    pub who : ℕ
    pub low : who < n
    pub sends : sends_in row who ≡ true

  sender : (n : ℕ) → 1 ≤ triggers_of row n → Sender n
  unfolding triggers_of
  sender zero h = absurd (omega arith)
  sender (suc n) h =
      ⊎_elim
      (λ (e : sends_in row n ≡ true). record { who = n; low = omega arith; sends = e })
      (λ (e : sends_in row n ≡ false).
      let w = sender n (omega (arith, silent_sum (sent_in row n) (cal_in row n) e)) in
      record { who = w.who; low = omega (arith, w.low); sends = w.sends })
      (either (sends_in row n))

-- one that fails a test which not all pass
record Failing (p : ℕ → Bool) (l : List ℕ) : Type 0 where
  place : ℕ
  inside : place < length l
  fails : p (get_or l place 0) ≡ false

failing : (p : ℕ → Bool) (l : List ℕ) → all_b p l ≡ false → Failing p l
unfolding all_b
failing p [] e = absurd (false≢true (sym e))
failing p (a ∷ l) e =
    ⊎_elim
    (λ (h : p a ≡ true).
    let w = failing p l (rw h at e) in
    record { place = suc w.place; inside = omega (arith, w.inside); fails = w.fails })
    (λ (h : p a ≡ false). record { place = 0; inside = omega arith; fails = h })
    (either (p a))

-- ---- the mark of a crossing

module _ {s : Settings} {log buffer : List ℕ} (t : Taken s log buffer) {i : ℕ} (c : Crossing log i) where
  abbrev before : Board
  before = ran i (fresh_board s) log

  abbrev row : List ℕ
  row = row_at (whole s log buffer).rows i

  abbrev bytes : List ℕ
  bytes = eight byte_of before (rec_at log i)

  bytes_long : length bytes ≡ 8
  bytes_long = length-map_i _ 0 before.ptcs ∙ (fit_at t i (omega (arith, c.among))).ptcs

  quiet : all_b (λ x. ltb x 16) bytes ≡ true → triggers_in row ≡ 0
  quiet e =
      none_sent row 8
      (λ k h. not-true (sends_in row k) (sym (fires_told t c k h) ∙ all_get (λ x. ltb x 16) bytes k 0 e (omega (arith, bytes_long))))

  loud : all_b (λ x. ltb x 16) bytes ≡ false → triggers_in row ≡ 1
  loud e =
      let w = failing (λ x. ltb x 16) bytes e in
      let k = w.place in
      let low : k < 8 = omega (arith, bytes_long, w.inside) in
      let sends : sends_in row k ≡ true = not-false (sends_in row k) (sym (fires_told t c k low) ∙ w.fails) in
      omega (arith, some_sent row 8 k low sends, one_at_most t c)

  pub carried : triggers_in row ≡ one (carries bytes)
  unfolding carries
  carried =
      ⊎_elim
      (λ (e : all_b (λ x. ltb x 16) bytes ≡ true). rw e (quiet e))
      (λ (e : all_b (λ x. ltb x 16) bytes ≡ false). rw e (loud e))
      (either (all_b (λ x. ltb x 16) bytes))

  pub bit : triggers_in row ≤ 1
  bit = one_at_most t c

  pub sent_one : (k : ℕ) → k < 8 → sends_in row k ≡ true → triggers_in row ≡ 1
  sent_one k low e = omega (arith, some_sent row 8 k low e, bit)

  pub who_sent : triggers_in row ≡ 1 → Sender row 8
  who_sent e = sender row 8 (omega (arith, e))

  -- ---- what a trigger was allowed by

  pub rule_seen : (state : ℕ) → rule_in (scene_in s log i) state
      ≡ refused_by (rules_of s) before.marks before.clock.crossings (eqb state WARN)
  unfolding scene_by
  rule_seen state =
      go (eqb state WARN)
      ∙ ap (λ (x : Settings). refused_by (rules_of x) before.marks before.clock.crossings (eqb state WARN)) (own_settings s log i)
    where
      go : (w : Bool) → if w (scene_in s log i).low (scene_in s log i).norm
          ≡ refused_by (rules_of before.settings) before.marks before.clock.crossings w
      go true = refl
      go false = refl

  free_then : (k : ℕ) → k < 8 → sends_in row k ≡ true → free_in (scene_in s log i) (crossed_in s log i k).ptc.state ≡ true
  free_then k low e =
      ⊎_elim
      (λ (q : sent_in row k ≡ true). (sent_says t c k low q).free)
      (λ (q : sent_in row k ≡ false). (cal_says t c k low (rw q at e)).free)
      (either (sent_in row k))

  pub allowed : (k : ℕ) → k < 8 → sends_in row k ≡ true → (r : ℕ) → r < 4
      → allows before.marks before.clock.crossings (warns_in row k) (rule_at s r) ≡ true
  allowed k low e r h =
      let state = (crossed_in s log i k).ptc.state in
      rw (warns_told t c k low)
      (free_allows (rules_of s) before.marks before.clock.crossings (eqb state WARN)
      (ap (λ (rule : ℕ). eqb rule 0) (sym (rule_seen state)) ∙ free_then k low e) r h)
