-- The loop over those that are due: after it each of the eight, each byte and each status is what the crossing makes of it.
-- The first k are done already (`over`); between one that is due and the next, nobody is changed, sends or shows anything else.
use mathlib.Core.Path.{◌≡◌, refl, ap, sym, ◌∙◌}
use mathlib.Core.Logic.{⊎_elim}
use mathlib.Core.Bool.{Bool, true, false, ◌&&◌}
use mathlib.Core.List.{List}
use Prim.Native.Nat.{ℕ, ◌+◌, ◌-◌, ◌≤◌, ◌<◌}
use native.Mathlib.Nat.{not-suc-le-zero}
use native.Mathlib.Omega.{arith}
use lib.ListN.{length, get_or, set, replicate, get_or-replicate}
use Rattle.laws.specs.Base.{map_i}
use Rattle.laws.proofs.Bools.{both}
use Rattle.laws.proofs.Tests.{lt_or_ge}
use Rattle.laws.proofs.Over.{over, over_read, over_turn, over_skip, over_whole}
use Rattle.states.specs.Names.{status_of}
use Rattle.ptc.specs.declared.Ptc.{Ptc}
use Rattle.ptc.specs.declared.Plan.{Plan}
use Rattle.ptc.specs.declared.Scene.{Scene}
use Rattle.ptc.specs.declared.Crossed.{Crossed}
use Rattle.ptc.specs.Support.Rest.{at_rest}
use Rattle.ptc.specs.Fresh.{fresh_ptc}
use Rattle.records.specs.Records.{asked_in}
use Rattle.records.specs.Rows.{row_byte}
use Rattle.eight.specs.Eight.{act_of, ptc_of, byte_of, shown_of}
use Rattle.still.specs.Support.Still.{next_due}
use Rattle.still.proofs.Passing.{next_after, next_most, next_skips}

-- whoever is not due is at rest, shows what it showed, and the crossing leaves it as it is
pub record Quiet (plans : ℕ → Plan) (scene : Scene) (classes : List ℕ) (requests due : ℕ) (ps : List Ptc) (shown : List ℕ) (j : ℕ) : Type 0 where
  pub rests : at_rest (get_or classes j 0) (get_or ps j fresh_ptc) ≡ true
  pub shows : status_of (get_or ps j fresh_ptc).state ≡ get_or shown j 0
  pub stays : act_of (plans j) scene classes requests j (get_or ps j fresh_ptc) ≡ record { ptc = get_or ps j fresh_ptc; code = 0; sent = false; cal = false }

module _ (plans : ℕ → Plan) (scene : Scene) (classes : List ℕ) (requests due : ℕ) (ps : List Ptc) (shown₀ : List ℕ) where
  -- the state of the loop at controller k
  pub record Acting (k : ℕ) (cur : List Ptc) (bytes shown : List ℕ) (calm : Bool) : Type 0 where
    pub most : k ≤ 8
    pub ptcs : cur ≡ over k (map_i (λ k. ptc_of (plans k) scene classes requests k) 0 ps) ps
    pub sends : bytes ≡ over k (map_i (λ k. byte_of (plans k) scene classes requests k) 0 ps) (replicate 8 0)
    pub shows : shown ≡ over k (map_i (λ k. shown_of (plans k) scene classes requests k) 0 ps) shown₀
    pub rests : calm ≡ true → (j : ℕ) → j < k → at_rest (get_or classes j 0) (ptc_of (plans j) scene classes requests j (get_or ps j fresh_ptc)) ≡ true

  -- and after the last
  pub record Acted (cur : List Ptc) (bytes shown : List ℕ) (calm : Bool) : Type 0 where
    pub ptcs : cur ≡ map_i (λ k. ptc_of (plans k) scene classes requests k) 0 ps
    pub sends : bytes ≡ map_i (λ k. byte_of (plans k) scene classes requests k) 0 ps
    pub shows : shown ≡ map_i (λ k. shown_of (plans k) scene classes requests k) 0 ps
    pub rests : calm ≡ true → (j : ℕ) → j < 8 → at_rest (get_or classes j 0) (ptc_of (plans j) scene classes requests j (get_or ps j fresh_ptc)) ≡ true

  module _ (long : length ps ≡ 8) (wide : length shown₀ ≡ 8) (low : due < 256)
      (quiet : (j : ℕ) → j < 8 → asked_in due j ≡ false → Quiet plans scene classes requests due ps shown₀ j) where
    -- from k on to the next that is due
    skips : (k : ℕ) (cur : List Ptc) (bytes shown : List ℕ) (calm : Bool) → k ≤ 8 → Acting k cur bytes shown calm → Acting (next_due due k) cur bytes shown calm
    unfolding byte_of shown_of row_byte
    skips k cur bytes shown calm h a =
        let next : ℕ = next_due due k in
        let after = next_after due k low h in
        let most = next_most due k low h in
        let whole : k + (next - k) ≡ next = omega arith in
        let at : (j : ℕ) → k ≤ j → j < next → Quiet plans scene classes requests due ps shown₀ j = λ j p q. quiet j (omega arith) (next_skips due k low h j p q) in
        let from : (j : ℕ) → k ≤ j → j < k + (next - k) → Quiet plans scene classes requests due ps shown₀ j = λ j p q. at j p (rw whole at q) in
        record {
          most = most;
          ptcs = a.ptcs
              ∙ rw whole at (over_skip (λ k. ptc_of (plans k) scene classes requests k) ps fresh_ptc ps fresh_ptc k (next - k) (omega arith) (omega arith)
              (λ j p q. ap (λ (o : Crossed). o.ptc) (from j p q).stays));
          sends = a.sends
              ∙ rw whole at (over_skip (λ k. byte_of (plans k) scene classes requests k) ps fresh_ptc (replicate 8 0) 0 k (next - k) (omega arith) (omega arith)
              (λ j p q. rw (from j p q).stays (sym (get_or-replicate {A = ℕ} 8 j 0 0 (omega arith)))));
          shows = a.shows
              ∙ rw whole at (over_skip (λ k. shown_of (plans k) scene classes requests k) ps fresh_ptc shown₀ 0 k (next - k) (omega arith) (omega arith)
              (λ j p q. rw (from j p q).stays (from j p q).shows));
          rests = λ c j q.
              ⊎_elim
              (λ (p : j < k). a.rests c j p)
              (λ (p : k ≤ j). ap (λ (o : Crossed). at_rest (get_or classes j 0) o.ptc) (at j p q).stays ∙ (at j p q).rests)
              (lt_or_ge j k);
        }

    pub acting_first : (cur : List Ptc) (bytes shown : List ℕ) (next : ℕ) → cur ≡ ps → bytes ≡ replicate 8 0 → shown ≡ shown₀ → next ≡ next_due due 0
        → Acting next cur bytes shown true
    unfolding over
    acting_first cur bytes shown next p b s n =
        rw n (skips 0 cur bytes shown true (omega arith)
        (record { most = omega arith; ptcs = p; sends = b; shows = s; rests = λ c j h. absurd (not-suc-le-zero h) }))

    module _ (k : ℕ) (cur : List Ptc) (bytes shown : List ℕ) (calm : Bool) (h : k < 8) (a : Acting k cur bytes shown calm) where
      -- the controller that is copied out
      pub acting_at : get_or cur k fresh_ptc ≡ get_or ps k fresh_ptc
      acting_at = over_read (λ k. ptc_of (plans k) scene classes requests k) ps k fresh_ptc cur (rw long h) a.ptcs

      pub acting_next : (o : Crossed) (byte status next : ℕ) (rests rested : Bool) → o ≡ act_of (plans k) scene classes requests k (get_or cur k fresh_ptc)
          → byte ≡ row_byte o.code o.sent o.cal → status ≡ status_of o.ptc.state → rests ≡ at_rest (get_or classes k 0) o.ptc → rested ≡ (calm && rests)
          → next ≡ next_due due (k + 1) → Acting next (set cur k o.ptc) (set bytes k byte) (set shown k status) rested
      unfolding byte_of shown_of
      acting_next o byte status next rests rested e b s r c n =
          let is : o ≡ act_of (plans k) scene classes requests k (get_or ps k fresh_ptc) = e ∙ ap (λ (p : Ptc). act_of (plans k) scene classes requests k p) acting_at in
          rw n (skips (k + 1) _ _ _ rested (omega arith)
          (record {
            most = omega arith;
            ptcs = over_turn (λ k. ptc_of (plans k) scene classes requests k) ps k fresh_ptc cur ps o.ptc (rw long h) (rw long h) a.ptcs (ap (λ (x : Crossed). x.ptc) is);
            sends = over_turn (λ k. byte_of (plans k) scene classes requests k) ps k fresh_ptc bytes (replicate 8 0) byte (rw long h) h a.sends (b ∙ rw is);
            shows = over_turn (λ k. shown_of (plans k) scene classes requests k) ps k fresh_ptc shown shown₀ status (rw long h) (rw wide h) a.shows (s ∙ rw is);
            rests = λ z j q.
                let w = both calm rests (sym c ∙ z) in
                ⊎_elim
                (λ (p : j < k). a.rests w.0 j p)
                (λ (p : k ≤ j).
                let here : j ≡ k = omega arith in
                rw here (ap (λ (x : Crossed). at_rest (get_or classes k 0) x.ptc) (sym is) ∙ sym r ∙ w.1))
                (lt_or_ge j k);
          }))

    pub acting_last : (k : ℕ) (cur : List Ptc) (bytes shown : List ℕ) (calm : Bool) → 8 ≤ k → Acting k cur bytes shown calm → Acted cur bytes shown calm
    acting_last k cur bytes shown calm h a =
        let all : k ≡ 8 = omega (arith, a.most) in
        record {
          ptcs = over_whole (λ k. ptc_of (plans k) scene classes requests k) ps cur ps 8 long long (rw all at a.ptcs);
          sends = over_whole (λ k. byte_of (plans k) scene classes requests k) ps bytes (replicate 8 0) 8 long refl (rw all at a.sends);
          shows = over_whole (λ k. shown_of (plans k) scene classes requests k) ps shown shown₀ 8 long wide (rw all at a.shows);
          rests = rw all at a.rests;
        }
