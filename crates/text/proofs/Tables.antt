-- The round trips of a table of lines, for any table: its written text is read back, and what it reads is its written text.
-- By induction on the table, a line at a time; and what the values of an accepted text satisfy.
use mathlib.Core.Path.{◌≡◌, refl, sym, ap, ◌∙◌}
use mathlib.Core.Logic.{⊎_elim}
use mathlib.Core.Bool.{true, false, ◌&&◌}
use mathlib.Core.List.{List, [], ◌∷◌, ◌++◌, append_assoc, append-nil}
use Prim.Native.Nat.{ℕ, zero, suc, ◌<◌, ◌^◌}
use native.Mathlib.Omega.{arith}
use borrow.Author.Tests.{ltb-true}
use lib.Dec.{ltb}
use lib.ListN.{length, get_or}
use Rattle.laws.specs.Base.{all_b}
use Rattle.laws.proofs.Bools.{both}
use Rattle.laws.proofs.Tests.{either}
use Rattle.text.specs.declared.Range.{Range}
use Rattle.text.specs.Lines.{Entry, keys_of, ranges_of, line_head, line_text, lines_text, LineRead, taken, ill, out, within, read_line, all, and_then, read_lines, first_out, sensible}
use Rattle.text.proofs.OneLine.{line_back, line_written}

-- the text of a table's values is read back
pub lines_back : (ls : List Entry) (vs acc t : List ℕ) (n : ℕ) → 0 < n → sensible (ranges_of ls) ≡ true → first_out (ranges_of ls) n vs ≡ 0 → length vs ≡ length ls
    → read_lines ls acc (lines_text (keys_of ls) vs ++ t) ≡ all (acc ++ vs) t
unfolding all_b
lines_back [] [] acc t n pos good ok len = rw append-nil
lines_back [] (v ∷ vs) acc t n pos good ok len = absurd (omega arith)
lines_back (l ∷ ls) [] acc t n pos good ok len = absurd (omega arith)
lines_back (l ∷ ls) (v ∷ vs) acc t n pos good ok len =
    let r : Range = l.range in
    ⊎_elim
    (λ (w : within r v ≡ true).
    let g = both (ltb 0 r.digits && ltb r.high (10 ^ r.digits)) (sensible (ranges_of ls)) good in
    let d = both (ltb 0 r.digits) (ltb r.high (10 ^ r.digits)) g.0 in
    rw (append_assoc, line_back (line_head l.key) r v (lines_text (keys_of ls) vs ++ t) (ltb-true 0 r.digits d.0) (ltb-true r.high (10 ^ r.digits) d.1) w)
    (lines_back ls vs (acc ++ (v ∷ [])) t (suc n) (omega arith) g.1 (rw w at ok) (omega arith) ∙ ap (λ (x : List ℕ). all x t) (append_assoc acc (v ∷ []) vs)))
    (λ (w : within r v ≡ false). absurd (let z : n ≡ 0 = rw w at ok in omega arith))
    (either (within r v))

-- what is read of a table is the text of its values, and each is in range
pub record Read (ls : List Entry) (acc t ws r : List ℕ) (n : ℕ) : Type 0 where
  pub vs : List ℕ
  pub are : ws ≡ acc ++ vs
  pub text : t ≡ lines_text (keys_of ls) vs ++ r
  pub long : length vs ≡ length ls
  pub inside : first_out (ranges_of ls) n vs ≡ 0

one_line : (l : Entry) (ls : List Entry) (acc t ws r : List ℕ) (n v : ℕ) (u : List ℕ) → read_line (line_head l.key) l.range t ≡ taken v u
    → Read ls (acc ++ (v ∷ [])) u ws r (suc n) → Read (l ∷ ls) acc t ws r n
one_line l ls acc t ws r n v u is rest =
    let w = line_written (line_head l.key) l.range v t u is in
    let first : List ℕ = line_text (line_head l.key) v in
    record {
      vs = v ∷ rest.vs;
      are = rest.are ∙ append_assoc acc (v ∷ []) rest.vs;
      text = w.0 ∙ ap (λ (x : List ℕ). first ++ x) rest.text ∙ sym (append_assoc first (lines_text (keys_of ls) rest.vs) r);
      long = ap suc rest.long;
      inside = rw w.1 rest.inside;
    }

pub lines_written : (ls : List Entry) (acc t ws r : List ℕ) (n : ℕ) → read_lines ls acc t ≡ all ws r → Read ls acc t ws r n
lines_written [] acc t ws r n e = record { vs = []; are = cc (append-nil acc); text = cc; long = refl; inside = refl }
lines_written (l ∷ ls) acc t ws r n e = go (read_line (line_head l.key) l.range t) refl e (λ v u. lines_written ls (acc ++ (v ∷ [])) u ws r (suc n))
  where
    go : (k : LineRead) → read_line (line_head l.key) l.range t ≡ k → and_then k (suc (length acc)) (λ v u. read_lines ls (acc ++ (v ∷ [])) u) ≡ all ws r
        → ((v : ℕ) (u : List ℕ) → read_lines ls (acc ++ (v ∷ [])) u ≡ all ws r → Read ls (acc ++ (v ∷ [])) u ws r (suc n)) → Read (l ∷ ls) acc t ws r n
    go (taken v u) is e on = one_line l ls acc t ws r n v u is (on v u e)
    go ill is e on = absurd (let z : ◌≡◌ {A = ℕ} 0 1 = cc in omega arith)
    go out is e on = absurd (let z : ◌≡◌ {A = ℕ} 0 1 = cc in omega arith)

-- values that are all in range: the first is, and so are the others
pub first_in : (r : Range) (rs : List Range) (v : ℕ) (vs : List ℕ) (k : ℕ) → 0 < k → first_out (r ∷ rs) k (v ∷ vs) ≡ 0
    → (within r v ≡ true) × (first_out rs (suc k) vs ≡ 0)
first_in r rs v vs k some e =
    ⊎_elim
    (λ (w : within r v ≡ true). (w, rw w at e))
    (λ (w : within r v ≡ false). absurd (let z : k ≡ 0 = rw w at e in omega arith))
    (either (within r v))

-- so each is, at its line
pub in_range_at : (rs : List Range) (vs : List ℕ) (k : ℕ) → 0 < k → first_out rs k vs ≡ 0 → (n : ℕ) (d : Range) → n < length rs → within (get_or rs n d) (get_or vs n 0) ≡ true
in_range_at [] vs k some e n d h = absurd (omega arith)
in_range_at (r ∷ rs) [] k some e n d h = absurd (omega arith)
in_range_at (r ∷ rs) (v ∷ vs) k some e zero d h = (first_in r rs v vs k some e).0
in_range_at (r ∷ rs) (v ∷ vs) k some e (suc n) d h = in_range_at rs vs (suc k) (omega arith) (first_in r rs v vs k some e).1 n d (omega arith)

-- and the other way
pub all_in_range : (rs : List Range) (vs : List ℕ) (k : ℕ) (d : Range) → length vs ≡ length rs
    → ((n : ℕ) → n < length rs → within (get_or rs n d) (get_or vs n 0) ≡ true) → first_out rs k vs ≡ 0
all_in_range [] vs k d long each = refl
all_in_range (r ∷ rs) [] k d long each = absurd (omega arith)
all_in_range (r ∷ rs) (v ∷ vs) k d long each =
    rw (each 0 (omega arith)) (all_in_range rs vs (suc k) d (omega arith) (λ n h. each (suc n) (omega arith)))
