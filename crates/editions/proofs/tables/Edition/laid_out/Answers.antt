-- `editions::tables::Edition::laid_out` meets its contract: each value is the number on the line that gives it, which is one of the edition's.
-- By induction on the calls of the closure, each of which leaves it as it was and gives the value at its place.
use mathlib.Core.Path.{◌≡◌, refl, sym, ap, ◌∙◌}
use mathlib.Core.List.{List}
use Prim.Native.Nat.{ℕ, zero, suc, ◌+◌, ◌<◌}
use native.Mathlib.Nat.{add-zero, zero-add, not-suc-le-zero, le_of_suc-le-suc}
use native.Mathlib.Omega.{arith}
use borrow.Author.Rules.{rules}
use denote.Param.Members.{Mut, Called}
use lib.ListN.{get_or}
use lib.Seq.{ext_get_or, get_or-take}
use Rattle.std.specs.Array.{IsFromFnResult, IsFromFnResultFrom}
use Rattle.laws.specs.Base.{tabulate}
use Rattle.laws.proofs.Over.{length_tabulate, get_d_tabulate}
use Rattle.editions.specs.declared.tables.Edition.{Edition}
use Rattle.editions.specs.Read.{laid_out}
use Rattle.editions.specs.Support.Tables.{number_of, count_of, numbers_in, source_of}
use Rattle.editions.proofs.Known.{known_edition, source_inside}
use Rattle.editions.proofs.tables.Edition.laid_out.Goals as goal

-- the value at a place, which is that of a line of the edition
value : Edition → List ℕ → ℕ → ℕ
value e numbers n = get_or (numbers_in e numbers) (source_of (number_of e) n) 0

module _ (e : Edition) (numbers : List ℕ) {F : Type 0} (g : Mut F (ℕ × Unit {0}) ℕ) (f : F)
    (gives : (i y : ℕ) (q : F) → Called g f (i, tt) y q → (q ≡ f) × (y ≡ get_or numbers (source_of (number_of e) i) 0)) (values : List ℕ) where
  each : (p : F) (i n : ℕ) → p ≡ f → IsFromFnResultFrom g p values i n → (k : ℕ) → k < n → get_or values (i + k) 0 ≡ get_or numbers (source_of (number_of e) (i + k)) 0
  each p i zero same r k l = absurd (not-suc-le-zero l)
  each p i (suc n) same r zero l = rw add-zero (r.2.1 0 ∙ (gives i r.1 r.0 (rw same at r.3)).1)
  each p i (suc n) same r (suc k) l =
      let next : i + suc k ≡ i + 1 + k = omega arith in
      rw next (each r.0 (i + 1) n (gives i r.1 r.0 (rw same at r.3)).0 r.4 k (le_of_suc-le-suc l))

  all_laid : IsFromFnResult g f values 147 → record { values = values } ≡ laid_out (number_of e) (numbers_in e numbers)
  unfolding value
  all_laid r =
      let k = known_edition e in
      let here : (n : ℕ) → n < 147 → get_or values n 0 ≡ value e numbers n = λ n h.
      rw zero-add at (each f 0 147 refl r.each n h) ∙ sym (get_or-take (count_of (number_of e)) numbers (source_of (number_of e) n) 0 (source_inside (number_of e) k n h)) in
      ap (λ (vs : List ℕ). record { values = vs })
      (ext_get_or 0 values (tabulate (value e numbers) 0 147) (r.long ∙ sym (length_tabulate (value e numbers) 0 147))
      (λ n h. let few : n < 147 = omega (arith, r.long) in here n few ∙ sym (get_d_tabulate (value e numbers) 0 147 n 0 few ∙ rw zero-add))
      ∙ sym (k.laid (numbers_in e numbers)))

pub returns : goal.returns
returns c = all_laid c.args.self c.args.numbers.now _ _ (λ i y q k. search rules) _ c.from_fn.ensures.items
