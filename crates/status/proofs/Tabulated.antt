-- What `array::from_fn` makes is the table of what its closure answers, where a call leaves the closure as it was.
-- By induction on the calls, each of which gives the element at its place.
use Rattle.std.proofs.Common.{◌≡◌, refl, sym, ◌∙◌, ℕ, zero, suc, ◌+◌, ◌<◌, List, get_or, arith, not-suc-le-zero, le_of_suc-le-suc, ext_get_or, add-zero, zero-add}
use Rattle.std.specs.Array.{IsFromFnResult, IsFromFnResultFrom}
use denote.Param.Members.{Mut, Called}
use Rattle.laws.specs.Base.{tabulate}
use Rattle.laws.proofs.Over.{length_tabulate, get_d_tabulate}

module _ {F B : Type 0} {g : Mut F (ℕ × Unit {0}) B} {f : F} (h : ℕ → B) (gives : (i : ℕ) (y : B) (q : F) → Called g f (i, tt) y q → (q ≡ f) × (y ≡ h i)) where
  each : (ys : List B) (d : B) (p : F) (i n : ℕ) → p ≡ f → IsFromFnResultFrom g p ys i n → (k : ℕ) → k < n → get_or ys (i + k) d ≡ h (i + k)
  each ys d p i zero same r k l = absurd (not-suc-le-zero l)
  each ys d p i (suc n) same r zero l = rw add-zero (r.2.1 d ∙ (gives i r.1 r.0 (rw same at r.3)).1)
  each ys d p i (suc n) same r (suc k) l =
      let next : i + suc k ≡ i + 1 + k = omega arith in
      rw next (each ys d r.0 (i + 1) n (gives i r.1 r.0 (rw same at r.3)).0 r.4 k (le_of_suc-le-suc l))

  -- d is any value: it stands for what lies past the end
  pub tabulated : (d : B) {ys : List B} {n : ℕ} → IsFromFnResult g f ys n → ys ≡ tabulate h 0 n
  tabulated d {ys} {n} r =
      ext_get_or d ys (tabulate h 0 n) (r.long ∙ sym (length_tabulate h 0 n))
      (λ k l.
      let below : k < n = rw r.long at l in
      let made : get_or ys k d ≡ h k = rw zero-add at (each ys d f 0 n refl r.each k below) in
      made ∙ sym (rw zero-add at (get_d_tabulate h 0 n k d below)))
