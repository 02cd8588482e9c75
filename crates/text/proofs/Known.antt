-- What is said of a number and of a line that were read determines the answer: the value stands in it, and the place after it is told
-- by what follows there, since both places lie within the text.
use mathlib.Core.Path.{◌≡◌, refl, sym, ap, ap₂, ◌∙◌}
use mathlib.Core.List.{List}
use Prim.Native.Nat.{ℕ, ◌≤◌}
use native.Mathlib.Omega.{arith}
use lib.ListN.{length, drop, length-drop}
use Rattle.std.specs.Prelude.{Option, Some, None, Result, Ok, Err}
use Rattle.text.specs.declared.LineFault.{LineFault}
use Rattle.text.specs.declared.LineFault.TheVariants as fault
use Rattle.text.specs.declared.Range.{Range}
use Rattle.text.specs.Support.Seen.{seen, Within, NumberIs, line_seen, LineWithin, LineIs}

same : (a b : ℕ × ℕ) → a.0 ≡ b.0 → a.1 ≡ b.1 → a ≡ b
same a b = ap₂ (λ (v n : ℕ). (v, n))

module _ (s : List ℕ) where
  one_place : (m n : ℕ) → m ≤ length s → n ≤ length s → drop m s ≡ drop n s → m ≡ n
  one_place m n p q e = omega (arith, simp length-drop at (ap length e))

  seen_one : (a b : Option (ℕ × ℕ)) → seen s a ≡ seen s b → Within s a → Within s b → a ≡ b
  seen_one (Some a) (Some b) e p q = ap Some (same a b (cc) (one_place a.1 b.1 p q (cc)))
  seen_one (Some a) None e p q = cc
  seen_one None (Some b) e p q = cc
  seen_one None None e p q = refl

  line_one : (a b : Result (ℕ × ℕ) LineFault) → line_seen s a ≡ line_seen s b → LineWithin s a → LineWithin s b → a ≡ b
  line_one (Ok a) (Ok b) e p q = ap Ok (same a b (cc) (one_place a.1 b.1 p q (cc)))
  line_one (Ok a) (Err fault.Ill) e p q = cc
  line_one (Ok a) (Err fault.Out) e p q = cc
  line_one (Err fault.Ill) (Ok b) e p q = cc
  line_one (Err fault.Ill) (Err fault.Ill) e p q = refl
  line_one (Err fault.Ill) (Err fault.Out) e p q = cc
  line_one (Err fault.Out) (Ok b) e p q = cc
  line_one (Err fault.Out) (Err fault.Ill) e p q = cc
  line_one (Err fault.Out) (Err fault.Out) e p q = refl

  -- the contract of `read_number` permits one answer
  pub number_known : (at k : ℕ) (a b : Option (ℕ × ℕ)) → NumberIs s at k a → NumberIs s at k b → a ≡ b
  number_known at k a b p q = seen_one a b (p.says ∙ sym q.says) p.inside q.inside

  -- and so does that of `read_line`
  pub line_known : (at : ℕ) (h : List ℕ) (r : Range) (a b : Result (ℕ × ℕ) LineFault) → LineIs s at h r a → LineIs s at h r b → a ≡ b
  line_known at h r a b p q = line_one a b (p.says ∙ sym q.says) p.inside q.inside
