-- `text::read_line` meets its contract: each way through the code is one law of a line read at a place.
-- The key compared gives room for the number; the number's answer gives the value and the next place.
use mathlib.Core.Path.{◌≡◌, sym, ap, subst, ◌∙◌}
use mathlib.Core.Bool.{true, false}
use mathlib.Core.List.{List}
use Prim.Native.Nat.{ℕ, ◌+◌}
use lib.ListN.{length, drop}
use Rattle.std.specs.Prelude.{Option, Some, None, Result, Ok, Err}
use Rattle.std.specs.Option.{ok_or}
use Rattle.std.proofs.lemmas.Result.{err_from_is_err_and}
use Rattle.text.specs.declared.LineFault.{LineFault}
use Rattle.text.specs.declared.LineFault.TheVariants as fault
use Rattle.text.specs.declared.Range.{Range}
use Rattle.text.specs.Bytes.{starts}
use Rattle.text.specs.Lines.{within}
use Rattle.text.specs.Support.Seen.{seen, Within, NumberIs, LineIs}
use Rattle.text.proofs.Bytes.{starts_room}
use Rattle.text.proofs.OneLine.{no_key, no_number, out_of_range, in_range}
use Rattle.text.proofs.read_line.Goals as goal

-- the key stands there, and n is what was read after it
module _ (s : List ℕ) (at : ℕ) (h : List ℕ) (r : Range) (key : true ≡ starts h (drop at s)) (n : Option (ℕ × ℕ)) (is : NumberIs s (at + length h) r.digits n) where
  none_there : n ≡ None → (f : LineFault) → ◌≡◌ {A = Result (ℕ × ℕ) LineFault} (Err f) (ok_or n fault.Ill) → LineIs s at h r (Err f)
  none_there e f which =
      let ill : ◌≡◌ {A = Result (ℕ × ℕ) LineFault} (Err f) (Err fault.Ill) = rw e at which in
      rw ill (record { says = sym (no_number h r s at (sym key) (ap (seen s) (sym e) ∙ is.says)); inside = tt })

  module _ (p : ℕ × ℕ) (e : n ≡ Some p) where
    outside : false ≡ within r p.0 → LineIs s at h r (Err fault.Out)
    outside w = record { says = sym (out_of_range h r s at (sym key) p.0 p.1 (ap (seen s) (sym e) ∙ is.says) (sym w)); inside = tt }

    one_value : true ≡ within r p.0 → LineIs s at h r (Ok p)
    one_value w = record { says = sym (in_range h r s at (sym key) p.0 p.1 (ap (seen s) (sym e) ∙ is.says) (sym w)); inside = subst (Within s) e is.inside }

pub returns-then-not-starts_with : goal.returns-then-not-starts_with
returns-then-not-starts_with c =
    let a = c.args in
    record { says = sym (no_key a.head.now a.range a.text.now a.at (sym c.if-not-starts_with.ensures)); inside = tt }

pub read_number-requires : goal.read_number-requires
read_number-requires c =
    (starts_room c.args.head.now c.args.text.now c.args.at c.requires.0 (sym c.if-not-starts_with.ensures), c.requires.1, c.requires.2)

pub returns-in_err-v : goal.returns-in_err-v
returns-in_err-v c =
    let p = err_from_is_err_and c.from_residual.result c.from_residual.ensures.1 in
    rw (p.1, p.2) (none_there _ _ _ _ c.if-not-starts_with.ensures _ c.read_number.ensures c.in_err-v.ensures.ok_part _ c.in_err-v.ensures.value)

pub returns-then-not-holds : goal.returns-then-not-holds
returns-then-not-holds c =
    outside _ _ _ _ c.if-not-starts_with.ensures _ c.read_number.ensures _ c.in_ok-v.ensures.ok_part c.if-not-holds.ensures

pub returns : goal.returns
returns c =
    one_value _ _ _ _ c.if-not-starts_with.ensures _ c.read_number.ensures _ c.in_ok-v.ensures.ok_part c.if-not-holds.ensures
