-- `text::put_number` meets its contract: the digits that are left, laid from the same place, make what the whole number makes.
-- A turn lays the last digit of what is left; a number of one digit is that digit.
use mathlib.Core.Path.{◌≡◌, refl, sym, ◌∙◌}
use mathlib.Core.List.{List, []}
use Prim.Native.Nat.{ℕ, suc, ◌+◌, ◌-◌, ◌/◌, ◌%◌, ◌≤◌, ◌<◌}
use native.Mathlib.Omega.{arith}
use lib.ListN.{length, set, length-set}
use Rattle.text.specs.Bytes.{put}
use Rattle.text.specs.Decimal.{decimal}
use Rattle.text.proofs.Bytes.{put_nil, put_cons, put_last}
use Rattle.text.proofs.Decimal.{decimal_small, one_digit, last_digits, length_last, all_digits}
use Rattle.text.proofs.put_number.Goals as goal

start : (d : List ℕ) (at n w : ℕ) → w ≡ length (decimal n) → put d at (last_digits (at + w - at) n) ≡ put d at (decimal n)
start d at n w e = let all : at + w - at ≡ length (decimal n) = omega arith in rw (all, all_digits)

turn : (d : List ℕ) (at p r : ℕ) → at < p → p ≤ length d → put (set d (p - 1) (48 + r % 10)) at (last_digits (p - 1 - at) (r / 10)) ≡ put d at (last_digits (p - at) r)
turn d at p r more room =
    let k : ℕ = p - 1 - at in
    let here : at + length (last_digits k (r / 10)) ≡ p - 1 = omega (arith, length_last k (r / 10)) in
    let inside : at + length (last_digits k (r / 10)) < length d = omega arith in
    let one : p - at ≡ suc k = omega arith in
    rw (one, put_last d at (last_digits k (r / 10)) (48 + r % 10) inside, here)

finish : (d : List ℕ) (at p r : ℕ) → p ≤ at → put d at (last_digits (p - at) r) ≡ d
finish d at p r done = let none : p - at ≡ 0 = omega arith in rw (none, put_nil)

alone : (d : List ℕ) (at n : ℕ) → n < 10 → at < length d → set d at (48 + n) ≡ put d at (decimal n)
alone d at n h room = rw (decimal_small n h, put_cons d at (48 + n) [] room, put_nil)

pub bounds-out-at : goal.bounds-out-at
bounds-out-at c = omega (arith, one_digit c.args.n c.if-n-lt10.true, c.requires)

pub returns-then-n-lt10 : goal.returns-then-n-lt10
returns-then-n-lt10 c =
    let h = c.if-n-lt10.true in
    let w = one_digit c.args.n h in
    (rw w, alone _ _ _ h (omega (arith, w, c.requires)))

pub loop-p-init : goal.loop-p-init
loop-p-init c = (refl, start _ _ _ _ c.width.ensures)

pub loop-p-preserved : goal.loop-p-preserved
loop-p-preserved c =
    let i = c.loop-p.invariant in
    (simp length-set i.0, turn _ _ _ _ c.loop-p-test.true (omega arith) ∙ i.1)

pub returns : goal.returns
returns c = (omega arith, sym (finish _ _ _ _ (omega arith)) ∙ c.loop-p.invariant.1)
