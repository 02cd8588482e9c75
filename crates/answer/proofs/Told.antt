-- `told` loses nothing: two answers that tell the same are the same, so a contract by `told` determines the code's answer.
-- `answer_of` reads the answer back from its number and what it carries. An answer is `Ok` exactly where it tells a success.
use Rattle.std.specs.Prelude.{true, false, [], ◌∷◌, Ok, Err, is_ok, is_err, not}
use mathlib.Core.Path.{◌≡◌, refl, sym, ap, ◌∙◌}
use mathlib.Core.Bool.{false≢true}
use Prim.Native.Nat.{ℕ, zero, suc, ◌≤◌, ◌<◌}
use native.Mathlib.Omega.{arith}
use lib.ListN.{get_or}
use Rattle.answer.specs.declared.Refusal.{Refusal}
use Rattle.answer.specs.declared.Refusal.TheVariants.{Text, Range, Relation, Board, Length, Room, Record, Life, Store}
use Rattle.answer.specs.Told.{Told, Answer, told, told_refusal, succeeded, DONE, unless}

unfoldable answer_of : Told → Answer
answer_of t =
    let value : ℕ = get_or t.carries 0 0 in
    let second : ℕ = get_or t.carries 1 0 in
    get_or (
    Ok tt ∷ Err (Text value) ∷ Err (Range value) ∷ Err (Relation value second) ∷ Err Board ∷ Err Length ∷ Err (Room value) ∷ Err (Record value)
    ∷ Err Life ∷ Err Store ∷ []) t.number (Ok tt)

refused_back : (r : Refusal) → answer_of (told_refusal r) ≡ Err r
unfolding answer_of
refused_back (Text line) = refl
refused_back (Range line) = refl
refused_back (Relation which controller) = refl
refused_back Board = refl
refused_back Length = refl
refused_back (Room needed) = refl
refused_back (Record index) = refl
refused_back Life = refl
refused_back Store = refl

back : (a : Answer) → answer_of (told a) ≡ a
unfolding answer_of
back (Ok done) = refl
back (Err r) = refused_back r

pub told_one : (a b : Answer) → told a ≡ told b → a ≡ b
told_one a b e = sym (back a) ∙ ap answer_of e ∙ back b

-- no refusal tells a success
pub refused : (r : Refusal) → succeeded (told_refusal r) ≡ false
refused (Text line) = refl
refused (Range line) = refl
refused (Relation which controller) = refl
refused Board = refl
refused Length = refl
refused (Room needed) = refl
refused (Record index) = refl
refused Life = refl
refused Store = refl

pub is_ok_told : (a : Answer) → is_ok a ≡ succeeded (told a)
is_ok_told (Ok done) = refl
is_ok_told (Err r) = sym (refused r)

pub is_err_told : (a : Answer) → succeeded (told a) ≡ not (is_err a)
is_err_told (Ok done) = refl
is_err_told (Err r) = refused r

-- a success tells nothing more
pub told_done : (a : Answer) → succeeded (told a) ≡ true → told a ≡ DONE
told_done (Ok done) e = refl
told_done (Err r) e = absurd (false≢true (sym (refused r) ∙ e))

pub not_done : (t : Told) → 0 < t.number → t ≡ DONE → ⊥
not_done t some e = let z : t.number ≡ 0 = ap (λ (x : Told). x.number) e in omega arith

-- a fault decides, and none leaves the answer to what comes later
module _ (refusal : ℕ → Told) (later : Told) where
  pub faulty : (n : ℕ) → 0 < n → unless refusal n later ≡ refusal n
  faulty zero h = absurd (omega arith)
  faulty (suc n) h = refl

  pub faultless : (n : ℕ) → n ≤ 0 → unless refusal n later ≡ later
  faultless zero h = refl
  faultless (suc n) h = absurd (omega arith)
