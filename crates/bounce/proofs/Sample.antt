-- The worked logs meet the premises of the claim, and 8 stays believed.
-- Each of their four records is computed.
use mathlib.Core.Path.{◌≡◌, refl}
use mathlib.Core.Logic.{◌⊎◌, inl, inr}
use Prim.Native.Nat.{ℕ, zero, suc, ◌+◌, ◌/◌, ◌<◌}
use native.Mathlib.Omega.{arith}
use borrow.Author.Tests.{ne_eqb}
use lib.ListN.{get_or}
use Rattle.status.specs.Codes.{code_at}
use Rattle.steady.specs.Steady.{steady}
use Rattle.records.specs.Records.{rec_at, codes_in}
use Rattle.bounce.specs.Input.{code_now, code_before, believed_before}
use Rattle.bounce.specs.Bounce.{NothingNew, Alike, gtfe, firm, loose, Sample}

each : (P : ℕ → Type 0) → P 0 → P 1 → P 2 → P 3 → (i : ℕ) → i < 4 → P i
each P p q r t zero h = p
each P p q r t (suc zero) h = q
each P p q r t (suc (suc zero)) h = r
each P p q r t (suc (suc (suc zero))) h = t
each P p q r t (suc (suc (suc (suc i)))) h = absurd (omega arith)

head : (c d n : ℕ) → n < 3 → get_or (gtfe c) n 0 ≡ get_or (gtfe d) n 0
head c d zero h = refl
head c d (suc zero) h = refl
head c d (suc (suc zero)) h = refl
head c d (suc (suc (suc n))) h = absurd (omega arith)

other : (c d y : ℕ) → (y ≡ 40 → ⊥) → code_at (codes_in (gtfe c)) y ≡ code_at (codes_in (gtfe d)) y
unfolding code_at
other c d y h = let later : 1 + y / 2 ≡ suc (y / 2) = omega arith in rw (ne_eqb y 40 h, later)

heads : (i : ℕ) → i < 4 → (n : ℕ) → n < 3 → get_or (rec_at firm i) n 0 ≡ get_or (rec_at loose i) n 0
heads = each _ (head 8 8) (head 8 8) (head 8 0) (head 8 8)

others : (i : ℕ) → i < 4 → (y : ℕ) → (y ≡ 40 → ⊥) → code_now firm y i ≡ code_now loose y i
others = each _ (other 8 8) (other 8 8) (other 8 0) (other 8 8)

apart : (i : ℕ) → i < 4 → Alike 40 firm loose i ⊎ ((NothingNew 40 firm i) × (NothingNew 40 loose i))
unfolding code_at code_before believed_before steady
apart =
    each _
    (inl (record { now = refl; before = refl }))
    (inl (record { now = refl; before = refl }))
    (inr (λ e. refl, λ e. e))
    (inr (λ e. refl, λ e. refl))

pub sample : Sample
unfolding code_at code_before believed_before steady
sample =
    record {
      only = record { long = refl; heads = λ i n h. heads i h n; others = λ i y c low. others i c.among y };
      apart = λ i c. apart i c.among;
      believed = refl;
    }
