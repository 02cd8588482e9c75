-- `settings::Rules::lows_fit` meets its contract: the three answers, joined.
-- Each way rewrites with what the calls ensure and which way the tests went.
use mathlib.Core.Path.{◌≡◌, sym, ◌∙◌}
use mathlib.Core.Bool.{Bool, true, false, ◌&&◌}
use Rattle.settings.proofs.names.Rules.lows_fit.Goals as goal

module _ (second third fourth a b c : Bool) (A : a ≡ second) (B : b ≡ third) (C : c ≡ fourth) where
  all_three : a ≡ true → b ≡ true → c ≡ (second && (third && fourth))
  all_three e f = C ∙ sym (rw (← A, ← B, e, f))

  not_third : a ≡ true → b ≡ false → b ≡ (second && (third && fourth))
  not_third e f = f ∙ sym (rw (← A, ← B, e, f))

  not_second : a ≡ false → a ≡ (second && (third && fourth))
  not_second e = e ∙ sym (rw (← A, e))

pub returns-then-third : goal.returns-then-third
returns-then-third c =
    all_three _ _ _ _ _ _ c.low_fits.ensures c.low_fits-third.ensures c.low_fits-fourth.ensures c.if-low_fits.true c.if-third.true

pub returns-else-third : goal.returns-else-third
returns-else-third c =
    not_third _ _ _ _ _ _ c.low_fits.ensures c.low_fits-third.ensures c.low_fits-fourth.ensures c.if-low_fits.true c.if-third.false

pub returns-else-low_fits : goal.returns-else-low_fits
returns-else-low_fits c =
    not_second _ _ _ _ _ _ c.low_fits.ensures c.low_fits-third.ensures c.low_fits-fourth.ensures c.if-low_fits.false
