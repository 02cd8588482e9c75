-- `clock::Turn::is_sound` meets its contract: a holder with a slot, or none and every slot 0.
-- Each way rewrites with its tests and with what the calls ensure.
use borrow.Author.Tests.{lt-ltb, le-ltb, ne_eqb}
use Rattle.clock.specs.Turn.{sound_turn}
use Rattle.clock.proofs.Turn.is_sound.Goals as goal

pub returns-then-self-lt8 : goal.returns-then-self-lt8
unfolding sound_turn
returns-then-self-lt8 c = rw (c.is_held.ensures, lt-ltb _ _ c.if-self-lt8.true)

pub returns-then-self-ne8 : goal.returns-then-self-ne8
unfolding sound_turn
returns-then-self-ne8 c = rw (le-ltb _ _ c.if-self-lt8.false, ne_eqb _ _ c.if-self-ne8.true)

pub returns-then-self-ne0 : goal.returns-then-self-ne0
unfolding sound_turn
returns-then-self-ne0 c = rw (le-ltb _ _ c.if-self-lt8.false, c.if-self-ne8.false, ne_eqb _ _ c.if-self-ne0.true)

pub returns : goal.returns
unfolding sound_turn
returns c = rw (c.no_slots.ensures, le-ltb _ _ c.if-self-lt8.false, c.if-self-ne8.false, c.if-self-ne0.false)
