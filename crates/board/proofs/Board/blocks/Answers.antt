-- `board::Board::blocks` meets its contract: a board that is not sound is refused; of any other the records found in order are run.
-- What the run asks and gives back are laws of the blocks in one call.
use mathlib.Core.Path.{◌≡◌, sym, ◌∙◌}
use mathlib.Core.Bool.{true}
use native.Mathlib.Omega.{arith}
use Rattle.board.specs.Sound.{sound_board}
use Rattle.board.specs.Support.Blocks.{blocks_of}
use Rattle.board.proofs.Settled.{sound_life}
use Rattle.board.proofs.OneCall.{tested_within, part_long, run_asked, ran_is}
use Rattle.board.proofs.Board.blocks.Goals as goal

pub returns-then-not-is_sound : goal.returns-then-not-is_sound
unfolding blocks_of
returns-then-not-is_sound c = rw (sym c.is_sound.ensures ∙ c.if-not-is_sound.true)

pub test_blocks-tested-requires : goal.test_blocks-tested-requires
test_blocks-tested-requires c = sound_life _ (sym c.is_sound.ensures ∙ c.if-not-is_sound.false)

pub overflow_mul-tested : goal.overflow_mul-tested
overflow_mul-tested c =
    let sound : sound_board c.args.self.now ≡ true = sym c.is_sound.ensures ∙ c.if-not-is_sound.false in
    let a = c.args in
    omega (arith, (tested_within a.self.now a.log.now a.rows.now sound c.test_blocks-tested.result c.test_blocks-tested.ensures).within)

pub slice_bounds-run-end : goal.slice_bounds-run-end
slice_bounds-run-end c =
    let sound : sound_board c.args.self.now ≡ true = sym c.is_sound.ensures ∙ c.if-not-is_sound.false in
    let a = c.args in
    sym (part_long a.self.now a.log.now a.rows.now sound c.test_blocks-tested.result c.test_blocks-tested.ensures)

pub run-requires : goal.run-requires
run-requires c =
    let sound : sound_board c.args.self.now ≡ true = sym c.is_sound.ensures ∙ c.if-not-is_sound.false in
    let a = c.args in
    run_asked a.self.now a.log.now a.rows.now sound c.test_blocks-tested.result c.test_blocks-tested.ensures

pub returns : goal.returns
returns c =
    let sound : sound_board c.args.self.now ≡ true = sym c.is_sound.ensures ∙ c.if-not-is_sound.false in
    let a = c.args in
    let e = c.run.ensures in
    ran_is a.self.now a.log.now a.rows.now sound c.test_blocks-tested.result c.test_blocks-tested.ensures _ _ e.0 e.1
