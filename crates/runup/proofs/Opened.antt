-- Every definition that a walk over crossings computes with, from START on, under one name.
-- So a proof that computes one says `unfolding opened`, and the list stands once.
use Prim.Native.Nat.{ℕ}
use Rattle.laws.specs.Base.{all_b, map_i, tabulate}
use Rattle.settings.specs.Standard.{standard}
use Rattle.steady.specs.Steady.{steady, steady_byte, believed_of}
use Rattle.steady.specs.Held.{next_held, fresh_held}
use Rattle.throttle.specs.Marks.{put_bit, marked, passed}
use Rattle.throttle.specs.Rules.{refuser}
use Rattle.throttle.specs.Windows.{count_of}
use Rattle.clock.specs.Clock.{ticked_of}
use Rattle.clock.specs.Turn.{next_from, takes_over, fallen_of, turned_of, fresh_turn}
use Rattle.states.specs.Moves.{move_of, entry_wait, moved_of, orbit_code}
use Rattle.states.specs.Commands.{takes, state_after}
use Rattle.ptc.specs.Command.{commanded_of}
use Rattle.counts.specs.Counts.{fate_of, ruled_to, lost_to, requested_of, calibrated_of}
use Rattle.ptc.specs.Crossing.{crossed_of}
use Rattle.ptc.specs.Cycle.{kept_of, opened_of, cycle_code, asks_of}
use Rattle.records.specs.Records.{asked_in}
use Rattle.records.specs.Rows.{row_byte, crossing_row, carries}
use Rattle.board.specs.Crossing.{turn_by, scene_by, crossed_by}
use Rattle.eight.specs.Eight.{act_of, byte_of, clock_of}
use Rattle.board.specs.Command.{command_by, commanded_by}
use Rattle.board.specs.Run.{stepped}
use Rattle.board.specs.Fresh.{fresh_board}
use Rattle.runup.proofs.Walk.{walk, walked}

unfoldable pub opened : ℕ
unfolding walk walked all_b map_i tabulate standard steady steady_byte believed_of next_held fresh_held put_bit marked passed count_of refuser ticked_of next_from takes_over fallen_of turned_of fresh_turn move_of entry_wait moved_of orbit_code takes state_after commanded_of fate_of ruled_to lost_to requested_of calibrated_of crossed_of kept_of opened_of cycle_code asks_of asked_in row_byte crossing_row carries turn_by scene_by crossed_by act_of byte_of clock_of command_by commanded_by stepped fresh_board
opened = 0
