-- No empty program: each operation succeeds exactly where its definition takes no refusal's way, and then gives that way's outcome.
-- The examples are computed from the definitions.
use mathlib.Core.Path.{◌≡◌, refl, sym, ap, ◌∙◌}
use mathlib.Core.Bool.{true, false}
use mathlib.Core.List.{List}
use Prim.Native.Nat.{ℕ, ◌≤◌}
use borrow.Author.Tests.{le-leb, leb-true}
use lib.Dec.{leb, lit<}
use lib.ListN.{length, replicate}
use Rattle.laws.specs.Base.{if, map_i, tabulate, first_not}
use Rattle.laws.proofs.Bools.{if_yes}
use Rattle.answer.specs.Told.{DONE, RANGE, BOARD, ROOM}
use Rattle.answer.proofs.Told.{not_done}
use Rattle.text.specs.Bytes.{bytes}
use Rattle.text.specs.Number.{number}
use Rattle.text.specs.Lines.{line_head, line_text, read_line}
use Rattle.keys.specs.Settings.{opening, value_lines, table_of}
use Rattle.keys.specs.Report.{common_keys, block_keys}
use Rattle.settings.specs.declared.Settings.{Settings}
use Rattle.settings.specs.Check.{out_of_range, checked}
use Rattle.settings.specs.Standard.{standard}
use Rattle.settings.proofs.Standard.{standard_checks}
use Rattle.editions.specs.Read.{ReadOut, edition_of, read_text}
use Rattle.editions.specs.Write.{text_of, write_answer, written}
use Rattle.editions.proofs.Standard.{standard_length}
use Rattle.editions.proofs.RoundTrip.{accepted, in_order, text_of_lem, text_accepted, text_back, text_reads_back, write_checks}
use Rattle.editions.proofs.Opening.{edition_most}
use Rattle.clock.specs.Turn.{next_from, takes_over, fresh_turn}
use Rattle.counts.specs.Counts.{requested_of}
use Rattle.ptc.specs.Crossing.{crossed_of}
use Rattle.records.specs.Records.{asked_in, well_crossing, well_command, well, crossings_in}
use Rattle.records.specs.Refusal.{records_in, refusal_of}
use Rattle.board.specs.declared.Board.{Board}
use Rattle.eight.specs.Eight.{act_of}
use Rattle.board.specs.Crossing.{crossed_by}
use Rattle.board.specs.Run.{stepped, ran}
use Rattle.board.specs.Sound.{sound_board}
use Rattle.board.specs.Fresh.{fresh_board, fresh_of}
use Rattle.board.specs.Block.{RanOut, answer_of, block_of}
use Rattle.board.proofs.Answers.{block_ready, ready_done, block_answer, block_done}
use Rattle.board.proofs.Keeps.{fresh_sound, ran_count}
use Rattle.report.specs.Report.{controller_text, blocks_from, report_text, report_answer, reported}
use Rattle.cut.proofs.Cut.{cut}
use Rattle.balance.proofs.Balance.{balance}
use Rattle.programs.specs.Programs.{orbit_zero, fresh, unsound, crossing, shortened, damaged, requested_in, TextOf, ReadsText, WritesText, MakesBoard, RunsBlock, WritesReport, NoEmptyProgram}

zero_checks : checked orbit_zero ≡ RANGE 2
unfolding checked out_of_range standard value_lines
zero_checks = refl

room_yes : (need room : ℕ) → if (leb need room) DONE (ROOM need) ≡ DONE → need ≤ room
room_yes need room e = leb-true need room (if_yes (leb need room) DONE (ROOM need) DONE e (not_done (ROOM need) (lit< tt))).0

-- ---- reading

standard_long : length standard.values ≡ 147
unfolding standard
standard_long = refl

text_is_of : (text : List ℕ) → (read_text text).answer ≡ DONE → TextOf text
text_is_of text e =
    let a = accepted text e in
    record { some = a.some; most = edition_most text; numbers = a.numbers; in_order = in_order text a; text_is = text_of_lem text a; settings = a.settings }

reading : ReadsText
unfolding read_text edition_of table_of opening read_line line_head line_text number bytes
reading =
    record {
      accepts_numbers = text_accepted;
      accepted_numbers = text_is_of;
      accepts = text_reads_back;
      accepted = λ text e own. let a = accepted text e in (a.long, a.checks, text_back text own a);
      standard_text = ap (λ (o : ReadOut). o.answer) (text_reads_back standard standard_long standard_checks);
      empty_text = refl;
      small_orbit = refl;
      small_orbit_newest = refl;
      no_edition = refl;
    }

-- ---- writing, and the fresh board

write_fits : (s : Settings) (room : ℕ) → write_answer s room ≡ DONE → (checked s ≡ DONE) × (length (text_of s) ≤ room)
unfolding write_answer
write_fits s room e =
    let ok : checked s ≡ DONE = write_checks s room e in
    (ok, room_yes (length (text_of s)) room (rw ok at e))

writing : WritesText
unfolding written write_answer
writing =
    record {
      accepts = λ s buffer ok fits. rw (ok, le-leb _ _ fits);
      accepted = λ s buffer. write_fits s (length buffer);
      just_fits = rw (standard_checks, standard_length);
      no_room = rw (standard_checks, standard_length);
      no_orbit = rw zero_checks;
    }

making : MakesBoard
unfolding fresh_of fresh_board
making =
    record {
      accepts = λ s ok. rw ok;
      accepted = λ s ok. ok;
      keeps_settings = λ s ok. rw ok;
      of_standard = standard_checks;
      no_orbit = zero_checks;
    }

-- ---- a block

-- a fresh board is sound, so the records decide
answers : (log : List ℕ) → (block_of fresh log (replicate 12 0)).answer ≡ refusal_of 0 log 12
unfolding answer_of fresh_board
answers log = block_answer fresh log (replicate 12 0) ∙ rw (fresh_sound standard standard_checks)

accepts_crossing : (requests : ℕ) → (block_of fresh (crossing requests) (replicate 12 0)).answer ≡ DONE
unfolding refusal_of first_not crossings_in well well_crossing
accepts_crossing requests = answers (crossing requests)

counted : (requests : ℕ) → requested_in (block_of fresh (crossing requests) (replicate 12 0)).board ≡ requested_in (ran 1 fresh (crossing requests))
counted requests = ap (λ (o : RanOut). requested_in o.board) (block_done fresh (crossing requests) (replicate 12 0) (accepts_crossing requests))

running : RunsBlock
unfolding refusal_of first_not well well_crossing well_command ran stepped crossed_by map_i act_of crossed_of requested_of asked_in fresh_board
running =
    record {
      accepts = λ b log rows sound r. block_answer b log rows ∙ ready_done b log (length rows) sound r;
      accepted = λ b log rows e. block_ready b log (length rows) (sym (block_answer b log rows) ∙ e);
      gives = block_done;
      moves = λ b log rows e. ap (λ (o : RanOut). o.board.clock.crossings) (block_done b log rows e) ∙ ran_count b log (records_in log);
      accepts_crossing = accepts_crossing;
      refuses_shortened = answers shortened;
      refuses_damaged = answers damaged;
      counts_request = counted 1;
      counts_none = counted 0;
    }

-- ---- the report

report_fits : (b : Board) (room : ℕ) → report_answer b room ≡ DONE → (sound_board b ≡ true) × (length (report_text b) ≤ room)
unfolding report_answer
report_fits b room e =
    let way = if_yes (sound_board b) _ BOARD DONE e (not_done BOARD (lit< tt)) in
    (way.0, room_yes (length (report_text b)) room way.1)

fresh_length : length (report_text fresh) ≡ 232
unfolding report_text common_keys block_keys controller_text blocks_from line_text line_head fresh_board fresh_turn next_from takes_over tabulate standard
fresh_length = refl

not_sound : sound_board unsound ≡ false
unfolding sound_board fresh_board
not_sound = rw zero_checks

reporting : WritesReport
unfolding reported report_answer
reporting =
    record {
      accepts = λ b buffer sound fits. rw (sound, le-leb _ _ fits);
      accepted = λ b buffer. report_fits b (length buffer);
      just_fits = rw (fresh_sound standard standard_checks, fresh_length);
      no_room = rw (fresh_sound standard standard_checks, fresh_length);
      refused_settings = rw not_sound;
    }

pub no_empty_program : NoEmptyProgram
no_empty_program =
    record {
      reading = reading;
      writing = writing;
      making = making;
      running = running;
      reporting = reporting;
      every_block = cut;
      counts_read_off = balance;
    }
