-- Every promise is kept: each by its own theorem.
-- Nothing is argued here; this is where the three demands stand complete.
use Rattle.editions.proofs.RoundTrip.{accepted_writes_back, written_reads_back, older_reads_back}
use Rattle.naming.proofs.Named.{named_by_key, retired}
use Rattle.lanes.proofs.Laws.{one_pass}
use Rattle.throttle.proofs.Ring.{marking}
use Rattle.eight.proofs.Orbits.{orbits_cleared}
use Rattle.replay.proofs.TestedFirst.{tested_first}
use Rattle.views.proofs.AsBefore.{as_before}
use Rattle.outcomes.proofs.Outcomes.{one_outcome}
use Rattle.figures.proofs.Figures.{figures}
use Rattle.report.proofs.Fits.{report_fits}
use Rattle.cut.proofs.Program.{program}
use Rattle.pieces.proofs.Pieces.{pieces}
use Rattle.pieces.proofs.Printing.{printing}
use Rattle.steady.proofs.Laws.{all_held}
use Rattle.bounce.proofs.Holds.{holding}
use Rattle.bounce.proofs.Bounce.{bounce, never_twice}
use Rattle.bounce.proofs.Sample.{sample}
use Rattle.history.proofs.Alike.{alike}
use Rattle.recall.proofs.Blocks.{beside_cut}
use Rattle.recall.proofs.Recall.{store_changes_nothing, recall}
use Rattle.faithful.proofs.Faithful.{faithful}
use Rattle.slots.proofs.Slots.{slots}
use Rattle.slots.proofs.Rounds.{rounds}
use Rattle.programs.proofs.Programs.{no_empty_program}
use Rattle.promises.specs.Promises.{Promises}
use Rattle.promises.proofs.Refusals.{refusals}
use Rattle.promises.proofs.WholeLog.{whole_log}
use Rattle.promises.proofs.Stopped.{stopped}
use Rattle.promises.proofs.Salvaged.{never_ill_formed}

pub promises : Promises
promises =
    record {
      refusals = refusals;
      tied = record { names = named_by_key; retired = retired; merge = one_pass; marks = marking; orbits = orbits_cleared; blocks = tested_first; held = all_held };
      one_outcome = one_outcome;
      round_trips = record { accepted_writes_back = accepted_writes_back; written_reads_back = written_reads_back; older_reads_back = older_reads_back };
      figures = figures;
      whole_log = whole_log;
      program = program;
      pieces = pieces;
      printing = printing;
      report_fits = report_fits;
      slots = slots;
      rounds = rounds;
      holding = holding;
      never_twice = never_twice;
      bounce = bounce;
      sample = sample;
      as_before = as_before;
      stopped = stopped;
      store_changes_nothing = store_changes_nothing;
      beside_cut = beside_cut;
      recall = recall;
      alike = alike;
      faithful = faithful;
      never_ill_formed = never_ill_formed;
      no_empty_program = no_empty_program;
    }
