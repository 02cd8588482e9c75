-- What the coordinator can tell the groups: the three demands, each sentence by the claim that proves it.
use Rattle.std.specs.Prelude.{◌≡◌, List, ◌++◌, ℕ, ◌≤◌, length, take, drop}
use Rattle.answer.specs.Told.{DONE}
use Rattle.settings.specs.declared.Settings.{Settings}
use Rattle.keys.specs.Settings.{newest}
use Rattle.editions.specs.Read.{edition_of, read_text}
use Rattle.editions.specs.Write.{text_of, written}
use Rattle.naming.specs.Named.{Retired, NamedByKey}
use Rattle.lanes.specs.OnePass.{OnePass}
use Rattle.throttle.specs.Ring.{Marking}
use Rattle.eight.specs.Orbits.{OrbitsCleared}
use Rattle.replay.specs.TestedFirst.{TestedFirst}
use Rattle.views.specs.AsBefore.{AsBefore}
use Rattle.outcomes.specs.Outcomes.{OneOutcome}
use Rattle.figures.specs.Figures.{Figures}
use Rattle.report.specs.Fits.{ReportFits}
use Rattle.cut.specs.Program.{Program}
use Rattle.pieces.specs.Pieces.{Pieces}
use Rattle.pieces.specs.Printing.{Printing}
use Rattle.steady.specs.Held.{AllHeld}
use Rattle.bounce.specs.Input.{Holding}
use Rattle.bounce.specs.Bounce.{Bounce, NeverTwice, Sample}
use Rattle.history.specs.Recall.{Alike}
use Rattle.recall.specs.Recall.{StoreChangesNothing, BesideCut, Recall}
use Rattle.faithful.specs.Faithful.{Faithful}
use Rattle.slots.specs.Slots.{Slots}
use Rattle.slots.specs.Rounds.{Rounds}
use Rattle.programs.specs.Programs.{NoEmptyProgram}
use Rattle.promises.specs.Refusals.{Refusals}
use Rattle.promises.specs.WholeLog.{WholeLogs}
use Rattle.promises.specs.Stopped.{Stopped}
use Rattle.promises.specs.Salvaged.{NeverIllFormed}

-- demand 2, second sentence, and document 02, P2 and P3: text of the newest edition, what is written, and text of any edition; settings have 147 values
pub record RoundTrips : Type 0 where
  pub accepted_writes_back : (text buffer : List ℕ) → edition_of text ≡ newest → (read_text text).answer ≡ DONE → length text ≤ length buffer
      → written (read_text text).settings buffer ≡ record { answer = DONE; buffer = text ++ drop (length text) buffer }
  pub written_reads_back : (s : Settings) (buffer : List ℕ) → length s.values ≡ 147 → (written s buffer).answer ≡ DONE
      → read_text (take (length (text_of s)) (written s buffer).buffer) ≡ record { answer = DONE; settings = s }
  pub older_reads_back : (text buffer : List ℕ) → (read_text text).answer ≡ DONE → length (text_of (read_text text).settings) ≤ length buffer
      → ((written (read_text text).settings buffer).answer ≡ DONE)
      × (read_text (take (length (text_of (read_text text).settings)) (written (read_text text).settings buffer).buffer) ≡ read_text text)

-- what the code goes by, and what document 01 says: each name its key, the retired line its places in older text, one pass the eight
-- merges, the ring's words the marks, a byte of the row the move that sets the orbit count to 0, blocks that are tested first the blocks
-- in turn, and low GTFE codes all held codes low
pub record Tied : Type 0 where
  pub names : NamedByKey
  pub retired : Retired
  pub merge : OnePass
  pub marks : Marking
  pub orbits : OrbitsCleared
  pub blocks : TestedFirst
  pub held : AllHeld

pub record Promises : Type 0 where
  -- demand 1
  pub refusals : Refusals
  -- demand 2: the contracts are equations with the definitions of document 01; so one input has one outcome
  pub tied : Tied
  pub one_outcome : OneOutcome
  pub round_trips : RoundTrips
  pub figures : Figures
  -- demand 3, and that no group's trigger gets into another group's file: of any blocks, and of the programs' blocks of 64 records
  pub whole_log : WholeLogs
  pub program : Program
  -- what the programs print, for all that they read the log in pieces; and the buffer that they lend for the report is long enough
  pub pieces : Pieces
  pub printing : Printing
  pub report_fits : ReportFits
  -- the number and the holder that the desk goes by are those that settings and markers give by counting, and each hold lasts its orbits
  pub slots : Slots
  pub rounds : (slots : List ℕ) → Rounds slots
  -- document 02, P1: what is believed of an input is told by its own codes in the records; one that never carries the same new code in two
  -- consecutive crossings changes nothing, nor do codes that come and go while another stays believed
  pub holding : Holding
  pub never_twice : NeverTwice
  pub bounce : Bounce
  pub sample : Sample
  -- document 02, P2 and P3: text of the older editions runs as before; where it stopped triggers under warning none is sent there
  pub as_before : AsBefore
  pub stopped : Stopped
  -- document 02, P6: a store beside the board changes nothing, any blocks give the uncut log's store, and what it tells are the last changes
  -- of the input's believed code; two stores that began fresh and tell the same hold the same words in use
  pub store_changes_nothing : StoreChangesNothing
  pub beside_cut : BesideCut
  pub recall : Recall
  pub alike : Alike
  -- document 02, P7: well-formed records pass unchanged and all that come out are well formed, so that no block made of them gets RECORD; the
  -- list is true; pieces are the whole
  pub faithful : Faithful
  pub never_ill_formed : NeverIllFormed
  -- and no program without work meets the contracts
  pub no_empty_program : NoEmptyProgram
