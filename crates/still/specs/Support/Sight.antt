-- What a crossing sees before any controller moves: the turn, the classes, what is asked, and which rule refuses the holder's trigger.
use Rattle.std.specs.Prelude.{ℕ, ◌%◌, Bool, false, not, ◌&&◌, ◌||◌, List, eqb, get_or}
use Rattle.laws.specs.Base.{if}
use Rattle.settings.specs.declared.names.Rules.{Rules}
use Rattle.settings.specs.declared.names.Waits.{Waits}
use Rattle.lanes.specs.Support.Lanes.{lane_classes}
use Rattle.words.specs.Same.{same_bytes}
use Rattle.steady.specs.Steady.{believed_of}
use Rattle.throttle.specs.Rules.{refused_by}
use Rattle.clock.specs.declared.Clock.{Clock}
use Rattle.clock.specs.declared.Turn.{Turn}
use Rattle.clock.specs.Clock.{number_of, orbit_ends}
use Rattle.clock.specs.Turn.{turned_of}
use Rattle.states.specs.Names.{WARN}
use Rattle.states.specs.Moves.{moved_of}
use Rattle.ptc.specs.declared.Ptc.{Ptc}
use Rattle.ptc.specs.declared.Scene.{Scene}
use Rattle.ptc.specs.Support.Times.{schedule_from}
use Rattle.records.specs.Records.{marker_in, asked_in, codes_in}
use Rattle.still.specs.declared.Sight.{Sight}
use Rattle.still.specs.Support.Still.{due_of}

abbrev pub first_sight : (turn : Turn) (table carried believed : List ℕ) → Sight
first_sight turn table carried believed =
    record { turn = turn; classes = lane_classes table believed; firm = same_bytes 21 carried believed; marker = false; requests = 0; due = 0 }

-- where the believed codes stay, so do the classes: it is those that a still crossing goes by
unfoldable pub sight_of : (busy table slots : List ℕ) (clock : Clock) (turn : Turn) (calm : Bool) (carried believed rec : List ℕ) → Sight
sight_of busy table slots clock turn calm carried believed rec =
    let marker = marker_in rec in
    let next = believed_of carried believed (codes_in rec) in
    record {
      turn = turned_of slots (orbit_ends clock marker) turn;
      classes = lane_classes table next;
      firm = same_bytes 21 carried (codes_in rec);
      marker = marker;
      requests = get_or rec 2 0;
      due = due_of (calm && same_bytes 21 believed next) busy (number_of clock marker) (get_or rec 2 0);
    }

-- what all eight see, p being the holder: where it asks, the rules by the limits of the state that it moves to
unfoldable pub scene_for : (times : List ℕ) (waits : Waits) (rules : Rules) (p : Ptc) (sight : Sight) (marks : List ℕ) (clock : Clock) → Scene
scene_for times waits rules p sight marks clock =
    let number = number_of clock sight.marker in
    let holder = sight.turn.holder in
    let place = holder % 8 in
    let moved = moved_of (schedule_from times holder) waits holder number (get_or sight.classes place 0) p.state p.wait in
    let asks = asked_in sight.requests place || not (eqb p.cycle 0) in
    let rule = if asks (refused_by rules marks clock.crossings (eqb moved.state WARN)) 0 in
    record { number = number; holder = holder; norm = rule; low = rule }
