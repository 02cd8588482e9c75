-- Demand 3, third sentence, and document 02, P5: what a bench counts by itself, walking records and rows side by side. It never sees the board.
use Rattle.std.specs.Prelude.{ℕ, zero, suc, ◌+◌, Bool, false, not, ◌&&◌, ◌||◌, List, eqb, get_or}
use Rattle.laws.specs.Base.{if, one}
use Rattle.settings.specs.declared.Settings.{Settings}
use Rattle.settings.specs.declared.names.Gap.{Gap}
use Rattle.settings.specs.Names.{gap_of, schedule_of, rules_of}
use Rattle.throttle.specs.Windows.{refused_after}
use Rattle.states.specs.Commands.{START}
use Rattle.counts.specs.declared.Counts.{Counts}
use Rattle.counts.specs.declared.Calibrations.{Calibrations}
use Rattle.counts.specs.Counts.{STATE, SLOT, GAP, CAL, in_gap, ruled, lost_to, no_counts}
use Rattle.records.specs.Records.{rec_at, is_crossing, asked_in}
use Rattle.daybook.specs.Row.{row_at, code_in, sent_in, cal_in, runs_in, warns_in, taken_in}
use Rattle.slots.specs.Orbits.{number_by, holder_by}
use Rattle.windows.specs.Windows.{crossing_rows, triggers}

-- of one controller: whether its calibration cycle is open, the counts since its last START that a row shows as taken, and the
-- triggers since code 7
pub record Reading : Type 0 where
  pub calibrating : Bool
  pub counts : Counts
  pub events : ℕ

-- from the fresh board on
abbrev pub unread : Reading
unread = record { calibrating = false; counts = no_counts; events = 0 }

-- what the bench sees of controller k in crossing i: its request bit, the row's bits and code, ready or warning by the row's status,
-- the number and whether the slot is its own by the settings and the markers, and the first rule that refuses, 0 where none does, by the
-- triggers in the rows of the crossings before, of all eight controllers, under the limits of the row's status
pub record Look : Type 0 where
  pub asked : Bool
  pub sent : Bool
  pub cal : Bool
  pub code : ℕ
  pub runs : Bool
  pub own : Bool
  pub number : ℕ
  pub rule : ℕ

unfoldable pub look_at : (s : Settings) (log rows : List ℕ) (k i : ℕ) → Look
look_at s log rows k i = record {
  asked = asked_in (get_or (rec_at log i) 2 0) k;
  sent = sent_in (row_at rows i) k;
  cal = cal_in (row_at rows i) k;
  code = code_in (row_at rows i) k;
  runs = runs_in (row_at rows i) k;
  own = eqb k (holder_by s log i);
  number = number_by s log i;
  rule = refused_after (rules_of s) (triggers (crossing_rows log rows i)) (warns_in (row_at rows i) k);
}

-- the cycle is open from code 13 on, while the status is ready or warning and the slot its own
unfoldable pub opens : Look → Bool → Bool
opens l before = l.runs && (l.own && (before || eqb l.code 13))

-- a request is lost under the first of eight that holds: state, slot, gap, cal, the four rules. Each is tested; where none holds it must
-- have been sent
unfoldable pub cause : Gap → Look → Bool → ℕ
cause gap l busy =
    if l.runs
    (if l.own
    (if (in_gap gap l.number) GAP
    (if busy CAL (ruled l.rule)))
    SLOT)
    STATE

-- the rules are clear
abbrev pub clear : Look → Bool
clear l = eqb l.rule 0

-- a calibration trigger is asked for, sent by the row, and can only be lost to the throttle; by which rule is not counted
unfoldable pub cal_counted : Look → Bool → Calibrations → Calibrations
cal_counted l asks c = record {
  requested = c.requested + one asks;
  accepted = c.accepted + one l.cal;
  lost = c.lost + one (asks && not (clear l));
}

-- requests by the records, those sent by the rows, those lost by their cause: three counts of which none is made from another, so
-- that a request which was sent against a cause, or not sent without one, would spoil the sum
unfoldable pub counted : Gap → Look → Bool → Bool → Counts → Counts
counted gap l busy asks c = record {
  requested = c.requested + one l.asked;
  accepted = c.accepted + one l.sent;
  lost = if l.asked (lost_to (cause gap l busy) c.lost) c.lost;
  cal = cal_counted l asks c.cal;
}

-- an open cycle of controller k asks its trigger at its own at_cal (document 02, P2)
abbrev pub asks_for : Settings → ℕ → Look → Bool → Bool
asks_for s k l busy = busy && eqb l.number (schedule_of s k).cal

-- and ends there
unfoldable pub past_crossing : Settings → ℕ → Look → Reading → Reading
past_crossing s k l r =
    let busy = opens l r.calibrating in
    let asks = asks_for s k l busy in
    record {
      calibrating = busy && not asks;
      counts = counted (gap_of s) l busy asks r.counts;
      events = if (eqb l.code 7) 0 r.events + one (l.sent || l.cal);
    }

-- a command to controller k whose row says taken: START clears the counts; CALIBRATE is taken without a cycle, the others end it
unfoldable pub past_command : List ℕ → List ℕ → ℕ → Reading → Reading
past_command rec row k r =
    if (eqb (get_or rec 1 0) k && taken_in row)
    (record { calibrating = false; counts = if (eqb (get_or rec 2 0) START) no_counts r.counts; events = r.events })
    r

-- after the first n records
unfoldable pub reading_of : Settings → List ℕ → List ℕ → ℕ → ℕ → Reading
reading_of s log rows k zero = unread
reading_of s log rows k (suc i) =
    let r = reading_of s log rows k i in
    if (is_crossing (rec_at log i)) (past_crossing s k (look_at s log rows k i) r) (past_command (rec_at log i) (row_at rows i) k r)
