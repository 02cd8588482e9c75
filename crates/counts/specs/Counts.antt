-- Document 01, "Cycle and trigger" and "Report", and document 02, P5: a request's fate, and the counts.
use Rattle.std.specs.Prelude.{ℕ, ◌+◌, Bool, not, ◌&&◌, leb, ltb, eqb}
use Rattle.laws.specs.Base.{if, one}
use Rattle.settings.specs.declared.names.Gap.{Gap}
use Rattle.states.specs.Names.{running}
use Rattle.counts.specs.declared.ByRule.{ByRule}
use Rattle.counts.specs.declared.Counts.{Counts}
use Rattle.counts.specs.declared.Lost.{Lost}
use Rattle.counts.specs.declared.Calibrations.{Calibrations}

-- sent, or the cause of its loss; rule r of the throttle is cause CAL + r
abbrev pub SENT : ℕ
SENT = 0

abbrev pub STATE : ℕ
STATE = 1

abbrev pub SLOT : ℕ
SLOT = 2

abbrev pub GAP : ℕ
GAP = 3

abbrev pub CAL : ℕ
CAL = 4

abbrev pub FIRST : ℕ
FIRST = 5

abbrev pub SECOND : ℕ
SECOND = 6

abbrev pub THIRD : ℕ
THIRD = 7

abbrev pub FOURTH : ℕ
FOURTH = 8

abbrev pub in_gap : Gap → ℕ → Bool
in_gap g number = leb g.low number && leb number g.high

-- by the throttle's answer: free is 0, else the first refusing rule, 1 to 4
abbrev pub ruled : ℕ → ℕ
ruled rule = if (eqb rule 0) SENT (if (eqb rule 1) FIRST (if (eqb rule 2) SECOND (if (eqb rule 3) THIRD FOURTH)))

-- a request is lost under the first that holds: state (not 7, 8); slot (not holder); gap; cal (cycle open); throttle, by its rule
unfoldable pub fate_of : (g : Gap) (number s : ℕ) (own busy : Bool) (rule : ℕ) → ℕ
fate_of g number s own busy rule =
    if (running s)
    (if own
    (if (in_gap g number) GAP
    (if busy CAL (ruled rule)))
    SLOT)
    STATE

-- a request counts once, under its fate; one that a rule refused counts for the throttle, and under that rule
unfoldable pub ruled_to : ℕ → ByRule → ByRule
ruled_to fate r = record {
  first = r.first + one (eqb fate FIRST);
  second = r.second + one (eqb fate SECOND);
  third = r.third + one (eqb fate THIRD);
  fourth = r.fourth + one (eqb fate FOURTH);
}

unfoldable pub lost_to : ℕ → Lost → Lost
lost_to fate l = record {
  state = l.state + one (eqb fate STATE);
  slot = l.slot + one (eqb fate SLOT);
  gap = l.gap + one (eqb fate GAP);
  cal = l.cal + one (eqb fate CAL);
  throttle = l.throttle + one (ltb CAL fate);
  rules = ruled_to fate l.rules;
}

unfoldable pub requested_of : Bool → ℕ → Counts → Counts
requested_of asked fate c =
    if asked
    (record { requested = c.requested + 1; accepted = c.accepted + one (eqb fate SENT); lost = lost_to fate c.lost; cal = c.cal })
    c

-- a calibration trigger is sent, or lost to the throttle, whose rules are not told apart here
unfoldable pub calibrated_of : Bool → Bool → Calibrations → Calibrations
calibrated_of asks free c =
    if asks
    (record { requested = c.requested + 1; accepted = c.accepted + one free; lost = c.lost + one (not free) })
    c

abbrev pub counted_of : Bool → ℕ → Bool → Bool → Counts → Counts
counted_of asked fate asks free c =
    let r = requested_of asked fate c in
    record { requested = r.requested; accepted = r.accepted; lost = r.lost; cal = calibrated_of asks free c.cal }

-- the run counts as START leaves them
abbrev pub no_counts : Counts
no_counts = record {
  requested = 0;
  accepted = 0;
  lost = record {
    state = 0;
    slot = 0;
    gap = 0;
    cal = 0;
    throttle = 0;
    rules = record { first = 0; second = 0; third = 0; fourth = 0 };
  };
  cal = record { requested = 0; accepted = 0; lost = 0 };
}
