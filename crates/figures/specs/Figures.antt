-- Document 01, "Worked figures": those that are marked to be proved, as one list under one claim about the definitions.
use Rattle.std.specs.Prelude.{◌≡◌, Bool, true, false, ◌||◌, List, [], ◌∷◌, ℕ, zero, suc, ◌+◌, ◌*◌, ◌<◌, leb, eqb, get_or, set, replicate}
use Rattle.laws.specs.Base.{if, one}
use Rattle.settings.specs.declared.Settings.{Settings}
use Rattle.settings.specs.Names.{rules_of}
use Rattle.settings.specs.Standard.{standard}
use Rattle.status.specs.Class.{none, busy, bad, class_of}
use Rattle.status.specs.Merge.{merged}
use Rattle.throttle.specs.Marks.{passed}
use Rattle.throttle.specs.Rules.{free}
use Rattle.clock.specs.declared.Clock.{Clock}
use Rattle.clock.specs.Clock.{number_of, ticked_of, fresh_clock}
use Rattle.states.specs.Names.{READY, WARN}
use Rattle.counts.specs.declared.Counts.{Counts}
use Rattle.counts.specs.Counts.{no_counts}
use Rattle.board.specs.declared.Board.{Board}
use Rattle.ptc.specs.Fresh.{fresh_ptc}
use Rattle.runup.specs.Crossings.{codes_under, crossing_with, tells, later, started}

-- standard settings, a request in each of the next crossings, in WARN where warn tells, by how many were before, and else in READY.
-- Which are sent, told by how many were before: of left crossings, the next one being crossing n and having k before it.
unfoldable pub sends : (ℕ → Bool) → ℕ → ℕ → ℕ → List ℕ → List ℕ
sends warn zero k n marks = []
sends warn (suc left) k n marks =
    let sent = free (rules_of standard) marks n (warn k) in
    let rest = sends warn left (suc k) (suc n) (passed marks n (one sent)) in
    if sent (k ∷ rest) rest

-- from crossing t to t + 250, no earlier trigger
abbrev pub sends_from : ℕ → (ℕ → Bool) → List ℕ
sends_from t warn = sends warn 251 0 t (replicate 32 0)

-- the standard settings, but disconnected members are left out
abbrev pub ignoring : Settings
ignoring = record { values = set standard.values 13 1 }

-- the 41 codes of a record all being c: the GTFE code, then two in a byte
abbrev pub all_of : ℕ → List ℕ
all_of c = c ∷ replicate 20 (c + 16 * c)

-- controller 0 holds the slot in the given state, at the given number of the first orbit, no earlier trigger.
-- Document 02, P1: the codes that keep it in that state, carried and believed
abbrev pub board_at : ℕ → ℕ → Board
board_at number state = record {
  settings = standard;
  clock = record { crossings = number; next = number; orbits = 0; errors = 0 };
  turn = record { holder = 0; left = 2550 };
  ptcs = record { state = state; wait = 0; cycle = 0; counts = no_counts; events = 0 } ∷ replicate 7 fresh_ptc;
  held = let codes = codes_under (eqb state WARN) in record { carried = codes; believed = codes };
  marks = replicate 32 0;
}

-- requests of controller 0 up to t + 250 and none later, by how many crossings were before
abbrev pub up_to250 : ℕ → ℕ
up_to250 k = one (leb k 250)

-- what it sends from t on by rows of the whole board, t being crossing 1000; the GTFE code carried is a warning where warn tells
abbrev pub in_rows : ℕ → (ℕ → Bool) → List ℕ
in_rows state warn = tells (λ k. crossing_with (warn k) (up_to250 k)) 400 0 (board_at 1000 state)

-- requests at 3443, 3444, 3563 and the next 0 only
abbrev pub around_gap : ℕ → ℕ
around_gap k = one (eqb k 0 || (eqb k 1 || (eqb k 120 || eqb k 121)))

abbrev pub counts_of : Board → Counts
counts_of b = (get_or b.ptcs 0 fresh_ptc).counts

-- four requests: two sent, two lost to the gap
abbrev pub two_in_gap : Counts
two_in_gap = record {
  requested = 4;
  accepted = 2;
  lost = record { state = 0; slot = 0; gap = 2; cal = 0; throttle = 0; rules = record { first = 0; second = 0; third = 0; fourth = 0 } };
  cal = record { requested = 0; accepted = 0; lost = 0 };
}

-- after five crossings
abbrev pub expects_five : Clock
expects_five = record { crossings = 5; next = 5; orbits = 0; errors = 0 }

-- "sent at t + n" is n in a list; by rows its byte follows, 16 being a request sent as trigger and what is below it a command code
pub record Figures : Type 0 where
  pub ready : (t : ℕ) → sends_from t (λ k. false) ≡ 0 ∷ 3 ∷ 25 ∷ 100 ∷ 240 ∷ 243 ∷ []
  pub warning : (t : ℕ) → sends_from t (λ k. true) ≡ 0 ∷ 25 ∷ 240 ∷ []
  pub ready_then_warning : (t : ℕ) → sends_from t (λ k. leb 4 k) ≡ 0 ∷ 3 ∷ 240 ∷ []
  pub ready_in_rows : in_rows READY (λ k. false) ≡ 0 ∷ 16 ∷ 3 ∷ 16 ∷ 25 ∷ 16 ∷ 100 ∷ 16 ∷ 240 ∷ 16 ∷ 243 ∷ 16 ∷ []
  pub warning_in_rows : in_rows WARN (λ k. true) ≡ 0 ∷ 16 ∷ 25 ∷ 16 ∷ 240 ∷ 16 ∷ []
  -- Document 02, P1: believed from t + 4 on, so carried from t + 3 on
  pub ready_then_warning_in_rows : in_rows READY (λ k. leb 3 k) ≡ 0 ∷ 16 ∷ 3 ∷ 16 ∷ 240 ∷ 16 ∷ []
  pub code_11_of_partition_23 : class_of 23 11 ≡ bad
  pub code_11_of_partition_24 : class_of 24 11 ≡ busy
  pub all_disconnected_and_ignored : (k : ℕ) → k < 8 → (merged ignoring (all_of 0) k ≡ none) × (merged ignoring (all_of 15) k ≡ none)
  pub sent_gap_gap_sent : tells (λ k. crossing_with false (around_gap k)) 122 0 (board_at 3443 READY) ≡ 0 ∷ 16 ∷ 121 ∷ 17 ∷ []
  pub lost_to_gap : counts_of (later (λ k. crossing_with false (around_gap k)) 122 0 (board_at 3443 READY)) ≡ two_in_gap
  pub start_to_first_trigger : tells (λ k. crossing_with false 1) 7430 0 started ≡ 100 ∷ 5 ∷ 3964 ∷ 8 ∷ 4064 ∷ 9 ∷ 7428 ∷ 7 ∷ 7429 ∷ 16 ∷ []
  pub marker_at_five : (number_of expects_five true ≡ 0) × ((ticked_of 3564 expects_five true).errors ≡ 1)
  pub marker_at_zero : (ticked_of 3564 fresh_clock true).errors ≡ 0
