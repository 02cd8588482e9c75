-- Demand 3, second sentence: over the whole log, how many triggers a stretch as long as a rule's period may hold.
use Rattle.std.specs.Prelude.{ℕ, zero, suc, ◌≤◌, ◌<◌, ◌≡◌, Bool, true, false, ◌&&◌, List, [], ◌∷◌, map, get_or, drop}
use Rattle.laws.specs.Base.{if}
use Rattle.settings.specs.declared.Settings.{Settings}
use Rattle.settings.specs.declared.names.Rule.{Rule}
use Rattle.settings.specs.Names.{rules_of}
use Rattle.throttle.specs.Rules.{rules_list, spacing_rule}
use Rattle.throttle.specs.Windows.{count_of}
use Rattle.records.specs.Records.{rec_at, is_crossing}
use Rattle.records.specs.Refusal.{records_in}
use Rattle.daybook.specs.Row.{row_at, sends_in, triggers_in, warns_in}
use Rattle.daybook.specs.Whole.{Taken, whole}

-- the rows of the crossings among the first n records, the newest first
unfoldable pub crossing_rows : List ℕ → List ℕ → ℕ → List (List ℕ)
crossing_rows log rows zero = []
crossing_rows log rows (suc n) =
    let older = crossing_rows log rows n in
    if (is_crossing (rec_at log n)) (row_at rows n ∷ older) older

-- the triggers in each, of both kinds and of all eight controllers
abbrev pub triggers : List (List ℕ) → List ℕ
triggers = map triggers_in

-- in the stretch of so many crossings whose newest has from others after it
abbrev pub in_stretch : ℕ → ℕ → List (List ℕ) → ℕ
in_stretch long from rows = count_of long (drop from (triggers rows))

-- rules 1 to 4; rule 1 reads as period r1_gap + 1 with both limits 1
abbrev pub rule_at : Settings → ℕ → Rule
rule_at s r = get_or (rules_list (rules_of s)) r (spacing_rule (rules_of s))

-- controller k sent a trigger in this crossing, and its status was warning
abbrev pub sent_warned : List ℕ → ℕ → Bool
sent_warned row k = sends_in row k && warns_in row k

-- no stretch as long as the period holds more than the normal limit; the one that ends with a trigger sent under warning holds at
-- most the low limit, so with a low limit of 0 none is sent. Of a stretch that ends without one, a low limit is not claimed: it may have
-- begun under READY
pub record Throttled (r : Rule) (rows : List (List ℕ)) : Type 0 where
  pub normal : (from : ℕ) → in_stretch r.period from rows ≤ r.norm
  pub low : (from k : ℕ) → k < 8 → sent_warned (get_or rows from []) k ≡ true → in_stretch r.period from rows ≤ r.low
  pub none : r.low ≡ 0 → (from k : ℕ) → k < 8 → sent_warned (get_or rows from []) k ≡ false

-- of any log that a fresh board accepts, for each rule
abbrev pub Windows : Type 0
Windows =
    (s : Settings) (log buffer : List ℕ)
    → Taken s log buffer
    → (r : ℕ)
    → r < 4
    → Throttled (rule_at s r) (crossing_rows log (whole s log buffer).rows (records_in log))
