-- Documents 01, "Settings text", and 02, P2 and P3: every name with its key. `Names.antt` finds a value by the place of its line; here each is found by the
-- key that stands on the line, so that a place which is off, in the names or in the table, makes this false.
use Rattle.std.specs.Prelude.{ℕ, ◌<◌, ◌≡◌, Bool, true, false, not, ◌&&◌, List, [], ◌∷◌, ◌++◌, eqb, length, get_or}
use Prim.Native.String.{String}
use Rattle.laws.specs.Base.{first_not}
use Rattle.text.specs.Bytes.{bytes}
use Rattle.text.specs.Decimal.{decimal}
use Rattle.text.specs.Lines.{keys_of}
use Rattle.keys.specs.Settings.{value_lines, table_of}
use Rattle.settings.specs.declared.Settings.{Settings}
use Rattle.settings.specs.declared.names.Rule.{Rule}
use Rattle.settings.specs.Lows.{lows}
use Rattle.settings.specs.Names.{after, orbit_of, gap_of, rules_of, ignores_of, waits_of, slot_of, schedule_of, times_of, part_of}

abbrev pub same_bytes : List ℕ → List ℕ → Bool
same_bytes [] [] = true
same_bytes [] (b ∷ bs) = false
same_bytes (a ∷ more) [] = false
same_bytes (a ∷ more) (b ∷ bs) = eqb a b && same_bytes more bs

-- how many lines stand before the one with this key, the edition's not counted; 147 where there is none
unfoldable pub line_of : List ℕ → ℕ
unfolding value_lines
line_of key = first_not (λ n. not (same_bytes key (get_or (keys_of value_lines) n []))) 147 0

-- the value of the line with this key, and with this key and a number
unfoldable pub value_of : Settings → String → ℕ
unfolding line_of bytes
value_of s key = after s (line_of (bytes key))

unfoldable pub value_of_nth : Settings → String → ℕ → ℕ
unfolding line_of bytes decimal
value_of_nth s key n = after s (line_of (bytes key ++ decimal n))

abbrev pub rule_of : Settings → (period norm low : String) → Rule
rule_of s period norm low = record { period = value_of s period; norm = value_of s norm; low = value_of s low }

-- of controller k's line `atk_name`
unfoldable pub at_key : String → ℕ → List ℕ
unfolding bytes decimal
at_key name k = bytes "at" ++ (decimal k ++ (bytes "_" ++ bytes name))

unfoldable pub at_value : Settings → String → ℕ → ℕ
unfolding line_of at_key
at_value s name k = after s (line_of (at_key name k))

unfoldable pub at_values : Settings → ℕ → List ℕ
unfolding at_value
at_values s k =
    at_value s "bc0" k
    ∷ at_value s "te" k
    ∷ at_value s "resync" k
    ∷ at_value s "hard" k
    ∷ at_value s "ec0" k
    ∷ at_value s "oc0" k
    ∷ at_value s "start" k
    ∷ at_value s "stop" k
    ∷ at_value s "gap" k
    ∷ at_value s "wte" k
    ∷ at_value s "cal" k
    ∷ []

pub record Named (s : Settings) : Type 0 where
  pub orbit : orbit_of s ≡ value_of s "orbit"
  pub gap : gap_of s ≡ record { low = value_of s "gap_low"; high = value_of s "gap_high" }
  pub rules : rules_of s ≡ record {
    spacing = value_of s "r1_gap";
    second = rule_of s "r2_period" "r2_norm" "r2_low";
    third = rule_of s "r3_period" "r3_norm" "r3_low";
    fourth = rule_of s "r4_period" "r4_norm" "r4_low";
  }
  -- the three that become 0 where older text has `warn_blocks` 1
  pub low_limits : lows ≡ line_of (bytes "r4_low") ∷ line_of (bytes "r3_low") ∷ line_of (bytes "r2_low") ∷ []
  pub ignores : ignores_of s ≡ record { disc = eqb (value_of s "ignore_disc") 1; bad = eqb (value_of s "ignore_bad") 1 }
  pub waits : waits_of s ≡ record {
    settle = record { resync = value_of s "settle_resync"; hard = value_of s "settle_hard" };
    recover = record { resync = value_of s "recover_resync"; hard = value_of s "recover_hard" };
  }
  pub slot : (k : ℕ) → k < 8 → slot_of s k ≡ value_of_nth s "slot" k
  pub schedule : (k : ℕ) → k < 8 → schedule_of s k ≡ record {
    bc0 = at_value s "bc0" k;
    te = at_value s "te" k;
    resync = at_value s "resync" k;
    hard = at_value s "hard" k;
    ec0 = at_value s "ec0" k;
    oc0 = at_value s "oc0" k;
    start = at_value s "start" k;
    stop = at_value s "stop" k;
    gap = at_value s "gap" k;
    wte = at_value s "wte" k;
    cal = at_value s "cal" k;
  }
  -- the eleven numbers of a controller that relations 2 and 3 are about
  pub times : (k : ℕ) → k < 8 → times_of s k ≡ at_values s k
  pub part : (p : ℕ) → p < 32 → part_of s p ≡ value_of_nth s "part" p

-- document 02, P3: where older text has its line, and that no value has it now
pub record Retired : Type 0 where
  pub first : get_or (keys_of (table_of 1)) 13 [] ≡ bytes "warn_blocks"
  pub second : get_or (keys_of (table_of 2)) 14 [] ≡ bytes "warn_blocks"
  pub gone : line_of (bytes "warn_blocks") ≡ 147

abbrev pub NamedByKey : Type 0
NamedByKey = (s : Settings) → length s.values ≡ 147 → Named s
