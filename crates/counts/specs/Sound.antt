-- Document 01, "Sound", and document 02, P5: what the counts need, among m crossings done.
use Rattle.std.specs.Prelude.{ℕ, ◌+◌, Bool, ◌&&◌, leb, eqb}
use Rattle.counts.specs.declared.ByRule.{ByRule}
use Rattle.counts.specs.declared.Counts.{Counts}
use Rattle.counts.specs.declared.Lost.{Lost}
use Rattle.counts.specs.declared.Calibrations.{Calibrations}

-- every count ≤ crossings done
abbrev pub sound_rules : ℕ → ByRule → Bool
sound_rules m r = leb r.first m && (leb r.second m && (leb r.third m && leb r.fourth m))

abbrev pub sound_lost : ℕ → Lost → Bool
sound_lost m l =
    leb l.state m && (leb l.slot m && (leb l.gap m && (leb l.cal m && (leb l.throttle m && sound_rules m l.rules))))

abbrev pub sound_cal : ℕ → Calibrations → Bool
sound_cal m c = leb c.requested m && (leb c.accepted m && leb c.lost m)

unfoldable pub within_counts : ℕ → Counts → Bool
within_counts m c = leb c.requested m && (leb c.accepted m && (sound_lost m c.lost && sound_cal m c.cal))

-- lost to the throttle, by its rules
abbrev pub rules_sum : ByRule → ℕ
rules_sum r = r.first + (r.second + (r.third + r.fourth))

abbrev pub lost_sum : Lost → ℕ
lost_sum l = l.state + (l.slot + (l.gap + (l.cal + l.throttle)))

-- the three sums of the report agree
unfoldable pub sound_counts : ℕ → Counts → Bool
sound_counts m c =
    within_counts m c
    && (eqb c.requested (c.accepted + lost_sum c.lost)
    && (eqb c.lost.throttle (rules_sum c.lost.rules)
    && eqb c.cal.requested (c.cal.accepted + c.cal.lost)))
