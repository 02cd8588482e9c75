-- Documents 01, "Settings text", and 02, P2: the five relations, in their order.
use Rattle.std.specs.Prelude.{ℕ, Bool, true, not, ◌&&◌, List, [], ◌∷◌, leb, ltb, eqb}
use Rattle.laws.specs.Base.{if, all_b, first_not}
use Rattle.answer.specs.Told.{Told, DONE, RELATION}
use Rattle.settings.specs.declared.Settings.{Settings}
use Rattle.settings.specs.declared.names.Gap.{Gap}
use Rattle.settings.specs.declared.names.Rule.{Rule}
use Rattle.settings.specs.declared.names.Rules.{Rules}
use Rattle.settings.specs.declared.names.Schedule.{Schedule}
use Rattle.settings.specs.Names.{orbit_of, gap_of, rules_of, schedule_of, times_of}

abbrev pub below : ℕ → List ℕ → Bool
below m = all_b (λ x. ltb x m)

abbrev pub absent : ℕ → List ℕ → Bool
absent x = all_b (λ y. not (eqb x y))

abbrev pub distinct : List ℕ → Bool
distinct [] = true
distinct (x ∷ xs) = absent x xs && distinct xs

-- 1 gap_low ≤ gap_high < orbit
abbrev pub gap_inside : Gap → ℕ → Bool
gap_inside g orbit = leb g.low g.high && ltb g.high orbit

-- 4 at_wte < at_te < at_cal
abbrev pub cycle_in_order : Schedule → Bool
cycle_in_order at = ltb at.wte at.te && ltb at.te at.cal

-- 5 each low limit ≤ its normal limit
abbrev pub low_fits : Rule → Bool
low_fits r = leb r.low r.norm

abbrev pub lows_fit : Rules → Bool
lows_fit r = low_fits r.second && (low_fits r.third && low_fits r.fourth)

-- what fails first: the relation and the controller
pub record Fault : Type 0 where
  pub relation : ℕ
  pub controller : ℕ

abbrev pub fault : (relation controller : ℕ) → Fault
fault relation controller = record { relation = relation; controller = controller }

-- a relation of the board as a whole carries controller 0
abbrev pub held : Bool → ℕ → Fault → Fault
held ok n later = if ok later (fault n 0)

-- a relation that is tried for controllers 0 to 7 in turn
abbrev pub each : (ℕ → Bool) → ℕ → Fault → Fault
each holds n later = let k = first_not holds 8 0 in if (ltb k 8) (fault n k) later

-- 2 all eleven numbers of a controller are below orbit; 3 they are distinct. Relation 0 is none: all hold
unfoldable pub relation : Settings → Fault
relation s =
    held (gap_inside (gap_of s) (orbit_of s)) 1
    (each (λ k. below (orbit_of s) (times_of s k)) 2
    (each (λ k. distinct (times_of s k)) 3
    (each (λ k. cycle_in_order (schedule_of s k)) 4
    (held (lows_fit (rules_of s)) 5
    (fault 0 0)))))

-- what is told of it
abbrev pub related : Fault → Told
related f = if (eqb f.relation 0) DONE (RELATION f.relation f.controller)
