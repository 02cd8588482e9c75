-- The window fact, about a list of marks, the newest first: what a rule of any period and any limit keeps.
use Rattle.std.specs.Prelude.{ℕ, zero, suc, ◌+◌, ◌-◌, ◌≤◌, ◌<◌, ◌≡◌, Bool, List, [], ◌∷◌, leb, eqb, get_or}
use Rattle.settings.specs.declared.names.Rule.{Rule}
use Rattle.settings.specs.declared.names.Rules.{Rules}
use Rattle.throttle.specs.Marks.{mark_back}
use Rattle.throttle.specs.Rules.{rules_list, limit_of, refuser}

-- the marks among the newest k
unfoldable pub count_of : ℕ → List ℕ → ℕ
count_of zero ms = 0
count_of (suc k) [] = 0
count_of (suc k) (x ∷ ms) = x + count_of k ms

-- each mark was set only where the before marks of the places before it, plus itself, were within the limit;
-- a rule of period p has before ≡ p - 1
abbrev pub Kept : ℕ → ℕ → List ℕ → Type 0
Kept before limit [] = Unit {0}
Kept before limit (x ∷ ms) = (x ≤ 1) × (x ≡ 1 → count_of before ms + 1 ≤ limit) × Kept before limit ms

-- a ring tells the same as a list of marks, as far back as it goes
pub record Tells (ws : List ℕ) (n : ℕ) (ms : List ℕ) : Type 0 where
  pub same : (d : ℕ) → d < 2047 → mark_back ws n d ≡ get_or ms d 0

-- Document 01, "Throttle", over a list: the triggers of the period - 1 crossings before, plus this one, do not exceed the limit
abbrev pub allows_after : List ℕ → Bool → Rule → Bool
allows_after ms warn r = leb (count_of (r.period - 1) ms + 1) (limit_of r warn)

-- document 02, P5, over a list: the first refusing rule, 1 to 4; 0 says free
abbrev pub refused_after : Rules → List ℕ → Bool → ℕ
refused_after r ms warn = refuser (allows_after ms warn) 1 (rules_list r)

abbrev pub free_after : Rules → List ℕ → Bool → Bool
free_after r ms warn = eqb (refused_after r ms warn) 0
