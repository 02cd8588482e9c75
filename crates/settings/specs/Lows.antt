-- Document 02, P3: the three low limits set to 0, so that no trigger is sent under warning.
use Rattle.std.specs.Prelude.{ℕ, List, [], ◌∷◌, set}
use Rattle.settings.specs.declared.Settings.{Settings}

-- values with 0 at some places
unfoldable pub cleared : List ℕ → List ℕ → List ℕ
cleared [] vs = vs
cleared (p ∷ ps) vs = set (cleared ps vs) p 0

-- r4_low, r3_low, r2_low
abbrev pub lows : List ℕ
lows = 12 ∷ 9 ∷ 6 ∷ []

unfoldable pub lows_cleared : Settings → Settings
lows_cleared s = record { values = cleared lows s.values }
