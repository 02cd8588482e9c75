-- Document 02, P6: what a store that began fresh still tells. It is sound, and holds the last of all its changes, in order: none is
-- invented or skipped, and none is gone unless at least 240 are left.
use Rattle.std.specs.Prelude.{ℕ, ◌≤◌, ◌≡◌, ◌⊎◌, true, List, [], ◌∷◌, length, drop}
use Rattle.history.specs.declared.Store.{Store}
use Rattle.history.specs.declared.keep.Change.{Change}
use Rattle.history.specs.Store.{kept, fresh_store, sound_store}
use Rattle.history.specs.Keep.{Fits, kept_all}
use Rattle.history.specs.Read.{changes_in}

abbrev pub AllFit : List Change → Type 0
AllFit [] = Unit {0}
AllFit (c ∷ cs) = Fits c × AllFit cs

-- the last of them: all but the first `gone`
pub record LastOf (all left : List Change) : Type 0 where
  pub gone : ℕ
  pub within : gone ≤ length all
  pub last : left ≡ drop gone all
  pub many : (gone ≡ 0) ⊎ (240 ≤ length left)

pub record Recalls (cs : List Change) : Type 0 where
  pub sound : sound_store (kept_all fresh_store cs) ≡ true
  pub changes : LastOf cs (changes_in (kept_all fresh_store cs))

abbrev pub Recalling : Type 0
Recalling = (cs : List Change) → AllFit cs → Recalls cs

-- two that hold the same changes have the same words in use, in order: they differ in the place of the oldest and in words out of use alone
pub record SameWords (s t : Store) : Type 0 where
  pub words : kept s ≡ kept t
  pub used : s.used ≡ t.used

abbrev pub Alike : Type 0
Alike =
    (cs ds : List Change) → AllFit cs → AllFit ds → changes_in (kept_all fresh_store cs) ≡ changes_in (kept_all fresh_store ds)
    → SameWords (kept_all fresh_store cs) (kept_all fresh_store ds)
