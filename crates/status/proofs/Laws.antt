-- Laws of the merge: it depends only on what a controller's inputs count, and is a class; the tables hold what the settings say.
-- Equal votes have an equal highest one, in any order; a place of a table is its definition, read at its input and its code.
use mathlib.Core.Path.{◌≡◌, ap, sym, ◌∙◌}
use mathlib.Core.Logic.{◌⊎◌, ⊎_elim}
use mathlib.Core.List.{List}
use Prim.Native.Nat.{ℕ, ◌+◌, ◌*◌, ◌/◌, ◌%◌, ◌≤◌, ◌<◌}
use native.Mathlib.Nat.{zero-add}
use native.Mathlib.Omega.{arith}
use lib.Dec.{eqb}
use lib.ListN.{get_or}
use Rattle.laws.proofs.Over.{get_d_tabulate}
use Rattle.laws.proofs.Highest.{highest_most, order_free}
use Rattle.settings.specs.declared.Settings.{Settings}
use Rattle.settings.specs.declared.names.Ignores.{Ignores}
use Rattle.settings.specs.Names.{ignores_of}
use Rattle.status.specs.Class.{emulator, class_of, counted}
use Rattle.status.specs.Codes.{code_at}
use Rattle.status.specs.Merge.{member, member_by, vote, vote_by, merged, merged_by}
use Rattle.status.specs.Support.Merger.{owner_of, half, rank_at, merger_of}

-- the table's halves are of 16 places
half_most : (i : ℕ) → half i ≤ 16
half_most i = grind arith

-- a class depends on the input only as far as that may be an emulator
class_same : (i j c : ℕ) → emulator i ≡ emulator j → class_of i c ≡ class_of j c
unfolding class_of
class_same i j c e = rw e

rank_at_lem : (g : Ignores) (i c : ℕ) → c < 16 → rank_at g (half i + c) ≡ counted g (class_of i c)
unfolding rank_at
rank_at_lem g i c h =
    let kind : emulator (24 * ((half i + c) / 16)) ≡ emulator i = grind arith in
    let code : (half i + c) % 16 ≡ c = grind arith in
    rw code (ap (counted g) (class_same _ i c kind))

-- the tables hold what the settings say
module _ (s : Settings) where
  pub ranked : (i c : ℕ) → c < 16 → get_or (merger_of s).ranks (half i + c) 0 ≡ counted (ignores_of s) (class_of i c)
  unfolding merger_of
  ranked i c h =
      let inside : half i + c < 32 = omega (arith, half_most i) in
      get_d_tabulate (rank_at (ignores_of s)) 0 32 (half i + c) 0 inside ∙ rw zero-add (rank_at_lem (ignores_of s) i c h)

  pub owned : (k n : ℕ) → n < 40 → member s k n ≡ eqb (get_or (merger_of s).owners n 0) k
  unfolding merger_of member_by owner_of
  owned k n h = rw (get_d_tabulate (owner_of s) 0 40 n 0 h, zero-add) (grind arith)

pub merge_same : (s s' : Settings) (a b : List ℕ) (k : ℕ) → ((i : ℕ) → i < 41 → vote s a k i ≡ vote s' b k i) → merged s a k ≡ merged s' b k
unfolding merged_by
merge_same s s' a b k h = order_free (vote s a k) (vote s' b k) 41 41 (λ i l. (i, l, h i l)) (λ i l. (i, l, sym (h i l)))

same_vote : (s : Settings) (a b : List ℕ) (k i : ℕ) → code_at a i ≡ code_at b i → vote s a k i ≡ vote s b k i
unfolding vote_by
same_vote s a b k i e = rw e

-- a member that is left out changes nothing
pub left_out : (s : Settings) (a b : List ℕ) (k : ℕ) → ((i : ℕ) → i < 41 → (code_at a i ≡ code_at b i) ⊎ ((vote s a k i ≡ 0) × (vote s b k i ≡ 0))) → merged s a k ≡ merged s b k
left_out s a b k h = merge_same s s a b k (λ i l. ⊎_elim (λ e. same_vote s a b k i e) (λ w. w.0 ∙ sym w.1) (h i l))

class_low : (i c : ℕ) → class_of i c ≤ 7
unfolding class_of
class_low i c = grind arith

pub counted_low : (g : Ignores) (i c : ℕ) → counted g (class_of i c) ≤ 7
unfolding counted
counted_low g i c = grind (arith, class_low i c)

vote_low : (s : Settings) (codes : List ℕ) (k i : ℕ) → vote s codes k i ≤ 7
unfolding vote_by
vote_low s codes k i = grind (arith, counted_low (ignores_of s) i (code_at codes i))

pub merge_low : (s : Settings) (codes : List ℕ) (k : ℕ) → merged s codes k ≤ 7
unfolding merged_by
merge_low s codes k = highest_most (vote s codes k) 7 41 (λ i l. vote_low s codes k i)
