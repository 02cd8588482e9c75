-- The merge by lanes is document 01's: the class in lane k is the highest of controller k's members.
-- An entry of the table has an input's vote in each lane; each byte of the codes takes the higher of what is there and its two votes.
use mathlib.Core.Path.{◌≡◌, sym, ◌∙◌}
use mathlib.Core.List.{List}
use Prim.Native.Nat.{ℕ, zero, suc, ◌+◌, ◌*◌, ◌/◌, ◌%◌, ◌≤◌, ◌<◌, max}
use native.Mathlib.Nat.{zero-add, max_comm}
use native.Mathlib.Numerals.{add-one}
use native.Mathlib.Omega.{arith}
use borrow.Author.Tests.{lt-ltb, le-ltb}
use lib.ListN.{length, get_or}
use lib.Seq.{ext_get_or}
use Rattle.laws.specs.Base.{highest, tabulate}
use Rattle.laws.proofs.Over.{length_tabulate, get_d_tabulate}
use Rattle.settings.specs.declared.Settings.{Settings}
use Rattle.settings.specs.Names.{ignores_of}
use Rattle.status.specs.Class.{class_of, counted}
use Rattle.status.specs.Codes.{code_at, Coded}
use Rattle.status.specs.Merge.{member_by, vote, vote_by, merged, merged_by, classes, classes_by}
use Rattle.status.specs.Support.Merger.{merger_of}
use Rattle.status.proofs.Codes.{code_low, even_code, odd_code}
use Rattle.status.proofs.Laws.{ranked, owned, counted_low}
use Rattle.lanes.specs.OnePass.{OnePass}
use Rattle.lanes.specs.Support.Lanes.{rank_of, entry_of, table_of, pair_of, lanes_of, class_in, lane_classes}
use Rattle.lanes.proofs.Words.{class_or, class_in_lane, class_in_all}

pub lane_classes_long : (t codes : List ℕ) → length (lane_classes t codes) ≡ 8
unfolding lane_classes
lane_classes_long t codes = length_tabulate (class_in (lanes_of t codes 20)) 0 8

module _ (s : Settings) where
  entry_at : (n : ℕ) → n < 656 → get_or (table_of (merger_of s)) n 0 ≡ entry_of (merger_of s).owners (merger_of s).ranks n
  unfolding table_of
  entry_at n h = get_d_tabulate (entry_of (merger_of s).owners (merger_of s).ranks) 0 656 n 0 h ∙ rw zero-add

  rank_is : (i c : ℕ) → c < 16 → rank_of (merger_of s).ranks (16 * i + c) ≡ counted (ignores_of s) (class_of i c)
  unfolding rank_of
  rank_is i c h =
      let q : (16 * i + c) / 16 ≡ i = omega arith in
      let r : (16 * i + c) % 16 ≡ c = omega arith in
      rw (q, r) (ranked s i c h)

module _ (s : Settings) (codes : List ℕ) (good : Coded codes) (k : ℕ) (inside : k < 8) where
  -- an input below 40 votes for its owner, the GTFE code for all
  entry_class : (i : ℕ) → i < 40 → class_in (get_or (table_of (merger_of s)) (16 * i + code_at codes i) 0) k ≡ vote s codes k i
  unfolding entry_of vote_by
  entry_class i l =
      let c = code_at codes i in
      let h = code_low codes good i in
      let n : 16 * i + c < 640 = omega arith in
      let q : (16 * i + c) / 16 ≡ i = omega arith in
      rw (entry_at s (16 * i + c) (omega arith), lt-ltb (16 * i + c) 640 n, q, rank_is s i c h, owned s k i l)
      (class_in_lane (counted (ignores_of s) (class_of i c)) k (omega (arith, counted_low (ignores_of s) i c)) inside (get_or (merger_of s).owners i 0))

  gtfe_class : class_in (lanes_of (table_of (merger_of s)) codes 0) k ≡ vote s codes k 40
  unfolding lanes_of entry_of vote_by member_by code_at
  gtfe_class =
      let c = code_at codes 40 in
      let h = good.gtfe in
      let n : 640 ≤ 640 + c = omega arith in
      rw (entry_at s (640 + c) (omega arith), le-ltb (640 + c) 640 n, rank_is s 40 c h)
      (class_in_all (counted (ignores_of s) (class_of 40 c)) k (omega (arith, counted_low (ignores_of s) 40 c)) inside)

  -- the two inputs of a byte
  pair_class : (j : ℕ) → j < 20 → class_in (pair_of (table_of (merger_of s)) codes j) k ≡ max (vote s codes k (j + j)) (vote s codes k (j + j + 1))
  unfolding pair_of
  pair_class j l =
      let p : 32 * j ≡ 16 * (j + j) = omega arith in
      let q : 32 * j + 16 ≡ 16 * (j + j + 1) = omega arith in
      let t = table_of (merger_of s) in
      rw (q, p, ← even_code codes j l, ← odd_code codes j l)
      (class_or (get_or t (16 * (j + j) + code_at codes (j + j)) 0) (get_or t (16 * (j + j + 1) + code_at codes (j + j + 1)) 0) k
      ∙ rw (entry_class (j + j) (omega arith), entry_class (j + j + 1) (omega arith)))

  -- after j bytes
  collected : (j : ℕ) → j ≤ 20 → class_in (lanes_of (table_of (merger_of s)) codes j) k ≡ max (vote s codes k 40) (highest (vote s codes k) (j + j))
  unfolding lanes_of highest
  collected zero l = rw gtfe_class (omega arith)
  collected (suc j) l =
      let e : suc j + suc j ≡ suc (suc (j + j)) = omega arith in
      let t = table_of (merger_of s) in
      class_or (lanes_of t codes j) (pair_of t codes j) k ∙ rw (collected j (omega arith), pair_class j l, e, ← add-one (j + j)) (omega arith)

  lane_class : class_in (lanes_of (table_of (merger_of s)) codes 20) k ≡ merged s codes k
  unfolding merged_by highest
  lane_class = collected 20 (omega arith) ∙ max_comm (vote s codes k 40) (highest (vote s codes k) 40)

pub lane_classes_lem : (s : Settings) (codes : List ℕ) → Coded codes → lane_classes (table_of (merger_of s)) codes ≡ classes s codes
unfolding lane_classes classes_by
lane_classes_lem s codes good =
    let lane = class_in (lanes_of (table_of (merger_of s)) codes 20) in
    ext_get_or 0 (tabulate lane 0 8) (tabulate (merged s codes) 0 8)
    (length_tabulate lane 0 8 ∙ sym (length_tabulate (merged s codes) 0 8))
    (λ k l.
    let h : k < 8 = rw (length_tabulate lane 0 8) at l in
    rw (get_d_tabulate lane 0 8 k 0 h, get_d_tabulate (merged s codes) 0 8 k 0 h, zero-add) (lane_class s codes good k h))

pub one_pass : OnePass
one_pass = lane_classes_lem
