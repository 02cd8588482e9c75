-- A walk over crossings that is quick to compute: the merge is done beforehand, two Bools stand for the held codes and a list of marks for the ring.
-- By induction on the crossings: of standard settings the believed GTFE code alone decides the classes here, and both stand-ins go on telling the same.
use mathlib.Core.Path.{◌≡◌, refl, ap, ap₂, ◌∙◌}
use mathlib.Core.Bool.{Bool, true, false, ◌||◌, beq}
use mathlib.Core.List.{List, [], ◌∷◌}
use Prim.Native.Nat.{ℕ, zero, suc}
use native.Mathlib.Omega.{arith}
use lib.Dec.{eqb}
use lib.ListN.{get_or, length, replicate}
use Rattle.laws.specs.Base.{if, one, highest, map_i, tabulate}
use Rattle.laws.proofs.Bools.{one_le}
use Rattle.settings.specs.Names.{orbit_of, rules_of}
use Rattle.settings.specs.Standard.{standard}
use Rattle.status.specs.Class.{ready, warning, class_of, counted}
use Rattle.status.specs.Codes.{code_at}
use Rattle.status.specs.Merge.{member_by, vote_by, merged_by, classes, classes_by}
use Rattle.steady.specs.declared.Held.{Held}
use Rattle.steady.specs.Steady.{steady, steady_byte, believed_of}
use Rattle.steady.specs.Held.{next_held}
use Rattle.throttle.specs.Windows.{Tells, refused_after}
use Rattle.throttle.proofs.Ring.{passed_long}
use Rattle.throttle.proofs.Windows.{tells_on}
use Rattle.throttle.proofs.Instances.{Near, refused_told}
use Rattle.clock.specs.Clock.{number_of, ticked_of}
use Rattle.ptc.specs.declared.Ptc.{Ptc}
use Rattle.ptc.specs.declared.Plan.{Plan}
use Rattle.ptc.specs.declared.Scene.{Scene}
use Rattle.records.specs.Rows.{crossing_row, carries}
use Rattle.board.specs.declared.Board.{Board}
use Rattle.kit.specs.Kit.{plan_of}
use Rattle.board.specs.Crossing.{with_ptcs, turn_in, scene_of, scene_by, held_in, classes_in, passed_on, crossed_by, crossing_row_by}
use Rattle.eight.specs.Eight.{ptc_of, byte_of, shown_of, clock_of}
use Rattle.board.specs.Run.{stepped, row_of}
use Rattle.runup.specs.Crossings.{codes_under, crossing_with, tells, later}

-- what a walk keeps of the crossings before: whether GTFE carried a warning in the last, whether it is believed to, and the marks
pub record Past : Type 0 where
  pub carried : Bool
  pub believed : Bool
  pub marks : List ℕ

-- one code carried and believed, and no marks
abbrev pub steady_under : Bool → Past
steady_under warn = record { carried = warn; believed = warn; marks = [] }

-- in a crossing under warn: whether GTFE is believed to carry a warning, the held codes, and the classes of all eight
abbrev believed_now : Past → Bool → Bool
believed_now past warn = if (beq past.carried warn) warn past.believed

abbrev held_now : Past → Bool → Held
held_now past warn = record { carried = codes_under warn; believed = codes_under (believed_now past warn) }

abbrev classes_now : Past → Bool → List ℕ
classes_now past warn = replicate 8 (if (believed_now past warn) warning ready)

-- what all eight see of a crossing without a marker
abbrev scene_after : Board → Past → Scene
scene_after b past =
    let refused = refused_after (rules_of b.settings) past.marks in
    record { number = number_of b.clock false; holder = (turn_in b false).holder; norm = refused false; low = refused true }

-- of such a crossing, by what all eight see, their classes and the requests: f of each, the row, the next board and what is kept after it
abbrev eight_seeing : {A : Type 0} → (Plan → Scene → List ℕ → ℕ → ℕ → Ptc → A) → Board → Scene → List ℕ → ℕ → List A
eight_seeing f b scene cls requests = map_i (λ k. f (plan_of b.settings k) scene cls requests k) 0 b.ptcs

abbrev row_seeing : Board → Scene → List ℕ → ℕ → List ℕ
row_seeing b scene cls requests = crossing_row (eight_seeing byte_of b scene cls requests) (eight_seeing shown_of b scene cls requests)

abbrev next_seeing : Board → Scene → List ℕ → Held → ℕ → Board
next_seeing b scene cls held requests =
    let bytes = eight_seeing byte_of b scene cls requests in
    passed_on (with_ptcs b (eight_seeing ptc_of b scene cls requests)) (clock_of (orbit_of b.settings) b.clock false bytes) (turn_in b false) held (carries bytes)

abbrev past_seeing : Board → Scene → List ℕ → ℕ → Past → Bool → Past
past_seeing b scene cls requests past warn =
    record { carried = warn; believed = believed_now past warn; marks = one (carries (eight_seeing byte_of b scene cls requests)) ∷ past.marks }

-- a board of standard settings of which held codes and ring tell what the walk keeps
pub record Follows (b : Board) (past : Past) : Type 0 where
  pub std : b.settings ≡ standard
  pub carried : b.held.carried ≡ codes_under past.carried
  pub believed : b.held.believed ≡ codes_under past.believed
  pub long : length b.marks ≡ 32
  pub told : Tells b.marks b.clock.crossings past.marks

pub near_standard : Near (rules_of standard)
unfolding standard
near_standard = record { one = omega arith; two = omega arith; three = omega arith; four = omega arith }

believed_same : (carried believed warn : Bool)
    → believed_of (codes_under carried) (codes_under believed) (codes_under warn) ≡ codes_under (if (beq carried warn) warn believed)
unfolding believed_of map_i steady_byte steady
believed_same true believed true = refl
believed_same false believed false = refl
believed_same true true false = refl
believed_same true false false = refl
believed_same false true true = refl
believed_same false false true = refl

classes_same : (warn : Bool) → classes standard (codes_under warn) ≡ replicate 8 (if warn warning ready)
unfolding classes_by tabulate merged_by highest vote_by member_by counted class_of code_at standard
classes_same true = refl
classes_same false = refl

-- one crossing
module _ {b : Board} {past : Past} (f : Follows b past) (warn : Bool) (requests : ℕ) where
  scene_same : scene_of b false ≡ scene_after b past
  unfolding scene_by
  scene_same =
      let near : Near (rules_of b.settings) = rw f.std near_standard in
      let same = refused_told (rules_of b.settings) near b.marks b.clock.crossings past.marks f.told in
      rw (same false, same true)

  held_same : held_in b (crossing_with warn requests) ≡ held_now past warn
  unfolding next_held
  held_same = rw (f.carried, f.believed, believed_same past.carried past.believed warn)

  known : classes_in b (crossing_with warn requests) ≡ classes_now past warn
  known = rw (f.std, held_same) (classes_same (believed_now past warn))

  row_same : row_of b (crossing_with warn requests) ≡ row_seeing b (scene_after b past) (classes_now past warn) requests
  unfolding row_of crossing_row_by
  row_same = ap₂ (λ (scene : Scene) (cls : List ℕ). row_seeing b scene cls requests) scene_same known

  next_same : stepped b (crossing_with warn requests) ≡ next_seeing b (scene_after b past) (classes_now past warn) (held_now past warn) requests
  unfolding stepped crossed_by
  next_same =
      ap₂ (λ (scene : Scene) (cls : List ℕ). next_seeing b scene cls (held_in b (crossing_with warn requests)) requests) scene_same known
      ∙ ap (λ (held : Held). next_seeing b (scene_after b past) (classes_now past warn) held requests) held_same

  follows_on : Follows (next_seeing b (scene_after b past) (classes_now past warn) (held_now past warn) requests)
      (past_seeing b (scene_after b past) (classes_now past warn) requests past warn)
  unfolding clock_of ticked_of
  follows_on =
      let carried = carries (eight_seeing byte_of b (scene_after b past) (classes_now past warn) requests) in
      record {
        std = f.std;
        carried = refl;
        believed = refl;
        long = passed_long b.marks b.clock.crossings (one carried) ∙ f.long;
        told = tells_on b.marks b.clock.crossings past.marks (one carried) f.long (omega (arith, one_le carried)) f.told;
      }

-- warn tells under which GTFE code and asks with which requests, by how many crossings were before
module _ (warn : ℕ → Bool) (asks : ℕ → ℕ) where
  -- what controller 0 sends
  unfoldable pub walk : ℕ → ℕ → Board → Past → List ℕ
  walk zero k b past = []
  walk (suc left) k b past =
      let scene = scene_after b past in
      let cls = classes_now past (warn k) in
      let byte = get_or (row_seeing b scene cls (asks k)) 0 0 in
      let rest = walk left (suc k) (next_seeing b scene cls (held_now past (warn k)) (asks k)) (past_seeing b scene cls (asks k) past (warn k)) in
      if (eqb byte 0 || (eqb byte 1 || eqb byte 11)) rest (k ∷ byte ∷ rest)

  pub walk_same : (left k : ℕ) {b : Board} {past : Past} → Follows b past → tells (λ n. crossing_with (warn n) (asks n)) left k b ≡ walk left k b past
  unfolding tells walk
  walk_same zero k f = refl
  walk_same (suc left) k f =
      rw (row_same f (warn k) (asks k), next_same f (warn k) (asks k), walk_same left (suc k) (follows_on f (warn k) (asks k)))

  -- the board after them
  unfoldable pub walked : ℕ → ℕ → Board → Past → Board
  walked zero k b past = b
  walked (suc left) k b past =
      let scene = scene_after b past in
      let cls = classes_now past (warn k) in
      walked left (suc k) (next_seeing b scene cls (held_now past (warn k)) (asks k)) (past_seeing b scene cls (asks k) past (warn k))

  pub walked_same : (left k : ℕ) {b : Board} {past : Past} → Follows b past → later (λ n. crossing_with (warn n) (asks n)) left k b ≡ walked left k b past
  unfolding later walked
  walked_same zero k f = refl
  walked_same (suc left) k f = rw (next_same f (warn k) (asks k), walked_same left (suc k) (follows_on f (warn k) (asks k)))
