-- What mending does to the bytes of a record: it never raises one, and of a well-formed record it changes none.
-- Each opens one definition, by cases on the byte's place and on the record's kind.
use mathlib.Core.Path.{◌≡◌, refl, sym, ◌∙◌}
use mathlib.Core.Logic.{⊎_elim}
use mathlib.Core.Bool.{true}
use mathlib.Core.List.{List}
use Prim.Native.Nat.{ℕ, ◌+◌, ◌-◌, ◌%◌, ◌≤◌, ◌<◌}
use native.Mathlib.Nat.{zero-add}
use native.Mathlib.Omega.{arith}
use borrow.Author.Tests.{eqb-true, ltb-true, ltb-false, eq-eqb, le-leb}
use lib.Dec.{eqb, ltb}
use lib.ListN.{length, get_or, drop, length-drop}
use lib.Seq.{get_or-drop}
use Rattle.laws.specs.Base.{all_b}
use Rattle.laws.proofs.Bools.{both, if_has}
use Rattle.laws.proofs.All.{all_get}
use Rattle.laws.proofs.Over.{get_or-map_i}
use Rattle.laws.proofs.Maps.{map_is}
use Rattle.records.specs.Records.{is_crossing, well_crossing, well_command, well}
use Rattle.records.proofs.Laws.{well_kind, crossing_facts, command_facts}
use Rattle.salvage.specs.Mending.{known_command, is_kept, mend, mended}

-- ---- one byte

crossing_has : (P : ℕ → Type 0) (k b : ℕ) → (k ≡ 1 → P (b % 2)) → (k ≡ 3 → P (b % 16)) → P b → P (mend 0 k b)
unfolding mend
crossing_has P k b marker gtfe other =
    if_has P (eqb k 1) _ _ (λ e. marker (eqb-true k 1 e)) (λ e. if_has P (eqb k 3) _ _ (λ f. gtfe (eqb-true k 3 f)) (λ f. other))

pub command_has : (P : ℕ → Type 0) (k b : ℕ) → (k < 3 → P b) → (3 ≤ k → P 0) → P (mend 1 k b)
unfolding mend
command_has P k b known reserved = if_has P (ltb k 3) _ _ (λ e. known (ltb-true k 3 e)) (λ e. reserved (ltb-false k 3 e))

pub mend_most : (kind k b : ℕ) → mend kind k b ≤ b
unfolding mend
mend_most kind k b =
    if_has (λ (x : ℕ). x ≤ b) (eqb kind 0) _ _
    (λ e. if_has (λ (x : ℕ). x ≤ b) (eqb k 1) _ _ (λ f. omega arith) (λ f. if_has (λ (x : ℕ). x ≤ b) (eqb k 3) _ _ (λ g. omega arith) (λ g. omega arith)))
    (λ e. if_has (λ (x : ℕ). x ≤ b) (ltb k 3) _ _ (λ f. omega arith) (λ f. omega arith))

pub mended_byte : (rec : List ℕ) (k : ℕ) → k < length rec → get_or (mended rec) k 0 ≡ mend (get_or rec 0 0) k (get_or rec k 0)
unfolding mended
mended_byte rec k h = get_or-map_i (mend (get_or rec 0 0)) 0 k rec 0 0 h ∙ rw zero-add

-- ---- a well-formed record

-- a command is of known controller and command, and its reserved bytes are 0
pub command_known : (rec : List ℕ) → well_command rec ≡ true → (known_command rec ≡ true) × (all_b (λ b. eqb b 0) (drop 3 rec) ≡ true)
unfolding known_command
command_known rec e =
    let f = command_facts rec e in
    (rw (eq-eqb _ _ f.0, le-leb _ _ f.1, le-leb _ _ f.2, le-leb _ _ f.3), f.4)

pub known_kind : (rec : List ℕ) → known_command rec ≡ true → get_or rec 0 0 ≡ 1
unfolding known_command
known_kind rec e = eqb-true _ _ (both (eqb (get_or rec 0 0) 1) _ e).0

module _ (rec : List ℕ) (long : length rec ≡ 24) where
  pub crossing_kept : is_crossing rec ≡ true → is_kept rec ≡ true
  unfolding is_kept
  crossing_kept e = rw (eq-eqb (length rec) 24 long, e)

  pub command_kept : known_command rec ≡ true → is_kept rec ≡ true
  unfolding is_kept
  command_kept e = rw (eq-eqb (length rec) 24 long, known_kind rec e, e)

  reserved : (k : ℕ) → k < 24 → all_b (λ b. eqb b 0) (drop 3 rec) ≡ true → 3 ≤ k → get_or rec k 0 ≡ 0
  reserved k h e p =
      let inside : k - 3 < length (drop 3 rec) = rw length-drop (omega arith) in
      let place : 3 + (k - 3) ≡ k = omega arith in
      let none : get_or (drop 3 rec) (k - 3) 0 ≡ 0 = eqb-true _ _ (all_get (λ b. eqb b 0) (drop 3 rec) (k - 3) 0 e inside) in
      rw (get_or-drop 3 rec (k - 3) 0, place) at none

  same_crossing : well_crossing rec ≡ true → (k : ℕ) → mend (get_or rec 0 0) k (get_or rec k 0) ≡ get_or rec k 0
  same_crossing w k =
      let f = crossing_facts rec w in
      rw f.0
      (crossing_has (λ (x : ℕ). x ≡ get_or rec k 0) k (get_or rec k 0)
      (λ e. let low : get_or rec k 0 ≤ 1 = rw e f.1 in omega arith)
      (λ e. let low : get_or rec k 0 ≤ 15 = rw e f.2 in omega arith)
      refl)

  same_command : well_command rec ≡ true → (k : ℕ) → k < 24 → mend (get_or rec 0 0) k (get_or rec k 0) ≡ get_or rec k 0
  same_command w k h =
      let f = command_known rec w in
      rw (known_kind rec f.0)
      (command_has (λ (x : ℕ). x ≡ get_or rec k 0) k (get_or rec k 0) (λ p. refl) (λ p. sym (reserved k h f.1 p)))

  module _ (w : well rec ≡ true) where
    pub same_byte : (k : ℕ) → k < 24 → mend (get_or rec 0 0) k (get_or rec k 0) ≡ get_or rec k 0
    same_byte k h =
        ⊎_elim (λ (c : well_crossing rec ≡ true). same_crossing c k) (λ (c : well_command rec ≡ true). same_command c k h) (well_kind rec w)

    pub well_kept : is_kept rec ≡ true
    well_kept =
        ⊎_elim
        (λ (c : well_crossing rec ≡ true). crossing_kept (eq-eqb _ 0 (crossing_facts rec c).0))
        (λ (c : well_command rec ≡ true). command_kept (command_known rec c).0)
        (well_kind rec w)

    pub mended_same : mended rec ≡ rec
    unfolding mended
    mended_same = map_is (mend (get_or rec 0 0)) rec 0 0 rec refl (λ k h. same_byte k (rw long at h))
