-- Every store that a fresh one becomes is sound and holds the last changes.
-- One change after the other (`keeps`): what went before is gone still, and where a group goes at least 239 and the new one are left.
use mathlib.Core.Path.{◌≡◌, refl, sym, ap, ◌∙◌}
use mathlib.Core.Logic.{◌⊎◌, inl, inr}
use mathlib.Core.Bool.{true}
use mathlib.Core.List.{List, [], ◌∷◌, ◌++◌, append_assoc, append-nil}
use Prim.Native.Nat.{ℕ, ◌+◌, ◌-◌, ◌≤◌}
use native.Mathlib.Omega.{arith}
use lib.ListN.{length, drop, length-append, length-drop}
use lib.Seq.{drop-drop, drop-append-le}
use Rattle.history.specs.declared.Store.{Store}
use Rattle.history.specs.declared.keep.Change.{Change}
use Rattle.history.specs.Scan.{scanned, read}
use Rattle.history.specs.Store.{content, fresh_store, sound_store}
use Rattle.history.specs.Keep.{kept_with, kept_all}
use Rattle.history.specs.Read.{changes_in}
use Rattle.history.specs.Recall.{AllFit, LastOf, Recalling}
use Rattle.history.proofs.Scans.{start_ends}
use Rattle.history.proofs.Keeps.{parts_sound, keeps}

pub kept_append : (s : Store) (l m : List Change) → kept_all s (l ++ m) ≡ kept_all (kept_all s l) m
unfolding kept_all
kept_append s [] m = refl
kept_append s (c ∷ l) m = kept_append (kept_with s c) l m

pub fit_append : (l m : List Change) → AllFit l → AllFit m → AllFit (l ++ m)
fit_append [] m f g = g
fit_append (c ∷ l) m f g = (f.0, fit_append l m f.1 g)

-- a sound store stays so
pub kept_sound : (s : Store) (cs : List Change) → length s.words ≡ 1024 → sound_store s ≡ true → AllFit cs
    → (length (kept_all s cs).words ≡ 1024) × (sound_store (kept_all s cs) ≡ true)
unfolding kept_all
kept_sound s [] long sound f = (long, sound)
kept_sound s (c ∷ cs) long sound f = let k = keeps s c long sound f.0 in kept_sound (kept_with s c) cs k.long (parts_sound _ k.sound) f.1

-- one change later
one_later : (all left : List Change) (c : Change) (g : ℕ) → LastOf all left → (g ≡ 0) ⊎ (239 ≤ length (drop g left))
    → LastOf (all ++ (c ∷ [])) (drop g left ++ (c ∷ []))
one_later all left c g p many = go many p.many
  where
    long : length left ≡ length all - p.gone
    long = rw p.last (length-drop p.gone all)

    behind : (l : List Change) → length (l ++ (c ∷ [])) ≡ length l + 1
    behind l = length-append l (c ∷ [])

    made : g ≤ length left → (p.gone + g ≡ 0) ⊎ (240 ≤ length (drop g left ++ (c ∷ []))) → LastOf (all ++ (c ∷ [])) (drop g left ++ (c ∷ []))
    made h m =
        let inside : p.gone + g ≤ length all = omega (arith, long, p.within) in
        let same : drop g left ≡ drop (p.gone + g) all = ap (drop g) p.last ∙ drop-drop g p.gone all in
        record {
          gone = p.gone + g;
          within = omega (arith, inside, behind all);
          last = ap (λ (l : List Change). l ++ (c ∷ [])) same ∙ sym (drop-append-le (p.gone + g) all (c ∷ []) inside);
          many = m;
        }

    go : (g ≡ 0) ⊎ (239 ≤ length (drop g left)) → (p.gone ≡ 0) ⊎ (240 ≤ length left) → LastOf (all ++ (c ∷ [])) (drop g left ++ (c ∷ []))
    go (inl z) (inl y) = made (omega arith) (inl (omega arith))
    go (inl z) (inr y) = made (omega arith) (inr (rw z (omega (arith, y, behind left))))
    go (inr z) y = let d = length-drop g left in made (omega (arith, d, z)) (inr (omega (arith, z, behind (drop g left))))

-- from a store that holds the last of `all`
later : (s : Store) (all cs : List Change) → length s.words ≡ 1024 → sound_store s ≡ true → LastOf all (changes_in s) → AllFit cs
    → (sound_store (kept_all s cs) ≡ true) × LastOf (all ++ cs) (changes_in (kept_all s cs))
unfolding kept_all
later s all [] long sound p f = (sound, rw append-nil p)
later s all (c ∷ cs) long sound p f =
    let k = keeps s c long sound f.0 in
    let q = one_later all (changes_in s) c k.gone p k.many in
    let r = later (kept_with s c) (all ++ (c ∷ [])) cs k.long (parts_sound _ k.sound) (rw k.changes q) f.1 in
    (r.0, rw (append_assoc all (c ∷ []) cs) at r.1)

pub fresh_sound : sound_store fresh_store ≡ true
unfolding fresh_store content scanned
fresh_sound = parts_sound fresh_store (record { used = omega arith; oldest = omega arith; groups = start_ends })

pub recalling : Recalling
unfolding fresh_store content read
recalling cs f =
    let none : LastOf [] (changes_in fresh_store) = record { gone = 0; within = omega arith; last = refl; many = inl refl } in
    let r = later fresh_store [] cs refl fresh_sound none f in
    record { sound = r.0; changes = r.1 }
