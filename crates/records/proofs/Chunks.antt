-- A loop over the numbered chunks of a log: before each turn the iterator has the log from its number's chunk on.
-- A turn takes the chunk that stands there, as the steps of `chunks` and of `enumerate` say.
use mathlib.Core.Path.{◌≡◌, sym, ap, ◌∙◌}
use mathlib.Core.Logic.{⊎_elim}
use mathlib.Core.List.{List, ◌++◌}
use Prim.Native.Nat.{ℕ, ◌+◌, ◌*◌, ◌≤◌, ◌<◌, min}
use native.Mathlib.Nat.{mul-zero, mul-suc}
use native.Mathlib.Numerals.{add-one}
use native.Mathlib.Omega.{arith}
use lib.ListN.{length, take, drop, length-drop, drop_of_length-le}
use lib.Seq.{drop-drop, take-append_seam, drop-append_seam}
use Rattle.std.proofs.Common.{Option, Some, Bor}
use Rattle.std.proofs.lemmas.List.{take_min}
use Rattle.std.specs.declared.iter.Enumerate.{Enumerate}
use Rattle.std.specs.declared.slice.Chunks.{Chunks}
use Rattle.std.specs.Iterator.Adapters.{enumerate_source, enumerate_count, enumerate_steps}
use Rattle.std.specs.Slice.Iter.{chunks_rest, chunks_size, chunks_steps}
use Rattle.laws.proofs.Tests.{lt_or_ge}

-- ---- the first chunk of what is left, and what it leaves

drop_min : (w : ℕ) (l : List ℕ) → drop (min w (length l)) l ≡ drop w l
drop_min w l =
    ⊎_elim
    (λ (h : w < length l). let e : min w (length l) ≡ w = omega arith in rw e)
    (λ (h : length l ≤ w). let e : min w (length l) ≡ length l = omega arith in let past : length l ≤ length l = omega arith in rw (e, drop_of_length-le l past, drop_of_length-le l h))
    (lt_or_ge w (length l))

cut : (w : ℕ) (whole chunk rest : List ℕ) → whole ≡ chunk ++ rest → length chunk ≡ min w (length whole) → (chunk ≡ take w whole) × (rest ≡ drop w whole)
cut w whole chunk rest e h =
    let long : length chunk ≡ min w (length (chunk ++ rest)) = rw e at h in
    let front = rw long at (take-append_seam chunk rest) in
    let back = rw long at (drop-append_seam chunk rest) in
    rw e (sym front ∙ take_min w (chunk ++ rest), sym back ∙ drop_min w (chunk ++ rest))

-- ---- the loop

module _ (w : ℕ) (log : List ℕ) where
  pub record Left (it : Enumerate (Chunks ℕ)) : Type 0 where
    pub size : chunks_size (enumerate_source it) ≡ w
    pub rest : chunks_rest (enumerate_source it) ≡ drop (w * enumerate_count it) log

  pub start : (s : Chunks ℕ) (made it : Enumerate (Chunks ℕ)) → chunks_size s ≡ w → chunks_rest s ≡ log → enumerate_source made ≡ s → enumerate_count made ≡ 0 → it ≡ made
      → Left it × (enumerate_count it ≡ 0)
  start s made it size rest source none is = rw is (record { size = rw source size; rest = rw (source, none, mul-zero) rest }, none)

  pub record Turn (it next : Enumerate (Chunks ℕ)) (i : ℕ) (chunk : List ℕ) : Type 0 where
    pub place : i ≡ enumerate_count it
    pub more : w * i < length log
    pub is : chunk ≡ take w (drop (w * i) log)
    pub on : enumerate_count next ≡ i + 1
    pub left : Left next

  pub turn : (it next : Enumerate (Chunks ℕ)) (r : Option (ℕ × Bor (List ℕ))) (i : ℕ) (chunk : Bor (List ℕ))
      → Left it → enumerate_steps chunks_steps it r next → r ≡ Some (i, chunk) → Turn it next i chunk.now
  turn it next r i chunk l s e =
      let st = rw e at s in
      let place : i ≡ enumerate_count it = st.1 in
      let rest : chunks_rest (enumerate_source it) ≡ drop (w * i) log = rw place l.rest in
      let size : length chunk.now ≡ min w (length (drop (w * i) log)) = st.0.1.1 ∙ rw (l.size, rest) in
      let here = cut w (drop (w * i) log) chunk.now (chunks_rest (enumerate_source next)) (sym rest ∙ st.0.1.0) size in
      let on : enumerate_count next ≡ i + 1 = rw place st.2 in
      let after : w * i + w ≡ w * (i + 1) = rw (add-one, mul-suc) in
      record {
        place = place;
        more = omega (arith, ap length rest, length-drop (w * i) log, st.0.1.2);
        is = here.0;
        on = on;
        left = record { size = st.0.0 ∙ l.size; rest = here.1 ∙ rw (drop-drop, after, on) };
      }
