-- The blocks of a log, tested in turn: what the test of one more says, and that the records before the first refusal can be run in one call.
-- A turn is a clause of the definition; the records before a block and its own are those of the log, and so are their crossings.
use mathlib.Core.Path.{◌≡◌, refl, ap, sym, ◌∙◌}
use mathlib.Core.Logic.{⊎_elim}
use mathlib.Core.Bool.{true, false, false≢true}
use mathlib.Core.List.{List}
use Prim.Native.Nat.{ℕ, zero, suc, ◌+◌, ◌-◌, ◌*◌, ◌≤◌, ◌<◌, min}
use native.Mathlib.Nat.{add-zero, zero-add, suc-add, not-suc-le-zero}
use native.Mathlib.Numerals.{add-one}
use native.Mathlib.Omega.{arith}
use lib.ListN.{length, take, drop, length-take, length-drop}
use Rattle.std.specs.declared.iter.Enumerate.{Enumerate}
use Rattle.std.specs.declared.slice.Chunks.{Chunks}
use Rattle.std.specs.Iterator.Adapters.{enumerate_count}
use Rattle.laws.specs.Base.{if}
use Rattle.laws.proofs.Bools.{if_has}
use Rattle.laws.proofs.Tests.{lt_or_ge}
use Rattle.answer.specs.Told.{Told, succeeded, DONE}
use Rattle.records.specs.Records.{rec_at, well, first_ill, crossings_in}
use Rattle.records.specs.Refusal.{LIFETIME, records_in, refusal_of, Ready}
use Rattle.records.specs.Support.Blocks.{block_count, block_in, TestedOut, tested_of}
use Rattle.records.proofs.Chunks.{Turn}
use Rattle.records.proofs.Laws.{rec_cut, rec_start, crossings_cut, crossings_start, well_at_lem, all_formed, ready, refusal_settles}

block_long : (log : List ℕ) (i : ℕ) → length (block_in log i) ≡ min 1536 (length log - 1536 * i)
block_long log i = rw (length-take, length-drop)

-- ---- records that can be run in one call

-- the first m of a log
pub record Clear (done : ℕ) (log : List ℕ) (room m : ℕ) : Type 0 where
  pub within : 24 * m ≤ length log
  pub space : 12 * m ≤ room
  pub formed : (i : ℕ) → i < m → well (rec_at log i) ≡ true
  pub life : done + crossings_in m log ≤ LIFETIME

module _ (done : ℕ) (log : List ℕ) (room : ℕ) where
  none_clear : done ≤ LIFETIME → Clear done log room 0
  unfolding crossings_in
  none_clear h = record { within = omega arith; space = omega arith; formed = λ i l. absurd (not-suc-le-zero l); life = omega arith }

  -- a block that is ready after them joins on
  clear_on : (m l : ℕ) (block : List ℕ) → block ≡ take l (drop (24 * m) log) → Clear done log room m
      → Ready (done + crossings_in m log) block (room - 12 * m) → Clear done log room (m + records_in block)
  clear_on m l block is c r =
      let k = records_in block in
      let long : length block ≡ min l (length log - 24 * m) = ap length is ∙ rw (length-take, length-drop) in
      let here : (i : ℕ) → i < k → rec_at log (m + i) ≡ rec_at block i = λ i h. rec_cut log m i ∙ rw is (sym (rec_start (drop (24 * m) log) l i (omega (arith, r.whole)))) in
      let lives = crossings_cut log m k in
      let same : crossings_in k block ≡ crossings_in k (drop (24 * m) log) = ap (crossings_in k) is ∙ crossings_start (drop (24 * m) log) l k (omega (arith, r.whole)) in
      record {
        within = omega (arith, r.whole, c.within);
        space = omega (arith, r.space, c.space);
        formed = λ i h.
            ⊎_elim
            (λ (b : i < m). c.formed i b)
            (λ (a : m ≤ i).
            let past : i ≡ m + (i - m) = omega arith in
            let in_block : i - m < k = omega arith in
            ap (λ (j : ℕ). well (rec_at log j)) past ∙ ap well (here (i - m) in_block) ∙ well_at_lem k block r.formed (i - m) in_block)
            (lt_or_ge i m);
        life = omega (arith, r.life, lives, same);
      }

-- what a run of them asks of the part that is lent
pub clear_formed : (done : ℕ) (log : List ℕ) (room m : ℕ) → Clear done log room m → first_ill m (take (24 * m) log) ≡ m
clear_formed done log room m c = all_formed m (take (24 * m) log) (λ i h. rw (rec_start log (24 * m) i (omega arith)) (c.formed i h))

-- ---- the blocks

module _ (first : ℕ) (log : List ℕ) (room : ℕ) where
  -- what block n is told where those before it went through
  abbrev pub answer_at : ℕ → Told
  answer_at n = refusal_of (first + crossings_in (64 * n) log) (block_in log n) (room - 768 * n)

  pub tested_next : (n : ℕ) → succeeded (tested_of n first log room).answer ≡ true
      → tested_of (suc n) first log room ≡ record { answer = answer_at n; records = 64 * n + if (succeeded (answer_at n)) (records_in (block_in log n)) 0 }
  unfolding tested_of
  tested_next n so = rw so

  pub tested_stops : (n : ℕ) → succeeded (tested_of n first log room).answer ≡ false → tested_of (suc n) first log room ≡ tested_of n first log room
  unfolding tested_of
  tested_stops n d = rw d

  tested_stays : (k n : ℕ) → succeeded (tested_of n first log room).answer ≡ false → tested_of (k + n) first log room ≡ tested_of n first log room
  tested_stays zero n d = rw zero-add
  tested_stays (suc k) n d = let on = tested_stays k n d in rw suc-add (tested_stops (k + n) (rw on d) ∙ on)

  -- blocks that went through and are not the last have 64 records each
  pub tested_full : (n : ℕ) → 1536 * n ≤ length log → succeeded (tested_of n first log room).answer ≡ true → (tested_of n first log room).records ≡ 64 * n
  unfolding tested_of
  tested_full zero h d = refl
  tested_full (suc n) h d =
      if_has (λ (o : TestedOut). succeeded o.answer ≡ true → o.records ≡ 64 * suc n) (succeeded (tested_of n first log room).answer) _ _
      (λ e f. rw f (omega (arith, block_long log n)))
      (λ e f. absurd (false≢true (sym e ∙ f)))
      d

  -- whatever is refused, the records before it can be run
  pub tested_clear : first ≤ LIFETIME → (n : ℕ) → n ≤ block_count log → Clear first log room (tested_of n first log room).records
  unfolding tested_of
  tested_clear life zero h = none_clear first log room life
  tested_clear life (suc n) h =
      let before = tested_clear life n (omega arith) in
      let at : 24 * (64 * n) ≡ 1536 * n = omega arith in
      let rows : 12 * (64 * n) ≡ 768 * n = omega arith in
      if_has (λ (o : TestedOut). Clear first log room o.records) (succeeded (tested_of n first log room).answer) _ _
      (λ e.
      let c = rw (tested_full n (omega (arith, h)) e) at before in
      if_has (λ (k : ℕ). Clear first log room (64 * n + k)) (succeeded (answer_at n)) _ _
      (λ d.
      let r = ready (first + crossings_in (64 * n) log) (block_in log n) (room - 768 * n) (refusal_settles _ _ _ d) in
      clear_on first log room (64 * n) 1536 (block_in log n) (rw at refl) c (rw rows r))
      (λ d. rw add-zero c))
      (λ e. before)

  -- ---- the loop: the first n blocks went through

  abbrev pub Through : ℕ → Type 0
  Through n = tested_of n first log room ≡ record { answer = DONE; records = records_in (take (1536 * n) log) }

  pub none_through : Through 0
  unfolding tested_of
  none_through = refl

  went : (n : ℕ) → Through n → succeeded (tested_of n first log room).answer ≡ true
  went n so = ap (λ (o : TestedOut). succeeded o.answer) so

  pub through_next : (n : ℕ) → 1536 * n < length log → Through n → answer_at n ≡ DONE → Through (n + 1)
  through_next n more so d =
      let sum : 64 * n + records_in (block_in log n) ≡ records_in (take (1536 * suc n) log) = omega (arith, block_long log n, length-take (1536 * suc n) log) in
      rw add-one (tested_next n (went n so) ∙ rw (d, sum))

  pub refused_here : (n m : ℕ) → n < m → Through n → succeeded (answer_at n) ≡ false → tested_of m first log room ≡ record { answer = answer_at n; records = 64 * n }
  refused_here n m h so d =
      let here : tested_of (suc n) first log room ≡ record { answer = answer_at n; records = 64 * n } = tested_next n (went n so) ∙ rw (d, add-zero) in
      let e : m - suc n + suc n ≡ m = omega arith in
      rw e at (tested_stays (m - suc n) (suc n) (rw here d)) ∙ here

  -- before a turn: where one more follows, the crossings are counted and its rows have room
  pub record Gone (n done : ℕ) : Type 0 where
    pub within : n ≤ block_count log
    pub life : done ≤ LIFETIME
    pub through : Through n
    pub counted : 1536 * n < length log → done ≡ first + crossings_in (64 * n) log
    pub space : 1536 * n < length log → 768 * n ≤ room

  pub none_gone : first ≤ LIFETIME → Gone 0 first
  unfolding crossings_in
  none_gone h = record { within = omega arith; life = h; through = none_through; counted = λ m. omega arith; space = λ m. omega arith }

  -- a turn, whose block the code asks with the crossings that it has counted
  module _ (it next : Enumerate (Chunks ℕ)) (n done : ℕ) (block : List ℕ) (t : Turn 1536 log it next n block) (g : Gone (enumerate_count it) done)
      (a : Told) (asked : a ≡ refusal_of done block (room - 768 * n)) where
    before : Gone n done
    before = rw t.place g

    said : a ≡ answer_at n
    said = asked ∙ rw (t.is, before.counted t.more)

    pub gone_until : succeeded a ≡ false → record { answer = a; records = 64 * n } ≡ tested_of (block_count log) first log room
    gone_until no_more = rw said (sym (refused_here n (block_count log) (omega (arith, t.more)) before.through (rw said at no_more)))

    module _ (went_on : succeeded a ≡ true) (x : ℕ) (counted : x ≡ crossings_in (records_in block) block) where
      done_here : answer_at n ≡ DONE
      done_here = refusal_settles _ _ _ (rw said at went_on)

      here : Ready (first + crossings_in (64 * n) log) (block_in log n) (room - 768 * n)
      here = ready _ _ _ done_here

      is : x ≡ crossings_in (records_in (block_in log n)) (block_in log n)
      is = rw t.is at counted

      lives_on : done + x ≤ LIFETIME
      lives_on = omega (arith, before.counted t.more, here.life, is)

      -- where one more follows, its crossings and its rows come after those of this one
      done_on : 1536 * (n + 1) < length log → done + x ≡ first + crossings_in (64 * (n + 1)) log
      done_on more =
          let full : records_in (block_in log n) ≡ 64 = omega (arith, block_long log n) in
          let seam : 64 * (n + 1) ≡ 64 * n + 64 = omega arith in
          let at : 24 * (64 * n) ≡ 1536 * n = omega arith in
          let all = rw at at (crossings_cut log (64 * n) 64) in
          let own = rw full at is ∙ crossings_start (drop (1536 * n) log) 1536 64 (omega arith) in
          rw seam (omega (arith, before.counted t.more, all, own))

      pub gone_on : Gone (enumerate_count next) (done + x)
      gone_on =
          rw t.on
          (record {
            within = omega (arith, t.more);
            life = lives_on;
            through = through_next n t.more before.through done_here;
            counted = done_on;
            space = λ more. omega (arith, before.space t.more, here.space, block_long log n);
          })
