-- One input, one outcome: two outcomes that meet a contract are seen as the same, and what is seen of an outcome determines it.
-- An answer is determined by what it tells; a line that was read, by what is said of it (`line_known`).
use mathlib.Core.Path.{◌≡◌, refl, sym, ap, ap₂, ◌∙◌}
use mathlib.Core.Bool.{false≢true}
use mathlib.Core.List.{List}
use Prim.Native.Nat.{ℕ}
use Rattle.std.specs.Prelude.{Result, Ok, Err}
use Rattle.answer.specs.declared.Refusal.{Refusal}
use Rattle.answer.specs.Told.{Told, Answer, told, succeeded}
use Rattle.answer.proofs.Told.{told_one, refused, is_ok_told}
use Rattle.text.proofs.Known.{line_known}
use Rattle.settings.specs.declared.Settings.{Settings}
use Rattle.editions.specs.declared.Read.{Read}
use Rattle.editions.specs.Read.{ReadOut, read_out}
use Rattle.editions.specs.Write.{WriteOut, write_out}
use Rattle.records.specs.declared.blocks.Tested.{Tested}
use Rattle.records.specs.Support.Blocks.{TestedOut, tested_out}
use Rattle.salvage.specs.declared.Lengths.{Lengths}
use Rattle.salvage.specs.Salvage.{SalvageOut, salvage_out}
use Rattle.history.specs.declared.Store.{Store}
use Rattle.history.specs.declared.scan.Scan.{Scan}
use Rattle.history.specs.declared.keep.Pen.{Pen}
use Rattle.history.specs.Scan.{start, scanned}
use Rattle.history.specs.Store.{kept}
use Rattle.history.specs.Read.{ReadOut as HistoryOut, read_out as history_out}
use Rattle.history.specs.Support.Pen.{store_at, Aligned}
use Rattle.follower.specs.declared.Follower.{Follower}
use Rattle.steady.specs.declared.Held.{Held}
use Rattle.board.specs.declared.Board.{Board}
use Rattle.board.specs.declared.Made.{Made}
use Rattle.board.specs.Fresh.{MadeOut, made_out}
use Rattle.board.specs.Block.{RanOut, ran_out}
use Rattle.report.specs.Report.{ReportOut, report_out}
use Rattle.beside.specs.Beside.{BesideOut, beside_out}
use Rattle.outcomes.specs.Outcomes.{One, OneOutcome}

-- ---- equations of the result and of what was lent

known : {A : Type 0} (d : A) → One (λ (r : A). r ≡ d)
known d a b p q = p ∙ sym q

bounded : {A : Type 0} (d : A) (P : A → Type 0) → One (λ (r : A). (r ≡ d) × P r)
bounded d P a b p q = known d a b p.0 q.0

between : {A : Type 0} (d : A) (P Q : A → Type 0) → One (λ (r : A). (r ≡ d) × P r × Q r)
between d P Q a b p q = known d a b p.0 q.0

-- facts about what was lent say nothing more of the result
given : {A : Type 0} (d : A) (P Q : Type 0) → One (λ (r : A). (r ≡ d) × P × Q)
given d P Q a b p q = known d a b p.0 q.0

laid : {A B : Type 0} (d : A) (e : B) → One (λ (o : A × B). (o.0 ≡ d) × (o.1 ≡ e))
laid {A} {B} d e a b p q = ap₂ (λ (x : A) (y : B). (x, y)) (known d a.0 b.0 p.0 q.0) (known e a.1 b.1 p.1 q.1)

-- a bound says nothing more of it either
laid_within : {A B : Type 0} (d : A) (e : B) (P : A → Type 0) → One (λ (o : A × B). (o.0 ≡ d) × (o.1 ≡ e) × P o.0)
laid_within d e P a b p q = laid d e a b (p.0, p.1) (q.0, q.1)

-- what is lent may be said first
led : {A B : Type 0} (d : A) (e : B) → One (λ (o : A × B). (o.1 ≡ e) × (o.0 ≡ d))
led d e a b p q = laid d e a b (p.1, p.0) (q.1, q.0)

filled : {B : Type 0} (e : B) → One (λ (o : Unit {0} × B). o.1 ≡ e)
filled {B} e a b p q = ap (λ (y : B). (tt, y)) (known e a.1 b.1 p q)

filled_well : {B : Type 0} (e : B) (P : B → Type 0) → One (λ (o : Unit {0} × B). (o.1 ≡ e) × P o.1)
filled_well e P a b p q = filled e a b p.0 q.0

-- ---- an answer, alone and beside what else is given back

told_known : (d : Told) → One (λ (a : Answer). told a ≡ d)
told_known d a b p q = told_one a b (p ∙ sym q)

-- made into one, an answer and the rest are determined by what is told of the answer and by the rest
beside : {X Out : Type 0} (make : Answer → X → Out) (a b : Answer) (x y : X) → ◌≡◌ {A = Told × X} (told a, x) (told b, y) → make a x ≡ make b y
beside {X} make a b x y e = ap₂ make (told_one a b (ap (λ (o : Told × X). o.0) e)) (ap (λ (o : Told × X). o.1) e)

one_reading : (d : ReadOut) → One (λ (r : Read). read_out r ≡ d)
one_reading d a b p q =
    beside (λ (z : Answer) (s : Settings). record { answer = z; settings = s }) a.answer b.answer a.settings b.settings
    (ap (λ (o : ReadOut). (o.answer, o.settings)) (p ∙ sym q))

one_tested : (d : TestedOut) → One (λ (r : Tested). tested_out r ≡ d)
one_tested d a b p q =
    beside (λ (z : Answer) (n : ℕ). record { answer = z; records = n }) a.answer b.answer a.records b.records
    (ap (λ (o : TestedOut). (o.answer, o.records)) (p ∙ sym q))

one_made : (d : MadeOut) → One (λ (r : Made). made_out r ≡ d)
one_made d a b p q =
    beside (λ (z : Answer) (s : Board). record { answer = z; board = s }) a.answer b.answer a.board b.board
    (ap (λ (o : MadeOut). (o.answer, o.board)) (p ∙ sym q))

one_ran : (d : RanOut) → One (λ (o : Answer × (Board × List ℕ)). ran_out o.0 o.1.0 o.1.1 ≡ d)
one_ran d a b p q =
    beside (λ (z : Answer) (s : Board × List ℕ). (z, s)) a.0 b.0 a.1 b.1 (ap (λ (o : RanOut). (o.answer, (o.board, o.rows))) (p ∙ sym q))

one_written : (d : WriteOut) → One (λ (o : Answer × List ℕ). write_out o.0 o.1 ≡ d)
one_written d a b p q =
    beside (λ (z : Answer) (s : List ℕ). (z, s)) a.0 b.0 a.1 b.1 (ap (λ (o : WriteOut). (o.answer, o.buffer)) (p ∙ sym q))

one_report : (d : ReportOut) → One (λ (o : Answer × List ℕ). report_out o.0 o.1 ≡ d)
one_report d a b p q =
    beside (λ (z : Answer) (s : List ℕ). (z, s)) a.0 b.0 a.1 b.1 (ap (λ (o : ReportOut). (o.answer, o.buffer)) (p ∙ sym q))

one_read_out : (d : HistoryOut) → One (λ (o : Answer × List ℕ). history_out o.0 o.1 ≡ d)
one_read_out d a b p q =
    beside (λ (z : Answer) (s : List ℕ). (z, s)) a.0 b.0 a.1 b.1 (ap (λ (o : HistoryOut). (o.answer, o.buffer)) (p ∙ sym q))

one_beside : (d : BesideOut) → One (λ (o : Answer × (Board × (Store × List ℕ))). beside_out o.0 o.1.0 o.1.1.0 o.1.1.1 ≡ d)
one_beside d a b p q =
    beside (λ (z : Answer) (s : Board × (Store × List ℕ)). (z, s)) a.0 b.0 a.1 b.1
    (ap (λ (o : BesideOut). (o.answer, (o.board, (o.store, o.rows)))) (p ∙ sym q))

-- a salvage that was done tells the lengths, and one that was refused the refusal
one_told : (r q : Result Lengths Refusal) (s c t d : List ℕ) → salvage_out r s c ≡ salvage_out q t d → r ≡ q
one_told (Ok a) (Ok b) s c t d e = ap₂ (λ (m n : ℕ). Ok (record { log = m; list = n })) (ap (λ (o : SalvageOut). o.log) e) (ap (λ (o : SalvageOut). o.list) e)
one_told (Ok a) (Err y) s c t d e = absurd (false≢true (sym (ap (λ (o : SalvageOut). succeeded o.answer) e ∙ refused y)))
one_told (Err x) (Ok b) s c t d e = absurd (false≢true (sym (refused x) ∙ ap (λ (o : SalvageOut). succeeded o.answer) e))
one_told (Err x) (Err y) s c t d e = ap (λ (a : Answer). as_salvage a) (told_one (Err x) (Err y) (ap (λ (o : SalvageOut). o.answer) e))
  where
    as_salvage : Answer → Result Lengths Refusal
    as_salvage (Ok done) = Err x
    as_salvage (Err z) = Err z

buffers : (r : Result Lengths Refusal) (s c : List ℕ) → ((salvage_out r s c).salvaged ≡ s) × ((salvage_out r s c).changes ≡ c)
buffers (Ok written) s c = (refl, refl)
buffers (Err refusal) s c = (refl, refl)

one_salvage : (d : SalvageOut) → One (λ (o : Result Lengths Refusal × (List ℕ × List ℕ)). salvage_out o.0 o.1.0 o.1.1 ≡ d)
one_salvage d a b p q =
    let e = p ∙ sym q in
    let m = buffers a.0 a.1.0 a.1.1 in
    let n = buffers b.0 b.1.0 b.1.1 in
    ap₂ (λ (x : Result Lengths Refusal) (y : List ℕ × List ℕ). (x, y)) (one_told a.0 b.0 a.1.0 a.1.1 b.1.0 b.1.1 e)
    (ap₂ (λ (x y : List ℕ). (x, y)) (sym m.0 ∙ ap (λ (o : SalvageOut). o.salvaged) e ∙ n.0) (sym m.1 ∙ ap (λ (o : SalvageOut). o.changes) e ∙ n.1))

-- ---- a pen and its words, by the store that they stand for and its scan

one_pen : (p q : Pen) (ws vs : List ℕ) → store_at ws p ≡ store_at vs q → Aligned ws p → Aligned vs q → ◌≡◌ {A = Pen × List ℕ} (p, ws) (q, vs)
one_pen p q ws vs e a b =
    let scan = a.scan ∙ ap (λ (s : Store). scanned start (kept s)) e ∙ sym b.scan in
    ap₂ (λ (s : Store) (c : Scan). (record { oldest = s.oldest; used = s.used; scan = c }, s.words)) e scan

one_kept : (d : Store) → One (λ (o : Unit {0} × (Pen × List ℕ)). (store_at o.1.1 o.1.0 ≡ d) × Aligned o.1.1 o.1.0)
one_kept d a b p q = ap (λ (s : Pen × List ℕ). (tt, s)) (one_pen a.1.0 b.1.0 a.1.1 b.1.1 (p.0 ∙ sym q.0) p.1 q.1)

one_followed : (f : Follower) (d : Store)
    → One (λ (o : Unit {0} × (Follower × (List ℕ × Pen))). (o.1.0 ≡ f) × (store_at o.1.1.0 o.1.1.1 ≡ d) × Aligned o.1.1.0 o.1.1.1)
one_followed f d a b p q =
    ap₂ (λ (g : Follower) (s : Pen × List ℕ). (tt, (g, (s.1, s.0)))) (p.0 ∙ sym q.0)
    (one_pen a.1.1.1 b.1.1.1 a.1.1.0 b.1.1.0 (p.1 ∙ sym q.1) p.2 q.2)

-- held codes, by what is believed and what was carried
one_held : {A : Type 0} (d : A) (believed carried : List ℕ) → One (λ (o : A × Held). (o.0 ≡ d) × (o.1.believed ≡ believed) × (o.1.carried ≡ carried))
one_held {A} d believed carried a b p q =
    ap₂ (λ (x : A) (h : List ℕ × List ℕ). (x, record { carried = h.0; believed = h.1 })) (known d a.0 b.0 p.0 q.0)
    (ap₂ (λ (x y : List ℕ). (x, y)) (known carried a.1.carried b.1.carried p.2 q.2) (known believed a.1.believed b.1.believed p.1 q.1))

pub one_outcome : OneOutcome
one_outcome =
    record {
      read = λ κs text. one_reading _;
      write = λ κs s buffer. one_written _;
      check = λ κs s. told_known _;
      fresh = λ s. one_made _;
      block = λ κs board log rows. one_ran _;
      is_sound = λ κs board. known _;
      report = λ κs board buffer. one_report _;
      fresh_store = known _;
      is_sound_store = λ κs store. known _;
      read_out = λ κs store buffer. one_read_out _;
      beside = λ κs board store input log rows. one_beside _;
      salvage = λ κs first log salvaged changes. one_salvage _;
      opened = λ κs text. one_made _;
      run_blocks = λ κs board log rows. one_ran _;
      report_length = λ κs board. known _;
      standard = known _;
      settings_length = λ κs s. known _;
      read_length = λ κs store. known _;
      keep_if = λ κs a board store input log rows. filled_well _ _;
      put_answer = λ κs buffer a. laid_within _ _ _;
      put_block = λ κs buffer at block. laid_within _ _ _;
      number = λ a. known _;
      refusal_number = λ r. known _;
      is_done = is_ok_told;
      test_block = λ κs done log room. told_known _;
      test_blocks = λ κs first log room. one_tested _;
      blocks = λ κs board log rows. one_ran _;
      read_line = λ κs text at head range. line_known _ at _ range;
      read_key = λ κs text at n range. line_known _ at _ range;
      put_bytes = λ κs buffer at s. laid _ _;
      put_line = λ κs buffer at head n. laid _ _;
      put_key = λ κs buffer at n v. laid _ _;
      put_keys = λ κs buffer at first values. laid _ _;
      line_length = λ n v. bounded _ _;
      lines_length = λ κs first values. bounded _ _;
      range = λ n. between _ _ _;
      relations = λ κs s. told_known _;
      put_row = λ κs buffer row. filled _;
      pass = λ κs ring c x. filled _;
      command = λ κs p waits command. led _ _;
      same = λ κs a b. bounded _ _;
      code = λ carried believed now. bounded _ _;
      code_at = λ κs codes input. bounded _ _;
      keep = λ κs pen words c. one_kept _;
      crossed = λ κs f words pen orbit marker code first. one_followed _ _;
      is_firm = λ κs held. given _ _ _;
      follow = λ κs held firm codes. one_held _ _ _;
      first_sight = λ κs turn kit held. given _ _ _;
      next_sight = λ κs sight kit busy clock calm held rec. laid _ _;
    }
