-- The blocks of a log with no buffer around their rows: what `in_blocks` leaves is that, laid over the buffer, wherever there is room.
-- By induction on the blocks; and since nothing is laid over anything here, m + n blocks are m and then n of what is left.
use mathlib.Core.Path.{◌≡◌, refl, sym, ap, ap₂, ◌∙◌}
use mathlib.Core.Logic.{⊎_elim}
use mathlib.Core.Bool.{true, false, false≢true}
use mathlib.Core.List.{List, [], ◌++◌, append-nil, append_assoc}
use Prim.Native.Nat.{ℕ, zero, suc, ◌+◌, ◌*◌, ◌/◌, ◌≤◌, ◌<◌, min}
use native.Mathlib.Nat.{add-zero, add-suc}
use native.Mathlib.Omega.{arith}
use borrow.Author.Tests.{le-leb}
use lib.ListN.{length, take, drop, length-append, length-take, length-drop}
use lib.Seq.{take-append-le, drop-append-le, take_at, drop_at, drop-drop}
use Rattle.laws.specs.Base.{if}
use Rattle.laws.proofs.Bools.{if_has}
use Rattle.laws.proofs.Tests.{either}
use Rattle.answer.specs.Told.{Told, succeeded, DONE, BOARD}
use Rattle.records.specs.Refusal.{records_in, refusal_of}
use Rattle.records.proofs.Laws.{Settles, settles as settling, refusal_settles}
use Rattle.board.specs.declared.Board.{Board}
use Rattle.board.specs.Run.{ran, rows_of}
use Rattle.board.specs.Sound.{sound_board}
use Rattle.board.specs.Block.{RanOut, answer_of, block_of}
use Rattle.board.proofs.Keeps.{ran_ptcs_long, rows_long}
use Rattle.replay.specs.Replay.{blocks_in, block_at, laid_on, in_blocks}

-- a block that succeeds has no other answer than DONE
pub accepted : (b : Board) (log : List ℕ) (room : ℕ) → Settles (answer_of b log room)
unfolding answer_of
accepted b log room = settling (sound_board b) _ BOARD refl (refusal_settles _ log room)

-- ---- one outcome after another

-- the second's answer and board, and its rows after the first's; a refusal is not gone on from
abbrev pub go_on : RanOut → RanOut → RanOut
go_on o w = record { answer = w.answer; board = w.board; rows = o.rows ++ w.rows }

abbrev pub on_from : RanOut → (Board → RanOut) → RanOut
on_from o next = if (succeeded o.answer) (go_on o (next o.board)) o

on_has : (P : RanOut → Type 0) (o : RanOut) (next : Board → RanOut) → (succeeded o.answer ≡ true → P (go_on o (next o.board)))
    → (succeeded o.answer ≡ false → P o) → P (on_from o next)
on_has P o next = if_has P (succeeded o.answer) (go_on o (next o.board)) o

-- nothing more
abbrev pub nothing_run : Board → RanOut
nothing_run b = record { answer = DONE; board = b; rows = [] }

on_nothing : (o : RanOut) → Settles o.answer → on_from o nothing_run ≡ o
on_nothing o settles =
    ⊎_elim
    (λ (d : succeeded o.answer ≡ true). rw (settles d, append-nil) (rw (← settles d)))
    (λ (d : succeeded o.answer ≡ false). rw d)
    (either (succeeded o.answer))

on_twice : (o : RanOut) (next later : Board → RanOut) → on_from (on_from o next) later ≡ on_from o (λ b. on_from (next b) later)
on_twice o next later =
    ⊎_elim
    (λ (d : succeeded o.answer ≡ true).
    ⊎_elim
    (λ (e : succeeded (next o.board).answer ≡ true). rw (d, e, append_assoc))
    (λ (e : succeeded (next o.board).answer ≡ false). rw (d, e))
    (either (succeeded (next o.board).answer)))
    (λ (d : succeeded o.answer ≡ false). rw (d, d))
    (either (succeeded o.answer))

-- ---- a block, and blocks one after the other

-- a block with just the room for its rows
unfoldable pub bare_block : Board → List ℕ → RanOut
bare_block b log =
    let a = answer_of b log (12 * records_in log) in
    if (succeeded a)
    (record { answer = a; board = ran (records_in log) b log; rows = rows_of (records_in log) b log })
    (record { answer = a; board = b; rows = [] })

unfoldable pub unbuffered : ℕ → Board → List ℕ → RanOut
unbuffered zero b log = nothing_run b
unbuffered (suc n) b log = on_from (unbuffered n b log) (λ c. bare_block c (block_at log n))

-- an outcome laid over the front of a buffer
abbrev pub laid_over : List ℕ → RanOut → RanOut
laid_over rows w = record { answer = w.answer; board = w.board; rows = w.rows ++ drop (length w.rows) rows }

module _ (b : Board) (log : List ℕ) where
  -- the answer, where there is just the room
  abbrev bare_answer : Told
  bare_answer = answer_of b log (12 * records_in log)

  bare_has : (P : RanOut → Type 0)
      → (succeeded bare_answer ≡ true → P (record { answer = bare_answer; board = ran (records_in log) b log; rows = rows_of (records_in log) b log }))
      → (succeeded bare_answer ≡ false → P (record { answer = bare_answer; board = b; rows = [] }))
      → P (bare_block b log)
  unfolding bare_block
  bare_has P = if_has P (succeeded bare_answer) _ _

  bare_settles : Settles (bare_block b log).answer
  bare_settles = bare_has (λ (o : RanOut). Settles o.answer) (λ e. accepted b log (12 * records_in log)) (λ e. accepted b log (12 * records_in log))

  -- more room than that is never asked for
  room_same : (room : ℕ) → 12 * records_in log ≤ room → answer_of b log room ≡ bare_answer
  unfolding answer_of refusal_of
  room_same room enough = rw (le-leb (12 * records_in log) room enough, le-leb (12 * records_in log) (12 * records_in log) (omega arith))

  module _ (long : length b.ptcs ≡ 8) where
    bare_ptcs : length (bare_block b log).board.ptcs ≡ 8
    bare_ptcs = bare_has (λ (o : RanOut). length o.board.ptcs ≡ 8) (λ e. ran_ptcs_long b log (records_in log) ∙ long) (λ e. long)

    bare_long : succeeded (bare_block b log).answer ≡ true → length (bare_block b log).rows ≡ 12 * records_in log
    bare_long =
        bare_has (λ (o : RanOut). succeeded o.answer ≡ true → length o.rows ≡ 12 * records_in log)
        (λ e d. rows_long (records_in log) b log long) (λ e d. absurd (false≢true (sym e ∙ d)))

    bare_most : length (bare_block b log).rows ≤ 12 * records_in log
    bare_most = bare_has (λ (o : RanOut). length o.rows ≤ 12 * records_in log) (λ e. omega (arith, rows_long (records_in log) b log long)) (λ e. omega arith)

    block_bare : (rows : List ℕ) → 12 * records_in log ≤ length rows → block_of b log rows ≡ laid_over rows (bare_block b log)
    unfolding block_of bare_block
    block_bare rows room =
        ⊎_elim
        (λ (d : succeeded bare_answer ≡ true). rw (room_same (length rows) room, d, rows_long (records_in log) b log long))
        (λ (d : succeeded bare_answer ≡ false). rw (room_same (length rows) room, d))
        (either (succeeded bare_answer))

-- ---- m blocks and then n

module _ (b : Board) (log : List ℕ) where
  -- the next block, over the board so far
  abbrev next_of : ℕ → Board → RanOut
  next_of n c = bare_block c (block_at log n)

  settles : (n : ℕ) → Settles (unbuffered n b log).answer
  unfolding unbuffered
  settles zero d = refl
  settles (suc n) d =
      let o = unbuffered n b log in
      on_has (λ (p : RanOut). Settles p.answer) o (next_of n) (λ e. bare_settles o.board (block_at log n)) (λ e. settles n) d

  pub in_turn_lem : (m n : ℕ) → unbuffered (m + n) b log ≡ on_from (unbuffered m b log) (λ c. unbuffered n c (drop (1536 * m) log))
  unfolding unbuffered
  in_turn_lem m zero = rw add-zero (sym (on_nothing (unbuffered m b log) (settles m)))
  in_turn_lem m (suc n) =
      let o = unbuffered m b log in
      let rest = drop (1536 * m) log in
      let at : 1536 * m + 1536 * n ≡ 1536 * (m + n) = omega arith in
      let block : block_at log (m + n) ≡ block_at rest n = rw (drop-drop, at) in
      rw add-suc
      (ap (λ (p : RanOut). on_from p (λ c. bare_block c (block_at log (m + n)))) (in_turn_lem m n)
      ∙ on_twice o (λ c. unbuffered n c rest) (λ c. bare_block c (block_at log (m + n)))
      ∙ ap (λ (x : List ℕ). on_from o (λ c. on_from (unbuffered n c rest) (λ d. bare_block d x))) block)

-- blocks that lie in the first part of a log
pub block_first_lem : (n : ℕ) (x y : List ℕ) → 1536 * suc n ≤ length x → block_at (x ++ y) n ≡ block_at x n
block_first_lem n x y h =
    let before : 1536 * n ≤ length x = omega arith in
    let long : 1536 ≤ length (drop (1536 * n) x) = rw length-drop (omega arith) in
    ap (take 1536) (drop-append-le (1536 * n) x y before) ∙ take-append-le 1536 (drop (1536 * n) x) y long

pub first_part : (n : ℕ) (b : Board) (x y : List ℕ) → 1536 * n ≤ length x → unbuffered n b (x ++ y) ≡ unbuffered n b x
unfolding unbuffered
first_part zero b x y h = refl
first_part (suc n) b x y h =
    ap₂ (λ (o : RanOut) (block : List ℕ). on_from o (λ c. bare_block c block)) (first_part n b x y (omega arith)) (block_first_lem n x y h)

-- ---- how long the rows are

-- the records of the first n blocks
abbrev pub records_up_to : ℕ → List ℕ → ℕ
records_up_to n log = min (1536 * n) (length log) / 24

records_next : (log : List ℕ) (n : ℕ) → records_up_to (suc n) log ≡ records_up_to n log + records_in (block_at log n)
records_next log n = rw (length-take, length-drop) (omega arith)

module _ (b : Board) (log : List ℕ) (long : length b.ptcs ≡ 8) where
  pub up_to_ptcs : (n : ℕ) → length (unbuffered n b log).board.ptcs ≡ 8
  unfolding unbuffered
  up_to_ptcs zero = long
  up_to_ptcs (suc n) =
      let o = unbuffered n b log in
      on_has (λ (p : RanOut). length p.board.ptcs ≡ 8) o (next_of b log n) (λ e. bare_ptcs o.board (block_at log n) (up_to_ptcs n)) (λ e. up_to_ptcs n)

  pub up_to_long : (n : ℕ) → succeeded (unbuffered n b log).answer ≡ true → length (unbuffered n b log).rows ≡ 12 * records_up_to n log
  unfolding unbuffered
  up_to_long zero done = omega arith
  up_to_long (suc n) done =
      let o = unbuffered n b log in
      on_has (λ (p : RanOut). succeeded p.answer ≡ true → length p.rows ≡ 12 * records_up_to (suc n) log) o (next_of b log n)
      (λ e d. rw length-append (omega (arith, records_next log n, up_to_long n e, bare_long o.board (block_at log n) (up_to_ptcs n) d)))
      (λ e d. absurd (false≢true (sym e ∙ d)))
      done

  pub up_to_most : (n : ℕ) → length (unbuffered n b log).rows ≤ 12 * records_up_to n log
  unfolding unbuffered
  up_to_most zero = omega arith
  up_to_most (suc n) =
      let o = unbuffered n b log in
      on_has (λ (p : RanOut). length p.rows ≤ 12 * records_up_to (suc n) log) o (next_of b log n)
      (λ e. rw length-append (omega (arith, records_next log n, up_to_most n, bare_most o.board (block_at log n) (up_to_ptcs n))))
      (λ e. omega (arith, records_next log n, up_to_most n))

-- ---- laid over a buffer

-- one block more, from a place where the rows so far end
laid_next : (o p : RanOut) (block rows : List ℕ) (at : ℕ) → p ≡ laid_over rows o → length o.board.ptcs ≡ 8
    → (succeeded o.answer ≡ true → (length o.rows ≡ at) × (at + 12 * records_in block ≤ length rows))
    → if (succeeded p.answer) (laid_on at p.rows (block_of p.board block (drop at p.rows))) p ≡ laid_over rows (on_from o (λ c. bare_block c block))
laid_next o p block rows at is long fits =
    ⊎_elim
    (λ (d : succeeded o.answer ≡ true).
    let later = drop (length o.rows) rows in
    let ends = (fits d).0 in
    let space : 12 * records_in block ≤ length later = rw length-drop (omega (arith, fits d)) in
    rw (is, d, take_at o.rows later at ends, drop_at o.rows later at ends, block_bare o.board block long later space, drop-drop, length-append, append_assoc))
    (λ (d : succeeded o.answer ≡ false). rw (is, d))
    (either (succeeded o.answer))

module _ (b : Board) (log rows : List ℕ) (long : length b.ptcs ≡ 8) (room : 12 * records_in log ≤ length rows) where
  full : (n : ℕ) → n < blocks_in log → succeeded (unbuffered n b log).answer ≡ true
      → (length (unbuffered n b log).rows ≡ 768 * n) × (768 * n + 12 * records_in (block_at log n) ≤ length rows)
  full n h d = (omega (arith, up_to_long b log long n d), rw (length-take, length-drop) (omega arith))

  pub laid_over_lem : (n : ℕ) → n ≤ blocks_in log → in_blocks n b log rows ≡ laid_over rows (unbuffered n b log)
  unfolding in_blocks unbuffered
  laid_over_lem zero h = refl
  laid_over_lem (suc n) h =
      laid_next (unbuffered n b log) (in_blocks n b log rows) (block_at log n) rows (768 * n) (laid_over_lem n (omega arith)) (up_to_ptcs b log long n) (full n h)
