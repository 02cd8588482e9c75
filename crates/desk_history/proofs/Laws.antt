-- From the files to what is printed: board and store so far are those of some whole blocks, all accepted, and the next piece goes on from there.
-- A piece that is accepted has run through as one block, so the store that followed it is the longer log's.
use mathlib.Core.Path.{◌≡◌, refl, sym, ap, ◌∙◌}
use mathlib.Core.Bool.{Bool, true, false, false≢true}
use mathlib.Core.List.{List, [], ◌++◌}
use Prim.Native.Nat.{ℕ, ◌*◌, ◌%◌, ◌≤◌}
use native.Mathlib.Omega.{arith}
use borrow.Author.Tests.{le-leb}
use lib.ListN.{length, take, drop, replicate, length-append, length-take}
use lib.Seq.{take_at}
use Rattle.answer.specs.Told.{Answer, told, succeeded, DONE}
use Rattle.answer.proofs.Told.{told_done}
use Rattle.records.specs.Refusal.{records_in, Ready}
use Rattle.text.specs.Bytes.{put}
use Rattle.text.proofs.Bytes.{put_front}
use Rattle.history.specs.declared.Store.{Store}
use Rattle.history.specs.Store.{fresh_store, sound_store}
use Rattle.history.specs.Keep.{kept_all}
use Rattle.history.specs.Read.{read_bytes, read_length, ReadOut, read_out, read_of}
use Rattle.history.proofs.Keeps.{read_fits}
use Rattle.history.proofs.Recall.{fresh_sound}
use Rattle.board.specs.declared.Board.{Board}
use Rattle.board.specs.declared.Made.{Made}
use Rattle.board.specs.Sound.{sound_board}
use Rattle.board.specs.Run.{ran}
use Rattle.board.specs.Fresh.{MadeOut}
use Rattle.board.specs.Block.{RanOut, ran_out, block_of}
use Rattle.board.proofs.Answers.{block_ready, block_answer, block_done}
use Rattle.board.proofs.Keeps.{Fit}
use Rattle.replay.specs.Replay.{blocks_in, in_blocks, opened_of}
use Rattle.replay.specs.Printed.{replayed}
use Rattle.cut.specs.Blocks.{Whole}
use Rattle.cut.proofs.Accepted.{fit_of, after_fit}
use Rattle.cut.proofs.Program.{program}
use Rattle.pieces.proofs.Printing.{printing}
use Rattle.beside.specs.Changes.{changes_over}
use Rattle.beside.specs.Beside.{followed}
use Rattle.beside.specs.Support.Through.{Through}
use Rattle.beside.proofs.Answers.{run_through}
use Rattle.recall.proofs.Parts.{followed_parts}
use Rattle.ending.specs.Ends.{over}
use Rattle.ending.proofs.Ends.{went_on}
use Rattle.shell.specs.Opened.{OfSomeText}
use Rattle.shell.specs.Pieces.{piece_run, is_full}
use Rattle.shell.proofs.Laws.{SoFar, full_piece, more}
use Rattle.desk_history.specs.Printed.{history_printed, kept_after, OpenedBy, FollowedSomeLog, Closing, OfSomeFiles}

-- ---- a log that went through in blocks of 64, as one block

pub record Accepted (b : Board) (log rows : List ℕ) : Type 0 where
  pub whole : in_blocks (blocks_in log) b log rows ≡ block_of b log rows
  pub board : (in_blocks (blocks_in log) b log rows).board ≡ ran (records_in log) b log
  pub ready : Ready b.clock.crossings log (length rows)

accepted : (b : Board) (log rows : List ℕ) → Whole b → sound_board b ≡ true → (in_blocks (blocks_in log) b log rows).answer ≡ DONE → Accepted b log rows
accepted b log rows w sound done =
    let one = program.only b log rows w sound done in
    let same = program.same b log rows w one in
    record {
      whole = same;
      board = ap (λ (o : RanOut). o.board) (same ∙ block_done b log rows one);
      ready = (block_ready b log (length rows) (sym (block_answer b log rows) ∙ one)).1;
    }

-- ---- the pieces so far

module _ (fresh : Board) (w : Whole fresh) (sound : sound_board fresh ≡ true) where
  -- the board after them
  module _ (b : Board) (so : SoFar fresh b) where
    went : Accepted fresh so.log (replicate (12 * records_in so.log) 0)
    unfolding replayed
    went = accepted fresh so.log (replicate (12 * records_in so.log) 0) w sound so.done

    reached : b ≡ ran (records_in so.log) fresh so.log
    unfolding replayed
    reached = sym so.board ∙ went.board

    fit : Fit b
    fit = rw reached (after_fit fresh so.log (length (replicate {A = ℕ} (12 * records_in so.log) 0)) (fit_of fresh w sound) went.ready)

    whole : Whole b
    whole = record { ptcs = fit.ptcs; marks = fit.marks }

    -- a piece that was accepted
    module _ (piece rows after : List ℕ) (r : Answer) (next : Board) (ran_so : ran_out r next after ≡ in_blocks (blocks_in piece) b piece rows) (d : succeeded (told r) ≡ true) where
      here : Accepted b piece rows
      here = accepted b piece rows whole fit.sound (sym (ap (λ (o : RanOut). o.answer) ran_so) ∙ told_done r d)

      pub piece_through : length after ≡ length rows → Through b piece after
      piece_through same = run_through b piece rows after r next (ran_so ∙ here.whole) same d

      pub piece_followed : (x : ℕ) (s : Store) → s ≡ followed x fresh so.log fresh_store → followed x b piece s ≡ followed x fresh (so.log ++ piece) fresh_store
      piece_followed x s e =
          let between : length so.log % 24 ≡ 0 = omega (arith, so.whole) in
          let end : length piece % 24 ≡ 0 = omega (arith, here.ready.whole) in
          rw (e, reached) (sym (followed_parts x fresh so.log piece between end fresh_store))

-- ---- the loop

pub record SoFarBeside (x : ℕ) (fresh b : Board) (s : Store) : Type 0 where
  pub so : SoFar fresh b
  pub sound : sound_store s ≡ true
  pub store : s ≡ followed x fresh so.log fresh_store

pub begun : (x : ℕ) (b : Board) → SoFarBeside x b b fresh_store
unfolding replayed in_blocks changes_over kept_all
begun x b = record { so = record { log = []; whole = refl; done = refl; board = refl }; sound = fresh_sound; store = refl }

-- n bytes were read into a piece's room, run, and followed
module _ (x : ℕ) (fresh b : Board) (w : Whole fresh) (sound : sound_board fresh ≡ true) (s : Store) (g : SoFarBeside x fresh b s) (n : ℕ) (bytes rows after : List ℕ)
    (fits : length bytes ≡ 61440) (room : length rows ≡ 30720) (same : length after ≡ length rows) (r : Answer) (next : Board) where
  abbrev piece : List ℕ
  piece = take n bytes

  -- an accepted piece may be followed
  pub may_follow : (failed : Bool) → ran_out r next after ≡ piece_run failed b piece rows → failed ≡ false → succeeded (told r) ≡ true → Through b piece after
  may_follow true ran_so e d = absurd (false≢true (sym e))
  may_follow false ran_so e d = piece_through fresh w sound b g.so piece rows after r next ran_so d same

  -- the answer of the longer log
  answered : ran_out r next after ≡ in_blocks (blocks_in piece) b piece rows → told r ≡ (replayed fresh (g.so.log ++ piece)).answer
  answered ran_so = ap (λ (o : RanOut). o.answer) ran_so ∙ (more fresh b g.so w.ptcs n bytes rows fits room).answer

  stored : ran_out r next after ≡ in_blocks (blocks_in piece) b piece rows → (kept : Store) → kept ≡ kept_after x b false (told r) piece s
      → succeeded (told r) ≡ true → kept ≡ followed x fresh (g.so.log ++ piece) fresh_store
  stored ran_so kept e d = e ∙ rw d (piece_followed fresh w sound b g.so piece rows after r next ran_so d x s g.store)

  pub last_followed : (failed : Bool) → ran_out r next after ≡ piece_run failed b piece rows → (kept : Store) → sound_store kept ≡ true
      → kept ≡ kept_after x b failed (told r) piece s → FollowedSomeLog x fresh r kept
  last_followed true ran_so kept ok e =
      record { log = g.so.log; answer = ap (λ (o : RanOut). o.answer) ran_so ∙ sym g.so.done; sound = ok; store = λ d. e ∙ g.store }
  last_followed false ran_so kept ok e =
      record { log = g.so.log ++ piece; answer = answered ran_so; sound = ok; store = λ d. stored ran_so kept e (ap succeeded d) }

  pub goes_on_followed : (failed : Bool) → ran_out r next after ≡ piece_run failed b piece rows → is_full failed n (told r) ≡ true → (kept : Store)
      → sound_store kept ≡ true → kept ≡ kept_after x b failed (told r) piece s → SoFarBeside x fresh next kept
  goes_on_followed true ran_so full kept ok e = absurd (false≢true full)
  goes_on_followed false ran_so full kept ok e =
      let is = full_piece false n (told r) full in
      let m = more fresh b g.so w.ptcs n bytes rows fits room in
      record {
        so = record {
          log = g.so.log ++ piece;
          whole = rw (length-append, length-take) (omega (arith, g.so.whole));
          done = sym (answered ran_so) ∙ told_done r is.2;
          board = sym (ap (λ (o : RanOut). o.board) ran_so ∙ m.board);
        };
        sound = ok;
        store = stored ran_so kept e is.2;
      }

pub nothing_followed : (x : ℕ) (fresh b : Board) (s : Store) → SoFarBeside x fresh b s → (a : Answer) → told a ≡ DONE → FollowedSomeLog x fresh a s
nothing_followed x fresh b s g a d = record { log = g.so.log; answer = d ∙ sym g.so.done; sound = g.sound; store = λ e. g.store }

-- ---- what is printed

pub opened_by_lem : (m : Made) (unread : Bool) → OfSomeText m → over unread (told m.answer) ≡ false → OpenedBy m.board
opened_by_lem m unread some on =
    record {
      text = some.0;
      opens = sym (ap (λ (o : MadeOut). o.answer) some.1) ∙ went_on unread m.answer on;
      is = ap (λ (o : MadeOut). o.board) some.1;
    }

pub opened_sound : (b : Board) → OpenedBy b → sound_board b ≡ true
unfolding replayed in_blocks
opened_sound b o = rw o.is (printing.sound o.text [])

pub closing : (x : ℕ) (b : Board) (o : OpenedBy b) (a : Answer) (s : Store) (stopped : Bool) → x ≤ 40 → FollowedSomeLog x b a s → over stopped (told a) ≡ false → Closing x s
unfolding history_printed
closing x b o a s stopped low f on =
    let d = went_on stopped a on in
    let through : (replayed (opened_of o.text).board f.log).answer ≡ DONE = ap (λ (c : Board). (replayed c f.log).answer) (sym o.is) ∙ sym f.answer ∙ d in
    let is : s ≡ followed x (opened_of o.text).board f.log fresh_store = f.store d ∙ ap (λ (c : Board). followed x c f.log fresh_store) o.is in
    record { text = o.text; log = f.log; sound = f.sound; are = rw (o.opens, through, le-leb x 40 low) (ap read_bytes is) }

module _ (x : ℕ) (s : Store) (c : Closing x s) (before after : List ℕ) (room : 7168 ≤ length before) (a : Answer)
    (wrote : read_out a after ≡ read_of s before) (n : ℕ) (long : n ≡ read_length s) where
  read_whole : read_of s before ≡ record { answer = DONE; buffer = put before 0 (read_bytes s) }
  unfolding read_of
  read_whole = rw (c.sound, le-leb (length (read_bytes s)) (length before) (omega (arith, read_fits s c.sound)))

  laid : after ≡ read_bytes s ++ drop (length (read_bytes s)) before
  laid = ap (λ (o : ReadOut). o.buffer) (wrote ∙ read_whole) ∙ put_front before (read_bytes s)

  long_is : n ≡ length (read_bytes s)
  unfolding read_length
  long_is = long ∙ rw c.sound

  pub laid_long : n ≤ length after
  laid_long = rw (laid, length-append) (omega (arith, long_is))

  pub laid_are : OfSomeFiles x (take n after)
  laid_are = record { text = c.text; log = c.log; are = ap (take n) laid ∙ take_at (read_bytes s) _ n (sym long_is) ∙ c.are }
