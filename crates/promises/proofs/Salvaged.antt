-- A block made of a salvaged log never gets RECORD: on an unsound board it gets BOARD, on a sound one what its records are refused for.
-- Those are well formed (`never_record`).
use mathlib.Core.Path.{◌≡◌, ap, sym, ◌∙◌}
use mathlib.Core.List.{List}
use Prim.Native.Nat.{ℕ, ◌*◌}
use native.Mathlib.Omega.{arith}
use lib.ListN.{length, take, drop}
use Rattle.laws.proofs.Bools.{if_has}
use Rattle.answer.specs.Told.{Told, BOARD}
use Rattle.records.specs.Refusal.{refusal_of}
use Rattle.salvage.specs.Mending.{salvaged_log}
use Rattle.faithful.proofs.Forming.{never_record}
use Rattle.board.specs.declared.Board.{Board}
use Rattle.board.specs.Sound.{sound_board}
use Rattle.board.specs.Block.{answer_of}
use Rattle.board.proofs.Answers.{block_answer}
use Rattle.promises.specs.Salvaged.{NeverIllFormed}

abbrev NotRecord : Told → Type 0
NotRecord t = t.number ≡ 7 → ⊥

answered : (b : Board) (log : List ℕ) (room : ℕ) → NotRecord (refusal_of b.clock.crossings log room) → NotRecord (answer_of b log room)
unfolding answer_of
answered b log room n = if_has NotRecord (sound_board b) (refusal_of b.clock.crossings log room) BOARD (λ s. n) (λ s r. omega arith)

pub never_ill_formed : NeverIllFormed
never_ill_formed b log before long rows r =
    let block = take long (drop (24 * before) (salvaged_log log)) in
    answered b block (length rows) (never_record log before long b.clock.crossings (length rows)) (ap (λ (t : Told). t.number) (sym (block_answer b block rows)) ∙ r)
