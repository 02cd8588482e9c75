-- A sound board's report has at most 3,249 bytes: no value in it has more than 13 digits, since every count is within the board's life.
-- Lines by induction on keys and values; blocks by induction on the controllers; the keys' lengths are computed.
use mathlib.Core.Path.{◌≡◌}
use mathlib.Core.Bool.{true}
use mathlib.Core.List.{List, [], ◌∷◌}
use Prim.Native.Nat.{ℕ, suc, ◌+◌, ◌*◌, ◌^◌, ◌≤◌, ◌<◌}
use native.Mathlib.Omega.{arith}
use borrow.Author.Tests.{le-leb, leb-true}
use lib.Dec.{leb, ltb, eqb, lit<}
use lib.ListN.{length, length-append}
use Rattle.laws.specs.Base.{all_i}
use Rattle.laws.proofs.Bools.{both, if_has}
use Rattle.text.specs.Lines.{line_head, lines_text}
use Rattle.text.proofs.Decimal.{digits_within}
use Rattle.text.proofs.Rows.{row_length}
use Rattle.keys.specs.Report.{common_keys, block_keys}
use Rattle.keys.specs.Support.Places.{line_heads}
use Rattle.settings.specs.declared.Settings.{Settings}
use Rattle.settings.specs.Names.{slot_of}
use Rattle.states.specs.Sound.{sound_state}
use Rattle.clock.proofs.Keeps.{holder_most}
use Rattle.counts.proofs.Balance.{counts_read}
use Rattle.ptc.specs.declared.Ptc.{Ptc}
use Rattle.ptc.proofs.Keeps.{sound_read}
use Rattle.eight.specs.Eight.{sound_at, sound_eight}
use Rattle.board.specs.declared.Board.{Board}
use Rattle.board.specs.Sound.{sound_board}
use Rattle.board.proofs.Settled.{sound_parts_lem}
use Rattle.board.proofs.Crossings.{clock_room}
use Rattle.report.specs.Report.{common_values, block_values, controller_text, blocks_from, report_text, report_answer, reported}
use Rattle.report.specs.Fits.{ReportFits}

-- ---- lines

-- values of at most 13 digits
abbrev Short : List ℕ → Type 0
Short [] = Unit {0}
Short (v ∷ vs) = (v < 10 ^ 13) × Short vs

lines_most : (ks : List (List ℕ)) (vs : List ℕ) → Short vs → length (lines_text ks vs) ≤ length (line_heads ks) + 14 * length vs
lines_most [] vs h = omega arith
lines_most (k ∷ ks) [] h = omega arith
lines_most (k ∷ ks) (v ∷ vs) h =
    let digits = digits_within v 13 (lit< tt) h.0 in
    simp length-append (omega (arith, digits, row_length (line_head k) v, lines_most ks vs h.1))

-- ---- a controller's block

state_most : (k s wait : ℕ) → sound_state k s wait ≡ true → s ≤ 19
unfolding sound_state
state_most k s wait e = leb-true s 19 (both (leb s 19) _ e).0

module _ (holder m k : ℕ) (p : Ptc) (life : m < 2 ^ 41) (known : k < 8) (sound : sound_at holder m k p ≡ true) where
  block_short : Short (block_values k p)
  block_short =
      let s = sound_read k (eqb k holder) m p sound in
      let c = counts_read m p.counts s.counts in
      let stands = state_most k p.state p.wait s.stands in
      omega arith

  block_most_lem : (s : Settings) → length (controller_text s k p) ≤ 395
  unfolding controller_text block_keys line_head
  block_most_lem s =
      if_has (λ (t : List ℕ). length t ≤ 395) (ltb 0 (slot_of s k)) _ _
      (λ e. omega (arith, lines_most block_keys (block_values k p) block_short))
      (λ e. omega arith)

blocks_most : (s : Settings) (holder m k : ℕ) (ps : List Ptc) → m < 2 ^ 41 → k + length ps ≤ 8 → all_i (sound_at holder m) k ps ≡ true
    → length (blocks_from s k ps) ≤ 395 * length ps
unfolding blocks_from all_i
blocks_most s holder m k [] life known e = omega arith
blocks_most s holder m k (p ∷ ps) life known e =
    let each = both (sound_at holder m k p) (all_i (sound_at holder m) (suc k) ps) e in
    let first = block_most_lem holder m k p life (omega arith) each.0 s in
    rw length-append (omega (arith, first, blocks_most s holder m (suc k) ps life (omega arith) each.1))

-- ---- the whole

text_most_lem : (b : Board) → length b.ptcs ≡ 8 → sound_board b ≡ true → length (report_text b) ≤ 3249
unfolding report_text common_keys line_head sound_eight
text_most_lem b long sound =
    let parts = sound_parts_lem b sound in
    let clock = clock_room b sound in
    let holder = holder_most _ b.turn parts.turn in
    let common : Short (common_values b) = omega arith in
    let blocks = blocks_most b.settings b.turn.holder b.clock.crossings 0 b.ptcs clock.crossings (omega arith) parts.eight in
    rw length-append (omega (arith, lines_most common_keys (common_values b) common, blocks, long))

pub report_fits : ReportFits
unfolding reported report_answer
report_fits =
    record {
      fits = λ b long sound. omega (arith, text_most_lem b long sound);
      written = λ b buffer long sound room.
          let enough : length (report_text b) ≤ length buffer = omega (arith, text_most_lem b long sound) in
          rw (sound, le-leb (length (report_text b)) (length buffer) enough);
    }
