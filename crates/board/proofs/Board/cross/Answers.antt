-- `board::Board::cross` meets its contract: a loop goes over the controllers that are due.
-- Each goal is a law of the crossing that comes (`Turn.antt`), or of the loop (`still`).
use mathlib.Core.Path.{◌≡◌, refl, ap, ◌∙◌}
use mathlib.Core.Bool.{Bool, true, false}
use mathlib.Core.List.{List}
use mir.Val.{bool_byte}
use Rattle.laws.specs.Base.{one}
use Prim.Native.Nat.{ℕ, ◌+◌}
use native.Mathlib.Omega.{arith}
use Rattle.throttle.specs.Marks.{passed}
use Rattle.eight.specs.Eight.{clock_of}
use Rattle.eight.proofs.Eight.{acted, acted_code}
use Rattle.still.proofs.Passing.{next_after}
use Rattle.still.proofs.Acting.{acting_first, acting_at, acting_next, acting_last}
use Rattle.clock.specs.declared.Clock.{Clock}
use Rattle.clock.specs.declared.Turn.{Turn}
use Rattle.kit.specs.declared.Kit.{Kit}
use Rattle.board.specs.declared.Board.{Board}
use Rattle.board.specs.declared.run.Watch.{Watch}
use Rattle.board.specs.Support.Loop.{Watches}
use Rattle.board.proofs.Turn.{room_asked, clock_asked, next_asked, rules_asked, due_fits, quiet_at, shown_fits, crossed_is, row_is, watches_crossed}
use Rattle.board.proofs.Board.cross.Goals as goal

byte_one : (t : Bool) → bool_byte t ≡ one t
byte_one true = refl
byte_one false = refl

-- the board when all is put in place
abbrev crossed_board : Clock → Turn → List ℕ → Board → Board
crossed_board clock turn marks b = record { settings = b.settings; clock = clock; turn = turn; ptcs = b.ptcs; held = b.held; marks = marks }

watched : (kit : Kit) (next b : Board) (w : Watch) → next ≡ b → Watches kit b w → Watches kit next w
watched kit next b w e q = rw e q

pub next-sight-requires : goal.next-sight-requires
next-sight-requires c = next_asked c.requires.0 c.requires.1

pub scene-scene-requires : goal.scene-scene-requires
scene-scene-requires c = rules_asked c.requires.0 c.requires.1

pub loop-k-init : goal.loop-k-init
loop-k-init c =
    let t = c.requires in
    let low = due_fits t.0 t.1 _ c.next-sight.ensures.0 _ c.scene-scene.ensures in
    let quiet = quiet_at t.0 t.1 _ c.next-sight.ensures.0 _ c.scene-scene.ensures in
    (refl, acting_first _ _ _ _ _ _ _ t.0.eight t.0.watched.wide low quiet _ _ _ _ refl refl refl c.next_due-k.ensures)

pub crossed-crossed-requires : goal.crossed-crossed-requires
crossed-crossed-requires c =
    let t = c.requires in
    let low = due_fits t.0 t.1 _ c.next-sight.ensures.0 _ c.scene-scene.ensures in
    let quiet = quiet_at t.0 t.1 _ c.next-sight.ensures.0 _ c.scene-scene.ensures in
    let copied = acting_at _ _ _ _ _ _ _ t.0.eight t.0.watched.wide low quiet c.loop-k.k _ _ _ _ c.loop-k-test.true c.loop-k.invariant.1 in
    rw copied (room_asked t.0 t.1 c.loop-k.k c.loop-k-test.true)

pub row_byte-requires : goal.row_byte-requires
row_byte-requires c = acted_code _ _ _ _ _ _ _ (acted _ _ _ _ _ _ _ _ c.asked-asked.ensures c.crossed-crossed.ensures)

pub loop-k-smaller : goal.loop-k-smaller
loop-k-smaller c =
    let t = c.requires in
    let low = due_fits t.0 t.1 _ c.next-sight.ensures.0 _ c.scene-scene.ensures in
    omega (arith, c.loop-k-test.true, c.next_due-k-in-loop-k.ensures, next_after c.next-sight.result.due (c.loop-k.k + 1) low (omega (arith, c.loop-k-test.true)))

pub loop-k-preserved : goal.loop-k-preserved
loop-k-preserved c =
    let t = c.requires in
    let low = due_fits t.0 t.1 _ c.next-sight.ensures.0 _ c.scene-scene.ensures in
    let quiet = quiet_at t.0 t.1 _ c.next-sight.ensures.0 _ c.scene-scene.ensures in
    let told = acted _ _ _ _ _ _ _ _ c.asked-asked.ensures c.crossed-crossed.ensures in (
      rw c.loop-k.invariant.0,
      acting_next _ _ _ _ _ _ _ t.0.eight t.0.watched.wide low quiet c.loop-k.k _ _ _ _ c.loop-k-test.true c.loop-k.invariant.1 _ _ _ _ _ _
          told c.row_byte.ensures c.status.ensures c.is_at_rest.ensures c.both-calm.ensures c.next_due-k-in-loop-k.ensures,
    )

pub clock_after-self-requires : goal.clock_after-self-requires
clock_after-self-requires c = rw (ap (λ (b : Board). b.clock) c.loop-k.invariant.0) (clock_asked c.requires.0 c.requires.1)

pub crossing_row-requires : goal.crossing_row-requires
crossing_row-requires c =
    let t = c.requires in
    let low = due_fits t.0 t.1 _ c.next-sight.ensures.0 _ c.scene-scene.ensures in
    let quiet = quiet_at t.0 t.1 _ c.next-sight.ensures.0 _ c.scene-scene.ensures in
    let done = acting_last _ _ _ _ _ _ _ t.0.eight t.0.watched.wide low quiet c.loop-k.k _ _ _ _ (omega (arith, c.loop-k-test.false)) c.loop-k.invariant.1 in
    shown_fits t.0 t.1 _ c.next-sight.ensures.0 _ c.scene-scene.ensures _ _ _ _ done

pub returns : goal.returns
returns c =
    let t = c.requires in
    let low = due_fits t.0 t.1 _ c.next-sight.ensures.0 _ c.scene-scene.ensures in
    let quiet = quiet_at t.0 t.1 _ c.next-sight.ensures.0 _ c.scene-scene.ensures in
    let done = acting_last _ _ _ _ _ _ _ t.0.eight t.0.watched.wide low quiet c.loop-k.k _ _ _ _ (omega (arith, c.loop-k-test.false)) c.loop-k.invariant.1 in
    let whole = ap (crossed_board c.clock_after-self.result c.next-sight.result.turn c.pass.new.marks) c.loop-k.invariant.0 in
    let marks = c.pass.ensures ∙ ap (λ (b : Board). passed b.marks b.clock.crossings c.from-mark.result) c.loop-k.invariant.0 in
    let clock = c.clock_after-self.ensures ∙ ap (λ (b : Board). clock_of c.args.kit.now.orbit b.clock c.next-sight.result.marker c.loop-k.bytes) c.loop-k.invariant.0 in (
      whole
          ∙ crossed_is t.0 t.1 _ c.next-sight.ensures.0 _ c.scene-scene.ensures _ _ _ _ done _ _ _ _ _ c.crossing_row.result c.next-sight.ensures.1
          c.carries.ensures (c.from-mark.ensures ∙ byte_one _) marks clock,
      row_is t.0 t.1 _ c.next-sight.ensures.0 _ c.scene-scene.ensures _ _ _ _ done _ c.carries.result c.from-mark.result c.clock_after-self.result c.pass.new.marks _
          c.next-sight.ensures.1 c.crossing_row.ensures,
      watched _ _ _ _ whole
          (watches_crossed t.0 t.1 _ c.next-sight.ensures.0 _ c.scene-scene.ensures _ _ _ _ done _ c.carries.result c.from-mark.result _ _ c.crossing_row.result
          c.next-sight.ensures.1),
    )
