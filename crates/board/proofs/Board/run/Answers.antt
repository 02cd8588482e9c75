-- `board::Board::run` meets its contract: before record i the board is the one after the records before it.
-- A turn is one record more.
use mathlib.Core.Path.{◌≡◌}
use mathlib.Core.List.{List}
use Prim.Native.Nat.{ℕ, ◌+◌, ◌-◌, ◌*◌, ◌≤◌}
use native.Mathlib.Omega.{arith}
use borrow.Author.Rules.{rules}
use lib.ListN.{length, take, drop, length-take, length-drop}
use Rattle.laws.proofs.Tests.{mapped_long}
use Rattle.status.specs.Codes.{Coded}
use Rattle.steady.proofs.Laws.{carried_low, believed_low}
use Rattle.records.specs.Records.{rec_at}
use Rattle.records.specs.Refusal.{records_in}
use Rattle.board.proofs.Settled.{sound_parts_lem}
use Rattle.board.proofs.Turn.{Begun, begins, watches_first, comes, stands}
use Rattle.board.proofs.Board.run.Goals as goal

-- the part of the log that is lent is the record
lent : (log : List ℕ) (i : ℕ) → take (24 * i + 24 - 24 * i) (drop (24 * i) log) ≡ rec_at log i
lent log i = let e : 24 * i + 24 - 24 * i ≡ 24 = omega arith in rw e

pub first-requires : goal.first-requires
first-requires c = believed_low c.args.self.now.held (sound_parts_lem c.args.self.now c.requires.0).held

pub loop-i-init : goal.loop-i-init
loop-i-init c =
    let held = (sound_parts_lem c.args.self.now c.requires.0).held in
    let first = c.first.ensures in
    let carried : Coded c.args.self.now.held.carried = record { long = first.1.long; gtfe = carried_low c.args.self.now.held held; bytes = first.1.bytes } in
    let believed : Coded c.args.self.now.held.believed = record { long = first.2.long; gtfe = believed_low c.args.self.now.held held; bytes = first.2.bytes } in
    begins _ _ _ _ _ (watches_first _ _ _ carried believed (rw first.0))

pub step-row-requires : goal.step-row-requires
step-row-requires c =
    let begun : Begun c.args.self.now c.args.log.now c.args.rows.now c.of-kit.result c.busy_of-busy.result (records_in c.args.log.now) = record {
      fit = record { ptcs = search (rules, mapped_long); marks = search rules; sound = c.requires.0 };
      long = c.requires.1;
      room = c.requires.2;
      formed = c.requires.3;
      life = c.requires.4;
      bytes = λ n. (c.type_inv.log n).fits;
      made = c.of-kit.ensures;
      marked = c.busy_of-busy.ensures;
    } in
    rw (lent c.args.log.now c.loop-i.i) (comes begun (omega arith) c.loop-i.invariant)

pub put_row-requires : goal.put_row-requires
put_row-requires c =
    let fits : 12 * c.loop-i.i + 12 ≤ length c.loop-i.rows = omega (arith, c.loop-i-test.true, c.requires.2, c.loop-i.invariant.long) in
    rw (length-take, length-drop) (omega (arith, fits))

pub loop-i-preserved : goal.loop-i-preserved
loop-i-preserved c =
    let begun : Begun c.args.self.now c.args.log.now c.args.rows.now c.of-kit.result c.busy_of-busy.result (records_in c.args.log.now) = record {
      fit = record { ptcs = search (rules, mapped_long); marks = search rules; sound = c.requires.0 };
      long = c.requires.1;
      room = c.requires.2;
      formed = c.requires.3;
      life = c.requires.4;
      bytes = λ n. (c.type_inv.log n).fits;
      made = c.of-kit.ensures;
      marked = c.busy_of-busy.ensures;
    } in
    let e = rw (lent c.args.log.now c.loop-i.i) at c.step-row.ensures in
    stands begun (omega arith) c.loop-i.invariant _ _ _ _ e.0 e.1 e.2 c.put_row.ensures

pub returns : goal.returns
returns c =
    let l = c.loop-i in
    let e : l.i ≡ records_in c.args.log.now = omega arith in
    (rw (← e) l.invariant.board, rw (← e) l.invariant.laid_out)
