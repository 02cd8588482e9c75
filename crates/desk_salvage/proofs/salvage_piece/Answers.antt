-- What the call leaves is its salvage, since the buffers have room for every piece.
use Rattle.std.proofs.Common.{arith}
use Rattle.desk_salvage.proofs.Laws.{piece_done}
use Rattle.desk_salvage.proofs.salvage_piece.Goals as goal

pub returns : goal.returns
returns c =
    let s = c.salvage in
    let r = c.requires in
    piece_done c.args.first c.args.piece.now _ _ s.result s.new.salvaged s.new.changes (λ k. omega (arith, c.type_inv.piece k)) r.0 r.1 r.2 s.ensures
