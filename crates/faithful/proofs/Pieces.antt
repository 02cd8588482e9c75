-- Pieces cut between records give what the uncut log gives, output and list.
-- By induction on the pieces: an accepted piece leaves its own output and list in its buffers, and those of the rest follow.
use mathlib.Core.Path.{refl}
use mathlib.Core.List.{[], ◌∷◌}
use Prim.Native.Nat.{◌+◌, ◌/◌}
use lib.ListN.{length}
use Rattle.laws.proofs.Bools.{both}
use Rattle.answer.specs.Told.{succeeded}
use Rattle.salvage.specs.Mending.{salvaged_parts}
use Rattle.salvage.specs.Changes.{changes_over, changes_in, list_text}
use Rattle.salvage.specs.Salvage.{salvage_of}
use Rattle.salvage.proofs.Laws.{text_append}
use Rattle.salvage.proofs.Leaves.{accepted_leaves}
use Rattle.faithful.specs.Faithful.{uncut, in_turn, Pieces}
use Rattle.faithful.proofs.Joining.{joined}

pub pieces : Pieces
unfolding in_turn salvaged_parts changes_over list_text
pieces first [] between ok = (refl, refl)
pieces first (x ∷ xs) between ok =
    let o = salvage_of first x.log x.salvaged x.changes in
    let each = both (succeeded o.answer) _ ok in
    let here = accepted_leaves first x.log x.salvaged x.changes each.0 in
    let later = pieces (first + length x.log / 24) xs between.1 each.1 in
    let all = joined first x.log (uncut xs) between.0 in
    (rw (all.0, here.1, later.0), rw (all.1, text_append (changes_in first x.log) _, here.2, later.1))
