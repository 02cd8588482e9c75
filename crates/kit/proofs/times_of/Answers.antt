-- `kit::times_of` meets its contract: the numbers in order, copied as a whole.
-- Place k of a part that begins at m is place m + k of the whole.
use mathlib.Core.Path.{◌≡◌}
use mathlib.Core.List.{List}
use Prim.Native.Nat.{ℕ, ◌+◌, ◌<◌}
use lib.ListN.{get_or, take, drop}
use Rattle.std.proofs.lemmas.List.{get_or-take, get_or-drop}
use Rattle.settings.specs.Names.{after}
use Rattle.kit.proofs.Tables.{tabulated}
use Rattle.kit.proofs.times_of.Goals as goal

part_at : (m n : ℕ) (l part : List ℕ) → part ≡ take n (drop m l) → (k : ℕ) → k < n → get_or part k 0 ≡ get_or l (m + k) 0
part_at m n l part e k h = rw (e, get_or-take n (drop m l) k 0 h, get_or-drop m l k 0)

pub returns : goal.returns
returns c =
    let copied = c.copy_from_slice in
    tabulated (λ n. after c.args.s (27 + n)) 88 copied.new.self copied.ensures.len (part_at 27 88 _ _ copied.ensures.after)
