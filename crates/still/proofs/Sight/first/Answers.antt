-- `still::Sight::first` meets its contract: the classes are those that the merge gives, and the flag that of the held codes.
-- That held codes are bytes comes with the flag.
use borrow.Author.Rules.{rules}
use Rattle.still.proofs.Sight.first.Goals as goal

pub returns : goal.returns
returns c =
    let f = c.is_firm.ensures in
    (rw (f.0, c.merge.ensures), record { long = search rules; bytes = f.1 }, record { long = search rules; bytes = f.2 })
