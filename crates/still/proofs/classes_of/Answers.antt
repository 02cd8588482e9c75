-- `still::classes_of` meets its contract: those before are the classes where the believed codes stayed, which is asked.
-- Else they are merged.
use Rattle.still.proofs.classes_of.Goals as goal

pub returns-then-stays : goal.returns-then-stays
returns-then-stays c = c.requires.1 c.if-stays.true
