-- When a program ends before its work is done: a file could not be read, or what it holds is refused.
use Rattle.std.specs.Prelude.{Bool, true, not, List, ℕ, Option, Some, None, Result, Ok, Err}
use Rattle.std.specs.declared.io.Error.{Error}
use denote.Bor.{Bor}
use Rattle.answer.specs.Told.{Told, Answer, succeeded}
use Rattle.laws.specs.Base.{if}
use Rattle.ending.specs.declared.cause.Stop.{Stop}
use Rattle.ending.specs.declared.cause.Stop.TheVariants.{At, Refused}

abbrev pub over : Bool → Told → Bool
over failed a = if failed true (not (succeeded a))

-- what it ends at: the error in reading the file, under the file's name, else the refusal of what the file holds
abbrev pub accepted_of : (file : Bor (List ℕ)) → Option Error → Answer → Result (Unit {0}) Stop
accepted_of file (Some error) a = Err (At file error)
accepted_of file None (Ok done) = Ok done
accepted_of file None (Err refusal) = Err (Refused refusal)
