-- What was read of a file.
use Rattle.std.specs.Prelude.{ℕ, Bool, false, ◌≡◌, ◌≤◌, List, [], length, take, Option, Some, None}

-- the piece has n bytes at its front
abbrev pub LieIn : ℕ → List ℕ → Type 0
LieIn n piece = (n ≤ length piece) × (n ≡ length (take n piece))

-- n bytes that were read, and whether reading failed after them: all lie in the piece, and a file that could not be opened is empty
abbrev pub ReadFrom : (opened : Bool) → List ℕ → ℕ → (failed : Bool) → Type 0
ReadFrom opened piece n failed = LieIn n piece × (opened ≡ false → (n ≡ 0) × (failed ≡ false))

-- the bytes that a file has left, where those are known: none where it could not be opened
abbrev pub left : {R : Type 0} → (R → Option (List ℕ)) → Option R → Option (List ℕ)
left remaining None = Some []
left remaining (Some file) = remaining file
