-- The words that definitions are made of: a choice by a test, a map that knows its places, "all of", "the first that fails".
use Rattle.std.specs.Prelude.{Bool, true, false, ◌&&◌, ℕ, zero, suc, max, List, [], ◌∷◌}

abbrev pub if : {A : Type 0} → Bool → A → A → A
if true a b = a
if false a b = b

-- what a test adds to a count
abbrev pub one : Bool → ℕ
one t = if t 1 0

-- every element passes the test
unfoldable pub all_b : {A : Type 0} → (A → Bool) → List A → Bool
all_b p [] = true
all_b p (a ∷ l) = p a && all_b p l

-- every element passes the test of its place, counted from i
unfoldable pub all_i : {A : Type 0} → (ℕ → A → Bool) → ℕ → List A → Bool
all_i p i [] = true
all_i p i (a ∷ l) = p i a && all_i p (suc i) l

-- f of each place, counted from i, and of the element there
unfoldable pub map_i : {A B : Type 0} → (ℕ → A → B) → ℕ → List A → List B
map_i f i [] = []
map_i f i (a ∷ l) = f i a ∷ map_i f (suc i) l

-- f of the n places from i on
unfoldable pub tabulate : {A : Type 0} → (ℕ → A) → ℕ → ℕ → List A
tabulate f i zero = []
tabulate f i (suc n) = f i ∷ tabulate f (suc i) n

-- the highest of f at the first n places, 0 where there is none
unfoldable pub highest : (ℕ → ℕ) → ℕ → ℕ
highest f zero = 0
highest f (suc n) = max (highest f n) (f n)

-- the first of the n places from k on at which p fails, or k + n where it fails at none
unfoldable pub first_not : (ℕ → Bool) → ℕ → ℕ → ℕ
first_not p zero k = k
first_not p (suc n) k = if (p k) (first_not p n (suc k)) k
