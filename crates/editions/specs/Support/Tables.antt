-- The editions as the code has them: each one's number, how many lines it has, where line n stands among the lines of all editions, and
-- which line gives value n of the settings.
use Rattle.std.specs.Prelude.{ℕ, ◌+◌, ◌-◌, ◌%◌, List, take, Option, Some, None, eqb, ltb}
use Rattle.laws.specs.Base.{if}
use Rattle.editions.specs.declared.tables.Edition.{Edition}
use Rattle.editions.specs.declared.tables.Edition.TheVariants.{First, Second, Third}

abbrev pub number_of : Edition → ℕ
number_of First = 1
number_of Second = 2
number_of Third = 3

-- 0 where it is none
abbrev pub number_opened : Option Edition → ℕ
number_opened (Some e) = number_of e
number_opened None = 0

abbrev pub count_of : ℕ → ℕ
count_of e = if (eqb e 1) 71 (if (eqb e 2) 149 148)

-- the numbers on its lines, in an array that has room for those of any
abbrev pub numbers_in : Edition → List ℕ → List ℕ
numbers_in e = take (count_of (number_of e))

abbrev pub place_of : (e n : ℕ) → ℕ
place_of e n =
    if (eqb e 1) (if (ltb n 13) (n + 1) (if (ltb n 14) 148 (if (ltb n 28) n (if (ltb n 39) (n + 121) (n + 77)))))
    (if (eqb e 2) (if (ltb n 14) n (if (ltb n 15) 148 (n - 1))) n)

abbrev pub source_of : (e n : ℕ) → ℕ
source_of e n =
    if (eqb e 1) (if (ltb n 13) n (if (ltb n 27) (n + 1) (if (ltb n 115) (28 + (n - 27) % 11) (n - 76))))
    (if (eqb e 2) (if (ltb n 13) (n + 1) (n + 2)) (n + 1))
