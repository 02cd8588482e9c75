-- Documents 01, "Settings text", and 02, P2 and P3: the lines of the settings text, edition by edition, each with its key, its range and its
-- standard value.
use Rattle.std.specs.Prelude.{ℕ, zero, suc, List, [], ◌∷◌, ◌++◌, map, eqb}
use Prim.Native.String.{String}
use Rattle.laws.specs.Base.{if}
use Rattle.text.specs.Bytes.{bytes}
use Rattle.text.specs.Decimal.{decimal, decimal_of}
use Rattle.text.specs.Lines.{Entry}

pub record Setting : Type 0 where
  pub line : Entry
  pub standard : ℕ

-- a line whose value has one to five digits
abbrev pub keyed : (key : List ℕ) (low high standard : ℕ) → Setting
keyed key low high standard = record { line = record { key = key; range = record { low = low; high = high; digits = 5 } }; standard = standard }

unfoldable pub setting : String → ℕ → ℕ → ℕ → Setting
unfolding bytes
setting name = keyed (bytes name)

-- `count` lines of one name, numbered from `from`
unfoldable pub numbered : String → ℕ → ℕ → ℕ → ℕ → ℕ → List Setting
unfolding bytes decimal decimal_of
numbered name zero from low high standard = []
numbered name (suc count) from low high standard =
    keyed (bytes name ++ decimal from) low high standard ∷ numbered name count (suc from) low high standard

-- ---- the parts that the editions are made of

-- document 01's lines 1 to 13: the orbit, its gap and the throttle's rules
unfoldable pub throttling : List Setting
unfolding setting
throttling =
    setting "orbit" 64 4096 3564
    ∷ setting "gap_low" 0 4095 3444
    ∷ setting "gap_high" 0 4095 3563
    ∷ setting "r1_gap" 2 7 2
    ∷ setting "r2_period" 1 63 25
    ∷ setting "r2_norm" 0 15 2
    ∷ setting "r2_low" 0 15 1
    ∷ setting "r3_period" 64 176 100
    ∷ setting "r3_norm" 0 63 3
    ∷ setting "r3_low" 0 63 2
    ∷ setting "r4_period" 1 2047 240
    ∷ setting "r4_norm" 0 511 4
    ∷ setting "r4_low" 0 511 2
    ∷ []

-- document 01's line 14, which document 02, P3, retires
unfoldable pub retired : List Setting
unfolding setting
retired = setting "warn_blocks" 0 1 0 ∷ []

-- document 01's lines 15 to 28: the merge, the waits and the slots
unfoldable pub handling : List Setting
unfolding setting numbered
handling =
    setting "ignore_disc" 0 1 0
    ∷ setting "ignore_bad" 0 1 0
    ∷ setting "settle_resync" 0 255 12
    ∷ setting "settle_hard" 0 255 12
    ∷ setting "recover_resync" 0 255 1
    ∷ setting "recover_hard" 0 255 1
    ∷ (numbered "slot" 1 0 0 255 255 ++ numbered "slot" 7 1 0 255 0)

-- the eleven lines of a schedule, `name` before each
unfoldable pub schedule : List ℕ → List Setting
unfolding bytes
schedule name =
    keyed (name ++ bytes "bc0") 0 4095 0
    ∷ keyed (name ++ bytes "te") 0 4095 3400
    ∷ keyed (name ++ bytes "resync") 0 4095 100
    ∷ keyed (name ++ bytes "hard") 0 4095 200
    ∷ keyed (name ++ bytes "ec0") 0 4095 300
    ∷ keyed (name ++ bytes "oc0") 0 4095 400
    ∷ keyed (name ++ bytes "start") 0 4095 500
    ∷ keyed (name ++ bytes "stop") 0 4095 600
    ∷ keyed (name ++ bytes "gap") 0 4095 3444
    ∷ keyed (name ++ bytes "wte") 0 4095 3000
    ∷ keyed (name ++ bytes "cal") 0 4095 3490
    ∷ []

-- the schedules of `count` controllers, counted from k: `at0_bc0` and so on
unfoldable pub schedules : (count k : ℕ) → List Setting
unfolding bytes decimal decimal_of schedule
schedules zero k = []
schedules (suc count) k = schedule (bytes "at" ++ (decimal k ++ bytes "_")) ++ schedules count (suc k)

unfoldable pub parts : List Setting
unfolding numbered
parts = numbered "part" 32 0 0 8 0

abbrev pub lines_of : List Setting → List Entry
lines_of = map (λ (s : Setting). s.line)

-- ---- the editions

-- the newest that the desk knows, which is the one that it writes
abbrev pub newest : ℕ
newest = 3

-- document 02, P2: the first line of every edition but the first
unfoldable pub opening : Entry
unfolding bytes
opening = record { key = bytes "edition"; range = record { low = 2; high = newest; digits = 5 } }

-- the values of the settings, in the order of the newest edition
unfoldable pub settings : List Setting
unfolding throttling handling schedules parts
settings = throttling ++ (handling ++ (schedules 8 0 ++ parts))

-- their lines, which follow the first one
unfoldable pub value_lines : List Entry
unfolding settings
value_lines = lines_of settings

-- the lines of an older edition's values, by its schedules
unfoldable pub older_lines : List Setting → List Entry
unfolding throttling retired handling parts
older_lines times = lines_of (throttling ++ (retired ++ (handling ++ (times ++ parts))))

-- edition 1 is document 01's, with one schedule, `at_bc0` and so on; edition 2 has eight; edition 3 has no `warn_blocks`
unfoldable pub table_of : ℕ → List Entry
unfolding bytes schedule schedules opening value_lines older_lines
table_of e = if (eqb e 1) (older_lines (schedule (bytes "at_"))) (opening ∷ (if (eqb e 2) (older_lines (schedules 8 0)) value_lines))
