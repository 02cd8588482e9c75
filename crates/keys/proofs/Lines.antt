-- The lines of all editions at their places: how many there are, and which key and which range each has.
-- Computed from the table; a place of a map of it is the map of that place.
use mathlib.Core.Path.{◌≡◌, refl, sym, ◌∙◌}
use mathlib.Core.List.{[], ◌++◌}
use Prim.Native.Nat.{ℕ, ◌<◌}
use native.Mathlib.Omega.{arith}
use lib.ListN.{length, get_or, get_or-map, get_or-append}
use Rattle.text.specs.Lines.{Entry, keys_of, ranges_of}
use Rattle.keys.specs.Report.{common_keys, block_keys}
use Rattle.keys.specs.Keys.{keys, key_at}
use Rattle.keys.specs.Support.Lines.{lines, line_count, nowhere, range_at}

-- past the last line
abbrev pub no_entry : Entry
no_entry = record { key = []; range = nowhere }

pub ranged : length (ranges_of lines) ≡ line_count
unfolding lines
ranged = refl

keyed : length (keys_of lines) ≡ line_count
unfolding lines
keyed = refl

pub entry_key : (n : ℕ) → n < line_count → (get_or lines n no_entry).key ≡ key_at n
unfolding key_at keys
entry_key n h =
    sym (get_or-map (λ (l : Entry). l.key) lines n no_entry)
    ∙ sym (get_or-append (keys_of lines) (common_keys ++ block_keys) [] n (omega (arith, keyed)))

pub entry_range : (n : ℕ) → (get_or lines n no_entry).range ≡ range_at n
unfolding range_at
entry_range n = sym (get_or-map (λ (l : Entry). l.range) lines n no_entry)
