-- The part of the byte string that is key n with its `=`: it lies within, and it is the key.
-- The two lengths are computed from the table, the rest is the laws of any keys laid one after the other.
use mathlib.Core.Path.{◌≡◌, refl}
use mathlib.Core.List.{[]}
use Prim.Native.Nat.{ℕ, ◌+◌, ◌-◌, ◌≤◌, ◌<◌}
use native.Mathlib.Omega.{arith}
use lib.ListN.{length, take, drop, get_or}
use Rattle.text.specs.Lines.{line_head}
use Rattle.keys.specs.Keys.{keys, key_at, key_count, key_bytes}
use Rattle.keys.specs.Support.Places.{line_heads, start_of, starts_from}
use Rattle.keys.proofs.Places.{start_at, start_next, start_within, key_part}

pub key_count_lem : length keys ≡ key_count
unfolding keys
key_count_lem = refl

pub key_bytes_lem : length (line_heads keys) ≡ key_bytes
unfolding keys line_head
key_bytes_lem = refl

abbrev start : ℕ → ℕ
start n = get_or (starts_from 0 keys) n 0

start_is : (n : ℕ) → n ≤ key_count → start n ≡ start_of keys n
start_is n h = omega (arith, start_at keys 0 n (omega (arith, key_count_lem)))

module _ (n : ℕ) (known : n < key_count) where
  inside : n < length keys
  inside = omega (arith, key_count_lem)

  pub ordered : start n ≤ start (n + 1)
  ordered = omega (arith, start_is n (omega arith), start_is (n + 1) (omega arith), start_next keys n [] inside)

  pub ends_within : start (n + 1) ≤ key_bytes
  ends_within = omega (arith, start_is (n + 1) (omega arith), key_bytes_lem, start_within keys (n + 1))

  pub is_key : take (start (n + 1) - start n) (drop (start n) (line_heads keys)) ≡ line_head (key_at n)
  unfolding key_at
  is_key = rw (start_is n (omega arith), start_is (n + 1) (omega arith)) (key_part keys n [] inside)

  pub short : length (line_head (key_at n)) ≤ key_bytes
  unfolding key_at
  short = omega (arith, start_next keys n [] inside, key_bytes_lem, start_within keys (n + 1))
