-- Laws of steady codes: each input by itself, well-formed codes stay so, and where carried and believed are the new codes nothing changes.
-- The two nibbles of a byte are digits in base 16.
use mathlib.Core.Path.{◌≡◌, refl, sym, ◌∙◌}
use mathlib.Core.Bool.{true}
use mathlib.Core.List.{List, [], ◌∷◌}
use Prim.Native.Nat.{ℕ, ◌+◌, ◌/◌, ◌%◌, ◌≤◌, ◌<◌}
use native.Mathlib.Nat.{zero-add}
use native.Mathlib.Omega.{arith}
use borrow.Author.Tests.{eq-eqb, ne_eqb}
use lib.ListN.{length, get_or, get_or-eq_default}
use lib.Seq.{ext_get_or}
use Rattle.laws.specs.Base.{map_i, tabulate}
use Rattle.laws.proofs.Over.{length-map_i, get_or-map_i, length_tabulate, get_d_tabulate}
use Rattle.status.specs.Codes.{code_at, Coded}
use Rattle.status.proofs.Codes.{code_low}
use Rattle.steady.specs.declared.Held.{Held}
use Rattle.steady.specs.Steady.{steady, steady_byte, believed_of}
use Rattle.words.proofs.Laws.{same_self, same_lists}
use Rattle.steady.specs.Held.{next_held, fresh_held, sound_held, AllHeld}
use Rattle.steady.specs.Support.News.{news_of}

-- a code that came twice is believed
pub twice : (believed code : ℕ) → steady code believed code ≡ code
unfolding steady
twice believed code = rw (eq-eqb code code refl)

-- a code that came once leaves the believed one
pub once : (carried believed code : ℕ) → (carried ≡ code → ⊥) → steady carried believed code ≡ believed
unfolding steady
once carried believed code differs = rw (ne_eqb carried code differs)

steady_low : (c b n m : ℕ) → b ≤ m → n ≤ m → steady c b n ≤ m
unfolding steady
steady_low c b n m p q = grind arith

pub byte_low : (c b n : ℕ) → steady_byte c b n % 16 ≡ steady (c % 16) (b % 16) (n % 16)
unfolding steady_byte steady
byte_low c b n = grind arith

pub byte_high : (c b n : ℕ) → steady_byte c b n / 16 ≡ steady (c / 16) (b / 16) (n / 16)
unfolding steady_byte steady
byte_high c b n = grind arith

byte_fits : (c b n : ℕ) → b < 256 → n < 256 → steady_byte c b n < 256
unfolding steady_byte steady
byte_fits c b n p q = grind arith

-- a byte with one code in it
small : (c b n : ℕ) → c < 16 → b < 16 → n < 16 → steady_byte c b n ≡ steady c b n
unfolding steady_byte steady
small c b n p q r = grind arith

byte_twice : (b n : ℕ) → steady_byte n b n ≡ n
unfolding steady_byte steady
byte_twice b n = grind arith

module _ (carried believed codes : List ℕ) where
  pub believed_long : length (believed_of carried believed codes) ≡ length believed
  unfolding believed_of
  believed_long = length-map_i _ 0 believed

  pub believed_get : (k : ℕ) → k < length believed → get_or (believed_of carried believed codes) k 0 ≡ steady_byte (get_or carried k 0) (get_or believed k 0) (get_or codes k 0)
  unfolding believed_of
  believed_get k h = get_or-map_i _ 0 k believed 0 0 h ∙ rw zero-add

  -- place by place
  pub believed_table : (n : ℕ) → length believed ≡ n → tabulate (λ k. steady_byte (get_or carried k 0) (get_or believed k 0) (get_or codes k 0)) 0 n ≡ believed_of carried believed codes
  believed_table n long =
      let table = tabulate (λ k. steady_byte (get_or carried k 0) (get_or believed k 0) (get_or codes k 0)) 0 n in
      ext_get_or 0 table (believed_of carried believed codes) (length_tabulate _ 0 n ∙ sym long ∙ sym believed_long)
      (λ k l. let below : k < n = rw (length_tabulate _ 0 n) at l in get_d_tabulate _ 0 n k 0 below ∙ rw zero-add (sym (believed_get k (omega arith))))

-- codes that the crossing before carried too are all believed
pub all_twice : (believed codes : List ℕ) → length believed ≡ length codes → believed_of codes believed codes ≡ codes
all_twice believed codes long =
    ext_get_or 0 (believed_of codes believed codes) codes (believed_long codes believed codes ∙ long)
    (λ k h. let p : k < length believed = rw (believed_long codes believed codes) at h in believed_get codes believed codes k p ∙ byte_twice (get_or believed k 0) (get_or codes k 0))

pub firm_now : (carried believed codes : List ℕ) → length carried ≡ 21 → length believed ≡ 21 → length codes ≡ 21 → (news_of carried believed codes).firm ≡ true
    → believed_of carried believed codes ≡ codes
unfolding news_of
firm_now carried believed codes c b n e = rw (same_lists carried codes 21 c n e) (all_twice believed codes (b ∙ sym n))

-- where carried and believed are the new codes
pub firm : (codes : List ℕ) → believed_of codes codes codes ≡ codes
firm codes = all_twice codes codes refl

-- nothing is new where the codes go on that are carried and believed
pub no_news : (carried believed codes : List ℕ) → carried ≡ codes → believed ≡ carried → record { stays = true; firm = true } ≡ news_of carried believed codes
unfolding news_of
no_news carried believed codes c b = rw (b, c, firm codes, same_self codes 21)

pub held_firm : (h : Held) (codes : List ℕ) → h.carried ≡ codes → h.believed ≡ codes → next_held h codes ≡ h
unfolding next_held
held_firm h codes e f = rw (e, f, firm codes)

first_low : (carried believed codes : List ℕ) → get_or carried 0 0 < 16 → get_or believed 0 0 < 16 → get_or codes 0 0 < 16 → get_or (believed_of carried believed codes) 0 0 < 16
unfolding believed_of map_i
first_low carried [] codes p q r = omega arith
first_low carried (b ∷ l) codes p q r = grind (arith, small, steady_low)

-- each input by itself, whatever else the bytes hold
module _ (carried believed codes : List ℕ) (long : length believed ≡ 21) (c : get_or carried 0 0 < 16) (b : get_or believed 0 0 < 16) (n : get_or codes 0 0 < 16) where
  at_byte : (k : ℕ) → k < 21 → get_or (believed_of carried believed codes) k 0 ≡ steady_byte (get_or carried k 0) (get_or believed k 0) (get_or codes k 0)
  at_byte k h = believed_get carried believed codes k (rw long h)

  pub believed_code : (i : ℕ) → i < 41 → code_at (believed_of carried believed codes) i ≡ steady (code_at carried i) (code_at believed i) (code_at codes i)
  unfolding code_at
  believed_code i h = grind (arith, at_byte 0, at_byte (1 + i / 2), small, byte_low, byte_high)

  pub believed_first : get_or (believed_of carried believed codes) 0 0 < 16
  believed_first = grind (arith, at_byte 0, small, steady_low)

-- well-formed codes stay so
pub believed_coded : (carried believed codes : List ℕ) → Coded carried → Coded believed → Coded codes → Coded (believed_of carried believed codes)
believed_coded carried believed codes c b n =
    let long : length (believed_of carried believed codes) ≡ 21 = believed_long carried believed codes ∙ b.long in
    record {
      long = long;
      gtfe = believed_first carried believed codes b.long c.gtfe b.gtfe n.gtfe;
      bytes =
          λ k. grind (arith, believed_long, believed_get carried believed codes k, byte_fits, get_or-eq_default (believed_of carried believed codes) 0, b.bytes k, n.bytes k);
    }

-- by the codes of the last two crossings and the one believed before, and by nothing else
pub depends : (c b n c' b' n' : List ℕ) → Coded c → Coded b → Coded n → Coded c' → Coded b' → Coded n' → (i : ℕ) → i < 41
    → code_at c i ≡ code_at c' i → code_at b i ≡ code_at b' i → code_at n i ≡ code_at n' i → code_at (believed_of c b n) i ≡ code_at (believed_of c' b' n') i
depends c b n c' b' n' oc ob on oc' ob' on' i h p q r =
    believed_code c b n ob.long oc.gtfe ob.gtfe on.gtfe i h
    ∙ rw (p, q, r) (sym (believed_code c' b' n' ob'.long oc'.gtfe ob'.gtfe on'.gtfe i h))

-- the held codes of a sound board
pub fresh_held_sound : sound_held fresh_held ≡ true
unfolding fresh_held sound_held code_at
fresh_held_sound = refl

module _ (h : Held) (sound : sound_held h ≡ true) where
  pub carried_low : get_or h.carried 0 0 < 16
  unfolding sound_held code_at
  carried_low = grind arith

  pub believed_low : get_or h.believed 0 0 < 16
  unfolding sound_held code_at
  believed_low = grind arith

  pub next_sound : (codes : List ℕ) → get_or codes 0 0 < 16 → sound_held (next_held h codes) ≡ true
  unfolding sound_held next_held code_at
  next_sound codes low = grind (arith, first_low, carried_low, believed_low)

-- of bytes, the GTFE codes being low makes all of them low
pub all_held : AllHeld
unfolding sound_held code_at
all_held h c b =
    record {
      low = λ sound i l. (
        code_low h.carried (record { long = c.long; gtfe = carried_low h sound; bytes = c.bytes }) i,
        code_low h.believed (record { long = b.long; gtfe = believed_low h sound; bytes = b.bytes }) i,
      );
      sound = λ low. grind (arith, low 40 (omega arith));
    }
