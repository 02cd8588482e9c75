-- What the arithmetic comes to, whatever the slots: who holds when, for how long, who follows whom, and each one's share. Orbit m is the
-- one that m others stand before.
use Rattle.std.specs.Prelude.{ℕ, zero, suc, ◌+◌, ◌≤◌, ◌<◌, ◌%◌, ◌≡◌, ◌⊎◌, List, [], ◌∷◌, eqb, get_or}
use Rattle.laws.specs.Base.{one}
use Rattle.slots.specs.Round.{stretch, begins, total, holder_after}

-- orbit m is controller k's own: its place in the round is in k's stretch, which is 10 × slot orbits
pub record OwnOrbit (slots : List ℕ) (k m : ℕ) : Type 0 where
  pub from : begins slots k ≤ m % total slots
  pub to : m % total slots < begins slots k + stretch slots k

-- controller k holds in its own orbits, and in no other
pub record Holds (slots : List ℕ) (k : ℕ) : Type 0 where
  pub inside : (m : ℕ) → OwnOrbit slots k m → holder_after slots m ≡ k
  pub only : (m : ℕ) → holder_after slots m ≡ k → OwnOrbit slots k m

-- controller k takes over from another with orbit m + 1: it holds for 10 × slot orbits, and no longer
pub record Hold (slots : List ℕ) (k m : ℕ) : Type 0 where
  pub lasts : (d : ℕ) → d < stretch slots k → holder_after slots (suc m + d) ≡ k
  pub ends : holder_after slots (suc m + stretch slots k) ≡ k → ⊥

-- the slot goes up from a to b, past controllers with slot 0 only
pub record Up (slots : List ℕ) (a b : ℕ) : Type 0 where
  pub has : 0 < get_or slots b 0
  pub higher : a < b
  pub skipped : (j : ℕ) → a < j → j < b → get_or slots j 0 ≡ 0

-- a is the highest with a slot, and b, where the next round begins, the lowest
pub record Over (slots : List ℕ) (a b : ℕ) : Type 0 where
  pub has : 0 < get_or slots b 0
  pub highest : (j : ℕ) → a < j → j < 8 → get_or slots j 0 ≡ 0
  pub lowest : (j : ℕ) → j < b → get_or slots j 0 ≡ 0

-- from one orbit to the next the slot stays, goes up, or begins a round: nobody with a slot is left out
abbrev pub Rises : List ℕ → ℕ → ℕ → Type 0
Rises slots a b = (b ≡ a) ⊎ (Up slots a b ⊎ Over slots a b)

-- in how many of the n orbits from orbit m on controller k holds
unfoldable pub held_in : List ℕ → ℕ → ℕ → ℕ → ℕ
held_in slots k m zero = 0
held_in slots k m (suc n) = held_in slots k m n + one (eqb (holder_after slots (m + n)) k)

-- share: in orbits that follow each other, as many as a round has, wherever they begin, controller k holds in exactly 10 × slot
pub record Rounds (slots : List ℕ) : Type 0 where
  pub holds : (k : ℕ) → k < 8 → Holds slots k
  pub hold : (k m : ℕ) → k < 8 → (holder_after slots m ≡ k → ⊥) → holder_after slots (suc m) ≡ k → Hold slots k m
  pub rises : (m : ℕ) → Rises slots (holder_after slots m) (holder_after slots (suc m))
  pub share : (k m : ℕ) → k < 8 → held_in slots k m (total slots) ≡ stretch slots k

-- worked: ten orbits for controller 0, twenty for controller 3, and again; nobody, where there is no slot
abbrev pub few : List ℕ
few = 1 ∷ 0 ∷ 0 ∷ 2 ∷ 0 ∷ 0 ∷ 0 ∷ 0 ∷ []

pub record Sample : Type 0 where
  pub first : holder_after few 9 ≡ 0
  pub next : holder_after few 10 ≡ 3
  pub last : holder_after few 29 ≡ 3
  pub again : holder_after few 30 ≡ 0
  pub none : holder_after [] 5 ≡ 8
