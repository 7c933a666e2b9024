-- Marks that spread along links: what checks 0B and 0C have in common.
use Rattle.std.specs.Prelude.{ℕ, zero, suc, Bool, true, false, ◌+◌, ◌%◌, ◌≤◌, ◌<◌, ◌≡◌, ◌⊎◌, List, [], ◌∷◌, length, get_or, set}
use Rattle.reach.specs.Reach.{Reach}

-- a pair of words of l, the first at an even place, joins p and q
pub record Joined (l : List ℕ) (g : ℕ → ℕ) (p q : ℕ) : Type 0 where
  pub at : ℕ
  pub even : at % 2 ≡ 0
  pub within : at + 1 < length l
  pub ends : ((g (get_or l at 0) ≡ p) × (g (get_or l (at + 1) 0) ≡ q)) ⊎ ((g (get_or l (at + 1) 0) ≡ p) × (g (get_or l at 0) ≡ q))

abbrev pub Marked : List ℕ → ℕ → Type 0
Marked m p = get_or m p 0 ≡ 1

-- n marks, each 0 or 1
pub record Marks (n : ℕ) (m : List ℕ) : Type 0 where
  pub size : length m ≡ n
  pub bits : (p : ℕ) → get_or m p 0 ≤ 1

pub record Blank (n : ℕ) (m : List ℕ) : Type 0 where
  pub size : length m ≡ n
  pub bare : (p : ℕ) → get_or m p 0 ≡ 0

-- how many of the marks are 0
unfoldable pub zeros : List ℕ → ℕ
zeros [] = 0
zeros (zero ∷ l) = suc (zeros l)
zeros (suc a ∷ l) = zeros l

-- the marks after x and y are joined: as they were where both are marked or neither, else with both; r tells whether one was made
pub record Joint (x y : ℕ) (m m' : List ℕ) (r : Bool) : Type 0 where
  pub same : get_or m x 0 ≡ get_or m y 0 → (m' ≡ m) × (r ≡ false)
  pub other : (get_or m x 0 ≡ get_or m y 0 → ⊥) → (m' ≡ set (set m x 1) y 1) × (r ≡ true)

-- marks that began with m₀: nothing is lost, and nothing is marked that cannot be reached along R
pub record Grown (R : ℕ → ℕ → Type 0) (m₀ m : List ℕ) : Type 0 where
  pub grows : (p : ℕ) → Marked m₀ p → Marked m p
  pub sound : (p : ℕ) → Marked m p → Reach (Marked m₀) R p

-- the marks are exactly what the marks of m₀ reach
pub record Flooded (R : ℕ → ℕ → Type 0) (m₀ m : List ℕ) : Type 0 where
  pub sound : (p : ℕ) → Marked m p → Reach (Marked m₀) R p
  pub whole : (p : ℕ) → Reach (Marked m₀) R p → Marked m p
