-- What the single steps of check 0B leave: marks of polygons that spread across pairs of words.
use Rattle.std.specs.Prelude.{ℕ, Bool, false, ◌+◌, ◌%◌, ◌≤◌, ◌<◌, ◌≡◌, ◌⊎◌, List, length, get_or}
use Rattle.words.specs.held.Words.{poly_from}
use Rattle.reach.specs.Reach.{Reach}
use Rattle.reach.specs.held.Marking.{Joined, Marked, Marks, zeros, Grown}

-- of each pair of words from place a up to place b both polygons are marked or neither
pub record Level (l m : List ℕ) (a b : ℕ) : Type 0 where
  pub each : (k : ℕ) → k % 2 ≡ 0 → a ≤ k → k + 1 < b → get_or m (poly_from (get_or l k 0)) 0 ≡ get_or m (poly_from (get_or l (k + 1) 0)) 0

-- a sweep up: from r on the marks agree
pub record SweptUp (l m₀ m : List ℕ) (r : ℕ) : Type 0 where
  pub even : r % 2 ≡ 0
  pub within : r ≤ length l
  pub grown : Grown (Joined l poly_from) m₀ m
  pub level : Level l m r (length l)

-- a sweep down from a place: where it marks none, the marks below agree
pub record SweptDown (l : List ℕ) (from : ℕ) (m₀ m : List ℕ) (r : Bool) : Type 0 where
  pub grown : Grown (Joined l poly_from) m₀ m
  pub level : r ≡ false → (m ≡ m₀) × Level l m 0 from

-- polygon 0 alone is marked
pub record Seeded (m : List ℕ) : Type 0 where
  pub marks : Marks 256 m
  pub first : Marked m 0
  pub only : (p : ℕ) → Marked m p → p ≡ 0

-- j is one above the last place before i of a word of polygon p, or 0
pub record Last (l : List ℕ) (p i j : ℕ) : Type 0 where
  pub within : j ≤ i
  pub own : (c : ℕ) → j ≡ c + 1 → poly_from (get_or l c 0) ≡ p
  pub none : (k : ℕ) → j ≤ k → k < i → poly_from (get_or l k 0) ≡ p → ⊥

-- lists of the places of each polygon's words before i, each from its last place down
pub record Listed (l head chain : List ℕ) (i : ℕ) : Type 0 where
  pub size : length head ≡ 256
  pub room : length chain ≡ 1024
  pub heads : (p : ℕ) → p < 256 → Last l p i (get_or head p 0)
  pub nexts : (k : ℕ) → k < i → Last l (poly_from (get_or l k 0)) k (get_or chain k 0)

-- the marked polygons are the first t of f, each once
pub record Queue (m f : List ℕ) (t : ℕ) : Type 0 where
  pub marks : Marks 256 m
  pub size : length f ≡ 256
  pub room : t + zeros m ≤ 256
  pub held : (k : ℕ) → k < t → Marked m (get_or f k 0) × (get_or f k 0 < 256)
  pub listed : (p : ℕ) → Marked m p → (k : ℕ) × (k < t) × (get_or f k 0 ≡ p)
  pub once : (j k : ℕ) → j < k → k < t → get_or f j 0 ≡ get_or f k 0 → ⊥

-- the marks and their queue, with polygons S more
pub record Widened (S : ℕ → Type 0) (m f : List ℕ) (t : ℕ) (m' f' : List ℕ) (t' : ℕ) : Type 0 where
  pub queue : Queue m' f' t'
  pub grows : (p : ℕ) → Marked m p → Marked m' p
  pub kept : (k : ℕ) → k < t → get_or f' k 0 ≡ get_or f k 0
  pub longer : t ≤ t'
  pub sound : (p : ℕ) → Marked m' p → Marked m p ⊎ S p
  pub whole : (p : ℕ) → S p → Marked m' p

-- of the numbers below n the marks are exactly what the marks of m₀ reach
pub record Spread (R : ℕ → ℕ → Type 0) (n : ℕ) (m₀ m : List ℕ) : Type 0 where
  pub sound : (p : ℕ) → Marked m p → Reach (Marked m₀) R p
  pub whole : (p : ℕ) → p < n → Reach (Marked m₀) R p → Marked m p

-- r is the lowest number below n that has no mark, or n
pub record LowestBare (m : List ℕ) (n r : ℕ) : Type 0 where
  pub within : r ≤ n
  pub before : (k : ℕ) → k < r → get_or m k 0 ≡ 0 → ⊥
  pub bare : r < n → get_or m r 0 ≡ 0

-- r is the lowest number below n that 0 does not reach across pairs of words, as their polygons, or n
pub record LowestCut (l : List ℕ) (n r : ℕ) : Type 0 where
  pub within : r ≤ n
  pub before : (k : ℕ) → k < r → Reach (λ p. p ≡ 0) (Joined l poly_from) k
  pub cut : r < n → Reach (λ p. p ≡ 0) (Joined l poly_from) r → ⊥
