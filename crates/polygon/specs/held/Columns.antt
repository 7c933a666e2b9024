-- The columns that code fills with the places of a ring.
use Rattle.std.specs.Prelude.{ℕ, ◌+◌, ◌*◌, ◌<◌, ◌≡◌, List, map, get_or, length, ℤ, pos}
use Rattle.plane.specs.Plane.{Spot}
use Rattle.plane.specs.held.Edges.{spot}

-- room of n numbers that holds coordinate k of each entry of a ring
pub record Filled (flat : List ℤ) (ring : List ℕ) (k n : ℕ) (room : List ℤ) : Type 0 where
  pub all : length room ≡ n
  pub each : (i : ℕ) → i < length ring → get_or room i (pos 0) ≡ get_or flat (3 * get_or ring i 0 + k) (pos 0)

-- where a ring's entries stand in the plane of coordinates j and k
abbrev pub seen_spots : List ℤ → List ℕ → ℕ → ℕ → List Spot
seen_spots flat ring j k = map (λ p. spot (get_or flat (3 * p + j) (pos 0)) (get_or flat (3 * p + k) (pos 0))) ring
