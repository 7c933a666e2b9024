-- How code holds points and rings: three numbers to a point, one after another, in fixed room; and places as it passes them on.
use Rattle.std.specs.Prelude.{ℕ, ◌+◌, ◌*◌, ◌≤◌, ◌<◌, ◌≡◌, List, [], ◌∷◌, length, get_or, ℤ, pos}
use Rattle.whole.specs.held.Small.{Small}
use Rattle.space.specs.Space.{Point}
use Rattle.space.specs.declared.Place.{Place}

-- the points that a list of numbers holds
unfoldable pub points_of : List ℤ → List Point
points_of (x ∷ y ∷ z ∷ l) = record { x = x; y = y; z = z } ∷ points_of l
points_of (x ∷ y ∷ []) = []
points_of (x ∷ []) = []
points_of [] = []

-- the bounds of document 01: room for 512 points, each coordinate at most 100,000 in size
pub record Coords (flat : List ℤ) : Type 0 where
  pub room : length flat ≡ 1536
  pub small : (i : ℕ) → Small 100000 (get_or flat i (pos 0))

-- a ring of at most 128 entries, each the number of a point
pub record Known (ring : List ℕ) : Type 0 where
  pub few : length ring ≤ 128
  pub each : (i : ℕ) → i < length ring → get_or ring i 0 < 512

-- point p is the numbers 3p, 3p + 1, 3p + 2
abbrev pub place_at : List ℤ → ℕ → Point
place_at flat p = record { x = get_or flat (3 * p) (pos 0); y = get_or flat (3 * p + 1) (pos 0); z = get_or flat (3 * p + 2) (pos 0) }

-- the point of three numbers
abbrev pub at : ℤ → ℤ → ℤ → Point
at x y z = record { x = x; y = y; z = z }

-- the point that code holds as a `Place`
abbrev pub as_point : Place → Point
as_point p = at p.x p.y p.z

-- a point's numbers are at most n in size
pub record Near (n : ℕ) (p : Point) : Type 0 where
  pub x : Small n p.x
  pub y : Small n p.y
  pub z : Small n p.z
