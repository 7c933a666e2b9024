-- How code sees a ring in the plane of two coordinates.
use Rattle.std.specs.Prelude.{ℕ, ◌≤◌, List, map, ℤ}
use Rattle.plane.specs.Plane.{Spot}
use Rattle.fan.specs.held.Fan.{spot_in}

-- where a ring's entries stand in the plane of coordinates j and k
abbrev pub spots_in : List ℤ → ℕ → ℕ → List ℕ → List Spot
spots_in flat j k ring = map (spot_in flat j k) ring

-- j and k are coordinates
pub record Plane (j k : ℕ) : Type 0 where
  pub first : j ≤ 2
  pub second : k ≤ 2
