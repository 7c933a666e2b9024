-- A place of three coordinates, one within the bounds, and the flat table with a point there.
use Rattle.std.specs.Prelude.{ℕ, ◌+◌, ◌*◌, List, set, ℤ}
use Rattle.space.specs.Space.{Point}
use Rattle.whole.specs.held.Small.{Small}

abbrev pub point3 : ℤ → ℤ → ℤ → Point
point3 x y z = record { x = x; y = y; z = z }

-- a place that is not far
pub record NearPlace (p : Point) : Type 0 where
  pub x : Small 100000 p.x
  pub y : Small 100000 p.y
  pub z : Small 100000 p.z

-- the flat table with point n at another place
abbrev pub placed : List ℤ → ℕ → Point → List ℤ
placed points n p = set (set (set points (3 * n) p.x) (3 * n + 1) p.y) (3 * n + 2) p.z
