-- For the public function: any two results that its statement allows are one.
use Rattle.std.specs.Prelude.{ℕ, ◌≡◌, Bool, List, map, ℤ}
use Rattle.whole.specs.laws.Agree.{agree}
use Rattle.space.specs.declared.Axis.{Axis}
use Rattle.space.specs.held.Points.{points_of}
use Rattle.ring.specs.Polygon.{rings_of}
use Rattle.ring.specs.held.Rings.{polygon_of}
use Rattle.holes.specs.Holes.{seen, is_shared}

-- 0E of the polygon that the tables hold
abbrev shared : List ℤ → List ℕ → List ℕ → ℕ → ℕ → Axis → Bool
shared flat entries starts from to axis = is_shared (map (seen axis (points_of flat)) (rings_of (polygon_of entries starts from to)))

pub is_shared_agrees : (flat : List ℤ) (entries starts : List ℕ) (from to : ℕ) (axis : Axis) (r₁ r₂ : Bool) → r₁ ≡ shared flat entries starts from to axis → r₂ ≡ shared flat entries starts from to axis → r₁ ≡ r₂
is_shared_agrees flat entries starts from to axis r₁ r₂ = agree
