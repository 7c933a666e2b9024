-- For the public function: any two results that its statement allows are one.
use Rattle.std.specs.Prelude.{ℕ, ◌≡◌, Bool, List, map, ℤ}
use Rattle.whole.specs.laws.Agree.{agree}
use Rattle.space.specs.declared.Axis.{Axis}
use Rattle.space.specs.declared.Place.{Place}
use Rattle.space.specs.held.Points.{points_of, as_point}
use Rattle.ring.specs.held.Rings.{polygon_of}
use Rattle.holes.specs.Holes.{seen, component, component_of, is_misplaced_of}

-- 0F of the polygon that the tables hold, n being the outer ring's normal
abbrev misplaced : List ℤ → List ℕ → List ℕ → ℕ → ℕ → Place → Axis → Bool
misplaced flat entries starts from to n axis =
    is_misplaced_of (seen axis (points_of flat) (polygon_of entries starts from to).outer) (map (seen axis (points_of flat)) (polygon_of entries starts from to).inner) (component axis (as_point n)) (map (component_of axis (points_of flat)) (polygon_of entries starts from to).inner)

pub is_misplaced_agrees : (flat : List ℤ) (entries starts : List ℕ) (from to : ℕ) (n : Place) (axis : Axis) (r₁ r₂ : Bool)
    → r₁ ≡ misplaced flat entries starts from to n axis → r₂ ≡ misplaced flat entries starts from to n axis → r₁ ≡ r₂
is_misplaced_agrees flat entries starts from to n axis r₁ r₂ = agree
