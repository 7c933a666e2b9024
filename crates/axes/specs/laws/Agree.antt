-- For each public function: any two results that its statement allows are one.
use Rattle.std.specs.Prelude.{◌≡◌}
use Rattle.whole.specs.laws.Agree.{agree}
use Rattle.space.specs.declared.Axis.{Axis}
use Rattle.space.specs.declared.Place.{Place}
use Rattle.space.specs.held.Points.{as_point}
use Rattle.plane.specs.Plane.{largest_axis_of}

pub largest_axis_agrees : (n : Place) (r₁ r₂ : Axis) → r₁ ≡ largest_axis_of (as_point n) → r₂ ≡ largest_axis_of (as_point n) → r₁ ≡ r₂
largest_axis_agrees n r₁ r₂ = agree
