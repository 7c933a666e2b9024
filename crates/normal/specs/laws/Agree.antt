-- For each public function, `normal` and `normal_of`: any two results that its statement allows are one.
use Rattle.std.specs.Prelude.{ℕ, ◌≡◌, List, ℤ}
use Rattle.space.specs.declared.Place.{Place}
use Rattle.space.specs.Space.{places}
use Rattle.space.specs.held.Points.{points_of, as_point}
use Rattle.space.specs.laws.Agree.{same_place}
use Rattle.normal.specs.Normal.{normal}

pub normal_of_agrees : (flat : List ℤ) (ring : List ℕ) (r₁ r₂ : Place) → as_point r₁ ≡ normal (places (points_of flat) ring) → as_point r₂ ≡ normal (places (points_of flat) ring) → r₁ ≡ r₂
normal_of_agrees flat ring r₁ r₂ = same_place (normal (places (points_of flat) ring)) r₁ r₂
