-- For each public function: any two results that its statement allows are one.
use Rattle.std.specs.Prelude.{ℕ, ◌≡◌, List, ℤ}
use Rattle.whole.specs.laws.Agree.{agree}
use Rattle.space.specs.held.Points.{points_of}
use Rattle.volume.specs.Part.{part}

pub part_of_agrees : (flat : List ℤ) (ring : List ℕ) (r₁ r₂ : ℤ) → r₁ ≡ part (points_of flat) ring → r₂ ≡ part (points_of flat) ring → r₁ ≡ r₂
part_of_agrees flat ring r₁ r₂ = agree
