-- For each public function: any two results that its statement allows are one.
use Rattle.std.specs.Prelude.{ℕ, ◌≡◌, Bool, List, ℤ}
use Rattle.whole.specs.laws.Agree.{agree}
use Rattle.space.specs.Space.{Point}
use Rattle.places.specs.Points.{is_far_of}
use Rattle.places.specs.held.Places.{placed}

pub is_far_agrees : (p : Point) (r₁ r₂ : Bool) → r₁ ≡ is_far_of p → r₂ ≡ is_far_of p → r₁ ≡ r₂
is_far_agrees p r₁ r₂ = agree

pub place_agrees : (flat : List ℤ) (n : ℕ) (p : Point) (flat₁ flat₂ : List ℤ) → flat₁ ≡ placed flat n p → flat₂ ≡ placed flat n p → flat₁ ≡ flat₂
place_agrees flat n p flat₁ flat₂ = agree
