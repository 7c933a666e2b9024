-- For each public function: any two results that its statement allows are one.
use Rattle.std.specs.Prelude.{ℕ, ◌+◌, ◌*◌, ◌≡◌, List, get_or, ℤ, pos}
use Rattle.whole.specs.laws.Agree.{agree}
use Rattle.space.specs.declared.Place.{Place}
use Rattle.space.specs.Space.{Point, relative_to, dot}
use Rattle.space.specs.held.Points.{place_at, as_point}

-- of two that stand for one point
pub same_place : (p : Point) (r₁ r₂ : Place) → as_point r₁ ≡ p → as_point r₂ ≡ p → r₁ ≡ r₂
same_place p r₁ r₂ h k = λ i. record { x = (agree h k i).x; y = (agree h k i).y; z = (agree h k i).z }

pub place_of_agrees : (flat : List ℤ) (p : ℕ) (r₁ r₂ : Place) → as_point r₁ ≡ place_at flat p → as_point r₂ ≡ place_at flat p → r₁ ≡ r₂
place_of_agrees flat p r₁ r₂ = same_place (place_at flat p) r₁ r₂

pub coordinate_agrees : (flat : List ℤ) (p k : ℕ) (r₁ r₂ : ℤ) → r₁ ≡ get_or flat (3 * p + k) (pos 0) → r₂ ≡ get_or flat (3 * p + k) (pos 0) → r₁ ≡ r₂
coordinate_agrees flat p k r₁ r₂ = agree

pub toward_agrees : (flat : List ℤ) (p q : ℕ) (r₁ r₂ : Place) → as_point r₁ ≡ relative_to (place_at flat p) (place_at flat q) → as_point r₂ ≡ relative_to (place_at flat p) (place_at flat q) → r₁ ≡ r₂
toward_agrees flat p q r₁ r₂ = same_place (relative_to (place_at flat p) (place_at flat q)) r₁ r₂

pub dot_agrees : (a b : Place) (r₁ r₂ : ℤ) → r₁ ≡ dot (as_point a) (as_point b) → r₂ ≡ dot (as_point a) (as_point b) → r₁ ≡ r₂
dot_agrees a b r₁ r₂ = agree
