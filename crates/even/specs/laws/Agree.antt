-- For each public function, `first_uneven` and `first_uneven_closed`: any two results that its statement allows are one.
use Rattle.std.specs.Prelude.{ℕ, ◌<◌, ◌≡◌, List, ℤ, length, Option, IfSome, unwrap_or}
use Rattle.whole.specs.laws.Agree.{agree, agree_below}
use Rattle.space.specs.declared.Place.{Place}
use Rattle.space.specs.Space.{places}
use Rattle.space.specs.held.Points.{points_of, as_point}
use Rattle.even.specs.Even.{uneven_at}

pub first_uneven_agrees : (flat : List ℤ) (ring : List ℕ) (tolerance : ℕ) (n : Place) (r₁ r₂ : ℕ) → r₁ ≡ uneven_at tolerance (as_point n) (places (points_of flat) ring) → r₂ ≡ uneven_at tolerance (as_point n) (places (points_of flat) ring) → r₁ ≡ r₂
first_uneven_agrees flat ring tolerance n r₁ r₂ = agree

-- the same of what the code answers: an entry, or none in place of how many there are
pub first_uneven_alone : (flat : List ℤ) (ring : List ℕ) (tolerance : ℕ) (n : Place) (o₁ o₂ : Option ℕ) →
    IfSome o₁ (λ i. i < length ring) × (unwrap_or o₁ (length ring) ≡ uneven_at tolerance (as_point n) (places (points_of flat) ring))
    → IfSome o₂ (λ i. i < length ring) × (unwrap_or o₂ (length ring) ≡ uneven_at tolerance (as_point n) (places (points_of flat) ring))
    → o₁ ≡ o₂
first_uneven_alone flat ring tolerance n o₁ o₂ = agree_below (length ring) o₁ o₂
