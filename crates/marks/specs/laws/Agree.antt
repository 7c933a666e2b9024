-- For each public function: any two results that its statement allows are one.
use Rattle.std.specs.Prelude.{ℕ, ◌-◌, ◌<◌, ◌≡◌, List, length, Option, IfSome, unwrap_or}
use Rattle.whole.specs.laws.Agree.{agree, agree_below}
use Rattle.ring.specs.Entries.{repeated_at}

pub first_repeated_agrees : (ring : List ℕ) (r₁ r₂ : ℕ) → r₁ ≡ repeated_at ring → r₂ ≡ repeated_at ring → r₁ ≡ r₂
first_repeated_agrees ring r₁ r₂ = agree

-- the same of what the code answers: an entry before the closing one, or none in place of that
pub first_repeated_alone : (ring : List ℕ) (o₁ o₂ : Option ℕ) →
    IfSome o₁ (λ i. i < length ring - 1) × (unwrap_or o₁ (length ring - 1) ≡ repeated_at ring)
    → IfSome o₂ (λ i. i < length ring - 1) × (unwrap_or o₂ (length ring - 1) ≡ repeated_at ring)
    → o₁ ≡ o₂
first_repeated_alone ring o₁ o₂ = agree_below (length ring - 1) o₁ o₂
