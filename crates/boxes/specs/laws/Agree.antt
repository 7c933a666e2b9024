-- For each public function: any two results that its statement allows are one.
use Rattle.std.specs.Prelude.{ℕ, ◌<◌, ◌≡◌, List, ℤ, Option, IfSome, unwrap_or}
use Rattle.whole.specs.Lists.{tab}
use Rattle.whole.specs.laws.Agree.{agree, agree_below}
use Rattle.plane.specs.held.Edges.{edge_at}
use Rattle.crossing.specs.Crossed.{crossed_at}

pub first_crossed_agrees : (us vs : List ℤ) (m : ℕ) (r₁ r₂ : ℕ) → r₁ ≡ crossed_at (tab (edge_at us vs) m) → r₂ ≡ crossed_at (tab (edge_at us vs) m) → r₁ ≡ r₂
first_crossed_agrees us vs m r₁ r₂ = agree

-- the same of what the code answers: an edge, or none in place of how many there are
pub first_crossed_alone : (us vs : List ℤ) (m : ℕ) (o₁ o₂ : Option ℕ) →
    IfSome o₁ (λ i. i < m) × (unwrap_or o₁ m ≡ crossed_at (tab (edge_at us vs) m))
    → IfSome o₂ (λ i. i < m) × (unwrap_or o₂ m ≡ crossed_at (tab (edge_at us vs) m))
    → o₁ ≡ o₂
first_crossed_alone us vs m o₁ o₂ = agree_below m o₁ o₂
