-- For each public function: any two results that its statement allows are one.
use Rattle.std.specs.Prelude.{ℕ, ◌≡◌, List, ℤ}
use Rattle.whole.specs.laws.Agree.{agree}
use Rattle.space.specs.held.Points.{points_of}
use Rattle.ring.specs.held.Rings.{polygon_of}
use Rattle.polygon.specs.declared.Look.{Look}
use Rattle.polygon.specs.Ring.{finding_position_of}
use Rattle.inner.specs.Finding.{finding, part}

module _ (flat : List ℤ) (entries starts : List ℕ) (from to tolerance : ℕ) where
  pub look_at_agrees : (r₁ r₂ : Look)
      → (r₁.finding ≡ finding tolerance (points_of flat) (polygon_of entries starts from to)) × (r₁.part ≡ part (points_of flat) (polygon_of entries starts from to))
      → (r₂.finding ≡ finding tolerance (points_of flat) (polygon_of entries starts from to)) × (r₂.part ≡ part (points_of flat) (polygon_of entries starts from to))
      → r₁ ≡ r₂
  look_at_agrees r₁ r₂ h k = λ i. record { finding = agree h.0 k.0 i; part = agree h.1 k.1 i }

  pub position_of_agrees : (r₁ r₂ : ℕ) → r₁ ≡ finding_position_of (finding tolerance (points_of flat) (polygon_of entries starts from to)) → r₂ ≡ finding_position_of (finding tolerance (points_of flat) (polygon_of entries starts from to)) → r₁ ≡ r₂
  position_of_agrees r₁ r₂ = agree
