-- For each public function: any two results that its statement allows are one.
use Rattle.std.specs.Prelude.{ℕ, ◌+◌, ◌-◌, ◌*◌, ◌<◌, ◌≡◌, List, ℤ, length, Option, IfSome, unwrap_or}
use Rattle.whole.specs.laws.Agree.{agree, agree_below}
use Rattle.space.specs.Space.{places}
use Rattle.space.specs.held.Points.{points_of}
use Rattle.plane.specs.Plane.{largest_axis_of}
use Rattle.normal.specs.Normal.{normal}
use Rattle.crossing.specs.Crossed.{crossed_at}
use Rattle.volume.specs.Part.{part}
use Rattle.polygon.specs.declared.Finding.{Finding}
use Rattle.polygon.specs.declared.Look.{Look}
use Rattle.polygon.specs.held.Findings.{kept_finding}
use Rattle.polygon.specs.Ring.{edges_in, ring_finding, finding, finding_position_of}

pub look_at_agrees : (flat : List ℤ) (ring : List ℕ) (tolerance : ℕ) (r₁ r₂ : Look)
    → (r₁.finding ≡ finding tolerance (points_of flat) ring) × (r₁.part ≡ part (points_of flat) ring)
    → (r₂.finding ≡ finding tolerance (points_of flat) ring) × (r₂.part ≡ part (points_of flat) ring)
    → r₁ ≡ r₂
look_at_agrees flat ring tolerance r₁ r₂ h k = λ i. record { finding = agree h.0 k.0 i; part = agree h.1 k.1 i }

-- by 01 to 05 alone
pub look_at_ring_agrees : (flat : List ℤ) (ring : List ℕ) (r₁ r₂ : Look)
    → (r₁.finding ≡ ring_finding (points_of flat) ring) × (r₁.part ≡ part (points_of flat) ring)
    → (r₂.finding ≡ ring_finding (points_of flat) ring) × (r₂.part ≡ part (points_of flat) ring)
    → r₁ ≡ r₂
look_at_ring_agrees flat ring r₁ r₂ h k = λ i. record { finding = agree h.0 k.0 i; part = agree h.1 k.1 i }

pub first_of_five_agrees : (flat : List ℤ) (ring : List ℕ) (r₁ r₂ : Finding) → r₁ ≡ ring_finding (points_of flat) ring → r₂ ≡ ring_finding (points_of flat) ring → r₁ ≡ r₂
first_of_five_agrees flat ring r₁ r₂ = agree

pub first_crossed_agrees : (flat : List ℤ) (ring : List ℕ) (r₁ r₂ : ℕ) → let ps = places (points_of flat) ring in
    r₁ ≡ crossed_at (edges_in (largest_axis_of (normal ps)) ps) → r₂ ≡ crossed_at (edges_in (largest_axis_of (normal ps)) ps) → r₁ ≡ r₂
first_crossed_agrees flat ring r₁ r₂ = agree

-- the same of what the code answers: an edge, or none in place of how many there are
pub first_crossed_alone : (flat : List ℤ) (ring : List ℕ) (o₁ o₂ : Option ℕ) → let ps = places (points_of flat) ring in
    IfSome o₁ (λ i. i < length ring - 1) × (unwrap_or o₁ (length ring - 1) ≡ crossed_at (edges_in (largest_axis_of (normal ps)) ps))
    → IfSome o₂ (λ i. i < length ring - 1) × (unwrap_or o₂ (length ring - 1) ≡ crossed_at (edges_in (largest_axis_of (normal ps)) ps))
    → o₁ ≡ o₂
first_crossed_alone flat ring o₁ o₂ = agree_below (length ring - 1) o₁ o₂

pub part_of_agrees : (flat : List ℤ) (ring : List ℕ) (r₁ r₂ : ℤ) → r₁ ≡ part (points_of flat) ring → r₂ ≡ part (points_of flat) ring → r₁ ≡ r₂
part_of_agrees flat ring r₁ r₂ = agree

pub kept_agrees : (f : Finding) (r₁ r₂ : ℕ) → r₁ ≡ kept_finding f → r₂ ≡ kept_finding f → r₁ ≡ r₂
kept_agrees f r₁ r₂ = agree

pub kept_at_agrees : (number at r₁ r₂ : ℕ) → r₁ ≡ 16 * at + number → r₂ ≡ 16 * at + number → r₁ ≡ r₂
kept_at_agrees number at r₁ r₂ = agree

pub position_of_agrees : (flat : List ℤ) (ring : List ℕ) (tolerance r₁ r₂ : ℕ) → r₁ ≡ finding_position_of (finding tolerance (points_of flat) ring) → r₂ ≡ finding_position_of (finding tolerance (points_of flat) ring) → r₁ ≡ r₂
position_of_agrees flat ring tolerance r₁ r₂ = agree
