-- For each public function: any two results that its statement allows are one.
use Rattle.std.specs.Prelude.{ℕ, ◌-◌, ◌≡◌, Bool, List, length, get_or, ℤ}
use Rattle.whole.specs.laws.Agree.{agree}
use Rattle.space.specs.declared.Axis.{Axis}
use Rattle.space.specs.held.Points.{place_at}
use Rattle.plane.specs.declared.Spot.{Spot}
use Rattle.plane.specs.declared.Edge.{Edge}
use Rattle.plane.specs.Plane.{drop_axis}
use Rattle.plane.specs.held.Edges.{as_spot, as_segment, Close, Ends}
use Rattle.fan.specs.declared.Plane.{Plane}
use Rattle.fan.specs.held.Fan.{spot_in, is_fan_of}
use Rattle.fan.specs.laws.Planes.{u_of, v_of}

-- a plane is its two numbers
pub left_by_agrees : (axis : Axis) (r₁ r₂ : Plane) → (r₁.u ≡ u_of axis) × (r₁.v ≡ v_of axis) → (r₂.u ≡ u_of axis) × (r₂.v ≡ v_of axis) → (r₁.u ≡ r₂.u) × (r₁.v ≡ r₂.v)
left_by_agrees axis r₁ r₂ h k = (agree h.0 k.0, agree h.1 k.1)

pub spot_agrees : (flat : List ℤ) (u v p : ℕ) (r₁ r₂ : Spot) → (as_spot r₁ ≡ spot_in flat u v p) × Close (as_spot r₁) → (as_spot r₂ ≡ spot_in flat u v p) × Close (as_spot r₂) → r₁ ≡ r₂
spot_agrees flat u v p r₁ r₂ h k = λ j. record { u = (agree h.0 k.0 j).u; v = (agree h.0 k.0 j).v }

pub edge_agrees : (flat : List ℤ) (u v p q : ℕ) (r₁ r₂ : Edge)
    → (as_segment r₁ ≡ (spot_in flat u v p, spot_in flat u v q)) × Ends (as_segment r₁)
    → (as_segment r₂ ≡ (spot_in flat u v p, spot_in flat u v q)) × Ends (as_segment r₂)
    → r₁ ≡ r₂
edge_agrees flat u v p q r₁ r₂ h k = λ j. let e = agree h.0 k.0 in record { a = record { u = (e j).0.u; v = (e j).0.v }; b = record { u = (e j).1.u; v = (e j).1.v } }

pub is_fan_agrees : (flat : List ℤ) (ring : List ℕ) (axis : Axis) (r₁ r₂ : Bool)
    → r₁ ≡ is_fan_of (λ i. drop_axis axis (place_at flat (get_or ring i 0))) (length ring - 3)
    → r₂ ≡ is_fan_of (λ i. drop_axis axis (place_at flat (get_or ring i 0))) (length ring - 3)
    → r₁ ≡ r₂
is_fan_agrees flat ring axis r₁ r₂ = agree
