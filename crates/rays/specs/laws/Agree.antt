-- For each public function: any two results that its statement allows are one.
use Rattle.std.specs.Prelude.{ℕ, ◌≡◌, Bool, List, ℤ}
use Rattle.whole.specs.Lists.{steps}
use Rattle.whole.specs.laws.Agree.{agree}
use Rattle.space.specs.declared.Axis.{Axis}
use Rattle.plane.specs.held.Edges.{spot}
use Rattle.fan.specs.laws.Planes.{u_of, v_of}
use Rattle.rays.specs.Inside.{inside}
use Rattle.rays.specs.held.Seen.{spots_in}

pub first_left_agrees : (axis : Axis) (r₁ r₂ : ℕ) → r₁ ≡ u_of axis → r₂ ≡ u_of axis → r₁ ≡ r₂
first_left_agrees axis r₁ r₂ = agree

pub second_left_agrees : (axis : Axis) (r₁ r₂ : ℕ) → r₁ ≡ v_of axis → r₂ ≡ v_of axis → r₁ ≡ r₂
second_left_agrees axis r₁ r₂ = agree

pub inside_agrees : (flat : List ℤ) (ring : List ℕ) (j k : ℕ) (u v : ℤ) (r₁ r₂ : Bool) → r₁ ≡ inside (spot u v) (steps (spots_in flat j k ring)) → r₂ ≡ inside (spot u v) (steps (spots_in flat j k ring)) → r₁ ≡ r₂
inside_agrees flat ring j k u v r₁ r₂ = agree
