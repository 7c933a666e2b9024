-- The coordinates that are left by dropping an axis.
use Rattle.std.specs.Prelude.{ℕ, ◌+◌, ◌*◌, ◌≡◌, refl, List, get_or, ℤ, pos}
use Rattle.std.proofs.Common.{arith}
use Rattle.space.specs.declared.Axis.{Axis}
use Rattle.space.specs.declared.Axis.TheVariants.{X, Y, Z}
use Rattle.space.specs.held.Points.{place_at}
use Rattle.plane.specs.Plane.{drop_axis}
use Rattle.plane.specs.held.Edges.{spot}
use Rattle.fan.specs.held.Fan.{spot_in, is_fan_of}

-- ---- the plane left by dropping an axis: the coordinates that it keeps
abbrev pub u_of : Axis → ℕ
u_of X = 1
u_of Y = 2
u_of Z = 0

abbrev pub v_of : Axis → ℕ
v_of X = 2
v_of Y = 0
v_of Z = 1

plus-zero : (n : ℕ) → n + 0 ≡ n
plus-zero n = omega arith

pub drop_is : (axis : Axis) (flat : List ℤ) (p : ℕ) → spot (get_or flat (3 * p + u_of axis) (pos 0)) (get_or flat (3 * p + v_of axis) (pos 0)) ≡ drop_axis axis (place_at flat p)
unfolding drop_axis
drop_is X flat p = refl
drop_is Y flat p = λ i. spot (get_or flat (3 * p + 2) (pos 0)) (get_or flat (plus-zero (3 * p) i) (pos 0))
drop_is Z flat p = λ i. spot (get_or flat (plus-zero (3 * p) i) (pos 0)) (get_or flat (3 * p + 1) (pos 0))

-- places that fan out in the plane of the coordinates that an axis leaves
pub fan_plane : (axis : Axis) (flat : List ℤ) (ring : List ℕ) (n : ℕ) → is_fan_of (λ i. spot_in flat (u_of axis) (v_of axis) (get_or ring i 0)) n ≡ is_fan_of (λ i. drop_axis axis (place_at flat (get_or ring i 0))) n
fan_plane axis flat ring n = λ t. is_fan_of (λ i. drop_is axis flat (get_or ring i 0) t) n
