-- The plane of check 05, left by dropping an axis, and when two segments in it share a point.
use Rattle.std.specs.Prelude.{Bool, cond, not, ◌&&◌, ◌||◌, leb, ℤ, pos, nat_abs, ◌+ℤ◌, ◌-ℤ◌, ◌*ℤ◌}
use Rattle.std.specs.Int.Signed.{lt_z}
use Rattle.whole.specs.Lists.{same_z}
use Rattle.space.specs.declared.Axis.{Axis}
use Rattle.space.specs.declared.Axis.TheVariants.{X, Y, Z}
use Rattle.space.specs.Space.{Point}

-- "the axis where N is largest in size (ties: x, then y)"
unfoldable pub largest_axis_of : Point → Axis
largest_axis_of n =
    cond (leb (nat_abs n.y) (nat_abs n.x) && leb (nat_abs n.z) (nat_abs n.x)) X
    (cond (leb (nat_abs n.z) (nat_abs n.y)) Y Z)

-- a place in the plane
pub record Spot : Type 0 where
  pub u : ℤ
  pub v : ℤ

-- "the plane left by dropping the axis"
unfoldable pub drop_axis : Axis → Point → Spot
drop_axis X p = record { u = p.y; v = p.z }
drop_axis Y p = record { u = p.z; v = p.x }
drop_axis Z p = record { u = p.x; v = p.y }

-- a segment with both its ends
abbrev pub Segment : Type 0
Segment = Spot × Spot

-- twice the signed area of the triangle a, b, c: which side of the line from a to b the place c is on
unfoldable pub side : Spot → Spot → Spot → ℤ
side a b c = (b.u -ℤ a.u) *ℤ (c.v -ℤ a.v) -ℤ (b.v -ℤ a.v) *ℤ (c.u -ℤ a.u)

-- whether two numbers are both above or both below 0
unfoldable pub same_sign : ℤ → ℤ → Bool
same_sign a b = lt_z (pos 0) a && lt_z (pos 0) b || lt_z a (pos 0) && lt_z b (pos 0)

-- whether the stretch from a to b lies wholly below the one from c to d
unfoldable pub under : ℤ → ℤ → ℤ → ℤ → Bool
under a b c d = lt_z a c && lt_z a d && lt_z b c && lt_z b d

-- whether the stretches from a to b and from c to d overlap
unfoldable pub overlap : ℤ → ℤ → ℤ → ℤ → Bool
overlap a b c d = not (under a b c d) && not (under c d a b)

-- two segments share a point: their stretches overlap on both axes, and neither lies on one side of the other's line
unfoldable pub share : Segment → Segment → Bool
share e f =
    overlap e.0.u e.1.u f.0.u f.1.u
    && overlap e.0.v e.1.v f.0.v f.1.v
    && not (same_sign (side e.0 e.1 f.0) (side e.0 e.1 f.1))
    && not (same_sign (side f.0 f.1 e.0) (side f.0 f.1 e.1))

-- how far f turns off e, and how far it goes e's way
unfoldable pub turn_off_of : Segment → Segment → ℤ
turn_off_of e f = (e.1.u -ℤ e.0.u) *ℤ (f.1.v -ℤ f.0.v) -ℤ (e.1.v -ℤ e.0.v) *ℤ (f.1.u -ℤ f.0.u)

unfoldable pub ahead : Segment → Segment → ℤ
ahead e f = (e.1.u -ℤ e.0.u) *ℤ (f.1.u -ℤ f.0.u) +ℤ (e.1.v -ℤ e.0.v) *ℤ (f.1.v -ℤ f.0.v)

-- e ends where f begins, and they share more than that end: f goes straight back over e
unfoldable pub share_more_of : Segment → Segment → Bool
share_more_of e f = same_z (turn_off_of e f) (pos 0) && lt_z (ahead e f) (pos 0)

unfoldable pub plane_computes : Unit {0}
unfolding largest_axis_of drop_axis side same_sign under overlap share turn_off_of ahead share_more_of
plane_computes = tt
