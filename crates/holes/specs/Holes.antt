-- Checks 0E and 0F, document 02 (iv): the rings of one polygon "in the plane left by the outer ring's drop axis", each as its places there.
use Rattle.std.specs.Prelude.{ℕ, Bool, not, ◌&&◌, ◌||◌, List, map, ℤ, pos}
use Rattle.std.specs.Int.Signed.{lt_z}
use Rattle.whole.specs.Lists.{any, any_two, steps}
use Rattle.space.specs.declared.Axis.{Axis}
use Rattle.space.specs.declared.Axis.TheVariants.{X, Y, Z}
use Rattle.space.specs.Space.{Point, places}
use Rattle.plane.specs.Plane.{Spot, drop_axis, share}
use Rattle.normal.specs.Normal.{normal}
use Rattle.rays.specs.Inside.{inside}

-- the places of a ring's entries "in the plane left by the outer ring's drop axis"
unfoldable pub seen : Axis → List Point → List ℕ → List Spot
seen axis points ring = map (drop_axis axis) (places points ring)

-- "its normal's component on that axis"
unfoldable pub component : Axis → Point → ℤ
component X n = n.x
component Y n = n.y
component Z n = n.z

unfoldable pub component_of : Axis → List Point → List ℕ → ℤ
component_of axis points ring = component axis (normal (places points ring))

-- an edge of the one ring and an edge of the other, each with its ends, share a point
unfoldable pub meet : List Spot → List Spot → Bool
meet r s = any (λ e. any (share e) (steps s)) (steps r)

-- 0E: "two rings share a point"
unfoldable pub is_shared : List (List Spot) → Bool
is_shared rings = any_two meet rings

-- a ring is inside another when each of its corners is
unfoldable pub is_inside : List Spot → List Spot → Bool
is_inside r s = not (any (λ q. not (inside q (steps s))) r)

-- one of two rings "lies inside another"
unfoldable pub is_nested : List Spot → List Spot → Bool
is_nested r s = is_inside r s || is_inside s r

-- "opposite in sign", which a component that is zero is to none
unfoldable pub is_opposite : ℤ → ℤ → Bool
is_opposite a b = lt_z (pos 0) a && lt_z b (pos 0) || lt_z a (pos 0) && lt_z (pos 0) b

-- 0F: "an inner ring isn't inside the outer one, lies inside another .., or its normal's component on that axis isn't opposite in sign
-- to the outer's", c being the outer's component and cs those of the inner rings
unfoldable pub is_misplaced_of : List Spot → List (List Spot) → ℤ → List ℤ → Bool
is_misplaced_of outer inner c cs =
    any (λ r. not (is_inside r outer)) inner
    || any_two is_nested inner
    || any (λ d. not (is_opposite c d)) cs

unfoldable pub holes_compute : Unit {0}
unfolding seen component component_of meet is_shared is_inside is_nested is_opposite is_misplaced_of
holes_compute = tt
