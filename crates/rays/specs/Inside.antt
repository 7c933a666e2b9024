-- Whether a place is inside a ring: document 02 (iv), for check 0F.
use Rattle.std.specs.Prelude.{ℕ, zero, suc, Bool, false, not, ◌&&◌, ◌||◌, List, pos}
use Rattle.std.specs.Int.Signed.{lt_z, le_z}
use Rattle.whole.specs.Lists.{tally}
use Rattle.plane.specs.Plane.{Spot, Segment, side}

-- The ray from q goes along the first axis, turned up a little, so that a corner at q's height is below it: an edge crosses it
-- when one end is at or below q's height, the other above it, and q is on the left of the edge as it goes up.
unfoldable pub crosses : Spot → Segment → Bool
crosses q e =
    le_z e.0.v q.v && lt_z q.v e.1.v && lt_z (pos 0) (side e.0 e.1 q)
    || le_z e.1.v q.v && lt_z q.v e.0.v && lt_z (side e.0 e.1 q) (pos 0)

unfoldable pub is_odd : ℕ → Bool
is_odd zero = false
is_odd (suc n) = not (is_odd n)

-- "inside: a ray from it through no corner crosses the other ring an odd number of times"
unfoldable pub inside : Spot → List Segment → Bool
inside q es = is_odd (tally (crosses q) es)

unfoldable pub inside_computes : Unit {0}
unfolding crosses is_odd inside
inside_computes = tt
