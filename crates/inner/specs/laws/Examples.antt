-- Polygons of several rings, by computation: each of document 02 (iv)'s sentences about them, so that a slip in the definitions is refused.
use Rattle.std.specs.Prelude.{ℕ, ◌≡◌, refl, List, [], ◌∷◌, map, pos}
use Rattle.whole.specs.Lists.{lists_compute}
use Rattle.space.specs.Space.{Point, space_computes}
use Rattle.plane.specs.Plane.{plane_computes}
use Rattle.rays.specs.Inside.{inside_computes}
use Rattle.holes.specs.Holes.{holes_compute}
use Rattle.ring.specs.Polygon.{Polygon, polygon_computes}
use Rattle.polygon.specs.declared.Finding.{Finding}
use Rattle.polygon.specs.declared.Finding.TheVariants.{Sound, Short, Repeated, Crossed, Uneven, Shared, Misplaced}
use Rattle.polygon.specs.Ring.{ring_computes}
use Rattle.inner.specs.Finding.{finding, part, inner_computes}

unfoldable pub rings_compute : Unit {0}
unfolding lists_compute space_computes plane_computes inside_computes holes_compute polygon_computes ring_computes inner_computes
rings_compute = tt

abbrev place : ℕ → ℕ → ℕ → Point
place x y z = record { x = pos x; y = pos y; z = pos z }

-- a square floor of 10 m, and two squares in it: points 0 to 3, 4 to 7 and 8 to 11; the corner 6 is at a height
abbrev floor_at : ℕ → List Point
floor_at h =
    place 0 0 0 ∷ place 10000 0 0 ∷ place 10000 10000 0 ∷ place 0 10000 0
    ∷ place 2000 2000 0 ∷ place 2000 4000 0 ∷ place 4000 4000 h ∷ place 4000 2000 0
    ∷ place 5000 5000 0 ∷ place 5000 6000 0 ∷ place 6000 6000 0 ∷ place 6000 5000 0
    ∷ place 3000 3000 0 ∷ place 12000 1000 0 ∷ place 12000 2000 0 ∷ place 13000 2000 0 ∷ []

abbrev around : List (List ℕ) → Polygon
around inner = record { outer = 0 ∷ 1 ∷ 2 ∷ 3 ∷ 0 ∷ []; inner = inner }

abbrev hole : List ℕ
hole = 4 ∷ 5 ∷ 6 ∷ 7 ∷ 4 ∷ []

-- an example: tolerance, points, inner rings and the finding
abbrev Example : Type 0
Example = ℕ × List Point × List (List ℕ) × Finding

abbrev told : Example → Finding
told e = finding e.0 e.1 (around e.2)

abbrev expected : Example → Finding
expected e = e.3

abbrev examples : List Example
examples =
    -- a courtyard, and two
    (0, floor_at 0, hole ∷ [], Sound)
    ∷ (0, floor_at 0, hole ∷ (8 ∷ 9 ∷ 10 ∷ 11 ∷ 8 ∷ []) ∷ [], Sound)
    -- "A position in a later ring adds the entries of all rings before it": 03 in the second inner ring, index 2 after 5 + 5
    ∷ (0, floor_at 0, hole ∷ (8 ∷ 9 ∷ 9 ∷ 10 ∷ 8 ∷ []) ∷ [], Repeated 12)
    -- "a ring's first failure ends the search": the first inner ring has 03, the second 01
    ∷ (0, floor_at 0, (4 ∷ 5 ∷ 4 ∷ 7 ∷ 4 ∷ []) ∷ [] ∷ [], Repeated 7)
    ∷ (0, floor_at 0, [] ∷ (4 ∷ 5 ∷ 4 ∷ 7 ∷ 4 ∷ []) ∷ [], Short)
    -- before 06, which would fail at 7
    ∷ (10, floor_at 11, hole ∷ (8 ∷ 9 ∷ 9 ∷ 10 ∷ 8 ∷ []) ∷ [], Repeated 12)
    -- "Then 06 is taken for all points with the outer ring's normal and first point": index 2 of the hole, at the tolerance and above
    ∷ (10, floor_at 10, hole ∷ [], Sound)
    ∷ (10, floor_at 11, hole ∷ [], Uneven 7)
    -- 0E: a corner of the outer ring, and an edge that crosses one of another inner ring
    ∷ (0, floor_at 0, (0 ∷ 5 ∷ 6 ∷ 7 ∷ 0 ∷ []) ∷ [], Shared)
    ∷ (0, floor_at 0, hole ∷ (12 ∷ 9 ∷ 10 ∷ 11 ∷ 12 ∷ []) ∷ [], Shared)
    -- 0E before 0F: that ring the other way about
    ∷ (0, floor_at 0, (0 ∷ 7 ∷ 6 ∷ 5 ∷ 0 ∷ []) ∷ [], Shared)
    -- 0F: "its normal's component on that axis isn't opposite in sign to the outer's"; "isn't inside the outer one"; "lies inside another"
    ∷ (0, floor_at 0, (4 ∷ 7 ∷ 6 ∷ 5 ∷ 4 ∷ []) ∷ [], Misplaced)
    ∷ (0, floor_at 0, (13 ∷ 14 ∷ 15 ∷ 13 ∷ []) ∷ [], Misplaced)
    ∷ []

pub worked : map told examples ≡ map expected examples
unfolding rings_compute
worked = refl

-- "an edge's too": edges 2 and 4 of the inner ring cross, 5 + 2
abbrev knotted : List Point
knotted =
    place 0 0 0 ∷ place 10000 0 0 ∷ place 10000 10000 0 ∷ place 0 10000 0
    ∷ place 1000 1000 0 ∷ place 2000 1000 0 ∷ place 2000 1500 0 ∷ place 1000 2000 0 ∷ place 2000 2000 0 ∷ place 1000 1500 0 ∷ []

pub knot : finding 0 knotted (around ((4 ∷ 5 ∷ 6 ∷ 7 ∷ 8 ∷ 9 ∷ 4 ∷ []) ∷ [])) ≡ Crossed 7
unfolding rings_compute
knot = refl

-- "lies inside another": a square hole in a larger one
abbrev nested : List Point
nested =
    place 0 0 0 ∷ place 10000 0 0 ∷ place 10000 10000 0 ∷ place 0 10000 0
    ∷ place 1000 1000 0 ∷ place 1000 9000 0 ∷ place 9000 9000 0 ∷ place 9000 1000 0
    ∷ place 5000 5000 0 ∷ place 5000 6000 0 ∷ place 6000 6000 0 ∷ place 6000 5000 0 ∷ []

pub nest : finding 0 nested (around (hole ∷ (8 ∷ 9 ∷ 10 ∷ 11 ∷ 8 ∷ []) ∷ [])) ≡ Misplaced
unfolding rings_compute
nest = refl

-- "Volume parts add up ring by ring, each from its own first point."
pub parts : part (floor_at 11) (around (hole ∷ [])) ≡ pos 88000000
unfolding rings_compute
parts = refl
