-- Small polygons, worked out: a square with a courtyard, and what can be wrong with it.
use Rattle.std.specs.Prelude.{ℕ, ◌≡◌, refl, Bool, true, false, List, [], ◌∷◌, map, pos}
use Rattle.whole.specs.Lists.{lists_compute}
use Rattle.space.specs.Space.{Point, space_computes}
use Rattle.space.specs.declared.Axis.TheVariants.{Z}
use Rattle.plane.specs.Plane.{plane_computes}
use Rattle.normal.specs.Normal.{normal_computes}
use Rattle.ring.specs.Polygon.{Polygon, rings_of, turned_over, polygon_computes}
use Rattle.rays.specs.Inside.{inside_computes}
use Rattle.holes.specs.Holes.{seen, component_of, is_shared, is_misplaced_of, holes_compute}

abbrev flat : ℕ → ℕ → Point
flat x y = record { x = pos x; y = pos y; z = pos 0 }

-- from 0 on the corners of a square of side 10; from 4 on of one of side 2 in it, and from 8 on of one beside it; from 12 on of one
-- around that at 4; from 16 on of the gap in a U; from 20 on of a square in the gap; from 24 on a corner on the first square's edge,
-- one in its middle, and two corners above the square at 4; from 28 on of one in the U's arm
abbrev points : List Point
points =
    flat 0 0 ∷ flat 10 0 ∷ flat 10 10 ∷ flat 0 10 ∷
    flat 2 2 ∷ flat 4 2 ∷ flat 4 4 ∷ flat 2 4 ∷
    flat 12 2 ∷ flat 14 2 ∷ flat 14 4 ∷ flat 12 4 ∷
    flat 1 1 ∷ flat 6 1 ∷ flat 6 6 ∷ flat 1 6 ∷
    flat 7 10 ∷ flat 7 3 ∷ flat 3 3 ∷ flat 3 10 ∷
    flat 4 6 ∷ flat 6 6 ∷ flat 6 8 ∷ flat 4 8 ∷
    flat 10 5 ∷ flat 6 6 ∷
    record { x = pos 4; y = pos 2; z = pos 2 } ∷ record { x = pos 2; y = pos 2; z = pos 2 } ∷
    flat 1 5 ∷ flat 2 5 ∷ flat 2 7 ∷ flat 1 7 ∷
    []

-- whether 0E fails, and whether 0F does, seen from above
abbrev told : Polygon → Bool × Bool
told p = (
  is_shared (map (seen Z points) (rings_of p)),
  is_misplaced_of (seen Z points p.outer) (map (seen Z points) p.inner) (component_of Z points p.outer) (map (component_of Z points) p.inner),
)

-- the square with some inner rings
abbrev square : List (List ℕ) → Polygon
square inner = record { outer = 0 ∷ 1 ∷ 2 ∷ 3 ∷ 0 ∷ []; inner = inner }

abbrev hole : List ℕ
hole = 4 ∷ 7 ∷ 6 ∷ 5 ∷ 4 ∷ []

-- no inner ring; a courtyard, and turned over; two of them
pub sound : map told (square [] ∷ square (hole ∷ []) ∷ turned_over (square (hole ∷ [])) ∷ square (hole ∷ (20 ∷ 23 ∷ 22 ∷ 21 ∷ 20 ∷ []) ∷ []) ∷ [])
    ≡ (false, false) ∷ (false, false) ∷ (false, false) ∷ (false, false) ∷ []
unfolding lists_compute space_computes plane_computes normal_computes polygon_computes inside_computes holes_compute
sound = refl

-- 0E: a corner in common; a corner on an edge; an edge across an edge; one ring twice
pub sharing : map (λ p. is_shared (map (seen Z points) (rings_of p))) (square ((0 ∷ 7 ∷ 6 ∷ 5 ∷ 0 ∷ []) ∷ []) ∷ square ((24 ∷ 6 ∷ 25 ∷ 24 ∷ []) ∷ []) ∷ square ((4 ∷ 7 ∷ 11 ∷ 8 ∷ 4 ∷ []) ∷ []) ∷ square (hole ∷ hole ∷ []) ∷ [])
    ≡ true ∷ true ∷ true ∷ true ∷ []
unfolding lists_compute space_computes plane_computes normal_computes polygon_computes inside_computes holes_compute
sharing = refl

-- 0F: beside the outer ring; around it; a hole in a hole, either way named; turned as the outer ring; stood on end, so that its component is zero
pub misplacing : map told (
    square ((8 ∷ 11 ∷ 10 ∷ 9 ∷ 8 ∷ []) ∷ []) ∷
    record { outer = 4 ∷ 5 ∷ 6 ∷ 7 ∷ 4 ∷ []; inner = (0 ∷ 3 ∷ 2 ∷ 1 ∷ 0 ∷ []) ∷ [] } ∷
    square (hole ∷ (12 ∷ 15 ∷ 14 ∷ 13 ∷ 12 ∷ []) ∷ []) ∷
    square ((12 ∷ 15 ∷ 14 ∷ 13 ∷ 12 ∷ []) ∷ hole ∷ []) ∷
    square ((4 ∷ 5 ∷ 6 ∷ 7 ∷ 4 ∷ []) ∷ []) ∷
    square ((4 ∷ 5 ∷ 26 ∷ 27 ∷ 4 ∷ []) ∷ []) ∷
    []) ≡ (false, true) ∷ (false, true) ∷ (false, true) ∷ (false, true) ∷ (false, true) ∷ (false, true) ∷ []
unfolding lists_compute space_computes plane_computes normal_computes polygon_computes inside_computes holes_compute
misplacing = refl

-- the shape of a U: a hole in its arm is sound, one in the gap between its arms is outside it
abbrev horseshoe : List (List ℕ) → Polygon
horseshoe inner = record { outer = 0 ∷ 1 ∷ 2 ∷ 16 ∷ 17 ∷ 18 ∷ 19 ∷ 3 ∷ 0 ∷ []; inner = inner }

pub between : map told (horseshoe ((28 ∷ 31 ∷ 30 ∷ 29 ∷ 28 ∷ []) ∷ []) ∷ horseshoe ((20 ∷ 23 ∷ 22 ∷ 21 ∷ 20 ∷ []) ∷ []) ∷ []) ≡ (false, false) ∷ (false, true) ∷ []
unfolding lists_compute space_computes plane_computes normal_computes polygon_computes inside_computes holes_compute
between = refl
