-- What the list tells of small polygons, by computation: two uses by one polygon, steps from a number to itself, points without an edge.
use Rattle.std.specs.Prelude.{◌≡◌, refl, List, [], ◌∷◌}
use Rattle.whole.specs.Lists.{lists_compute}
use Rattle.ring.specs.Polygon.{Polygon, one, polygon_computes}
use Rattle.edges.specs.Edges.{edges_compute}
use Rattle.users.specs.EdgeList.{edge_list, across, edge_list_computes}

-- polygon 3 goes from 1 to 2, and in an inner ring back again, and polygon 5, which is open, from 2 to 1; polygon 4 stands still
abbrev pub some-polygons : List Polygon
some-polygons = one [] ∷ one (7 ∷ []) ∷ one [] ∷ record { outer = 1 ∷ 2 ∷ []; inner = (2 ∷ 1 ∷ []) ∷ [] } ∷ one (2 ∷ 2 ∷ []) ∷ one (2 ∷ 1 ∷ []) ∷ []

-- "A polygon counts once for each time its rings use the edge": users 3, 3 and 5, of which the two lowest are 3 and 3
pub twice_by_one : across 1 2 some-polygons ≡ record { number = 65538; users = 3; lowest = 3; second = 3 }
unfolding lists_compute polygon_computes edges_compute edge_list_computes
twice_by_one = refl

-- "a step from a number to itself is no edge"
pub one-edge : edge_list some-polygons ≡ record { number = 65538; users = 3; lowest = 3; second = 3 } ∷ []
unfolding lists_compute polygon_computes edges_compute edge_list_computes
one-edge = refl

-- "Two points that share no edge get zero users."
pub none_between : across 7 2 some-polygons ≡ record { number = 131079; users = 0; lowest = 65535; second = 65535 }
unfolding lists_compute polygon_computes edges_compute edge_list_computes
none_between = refl
