-- A polygon: its rings. Document 02 (iv).
use Rattle.std.specs.Prelude.{ℕ, List, [], ◌∷◌, ◌++◌, map, reverse}

-- "A polygon becomes a list of rings", each a list of entries, of which the outer one is always there
pub record Polygon : Type 0 where
  pub outer : List ℕ
  pub inner : List (List ℕ)

-- "outer first"
unfoldable pub rings_of : Polygon → List (List ℕ)
rings_of p = p.outer ∷ p.inner

-- a polygon of one ring
unfoldable pub one : List ℕ → Polygon
one ring = record { outer = ring; inner = [] }

-- what all rings of a list have, one ring after the other
unfoldable pub all : (List ℕ → List ℕ) → List (List ℕ) → List ℕ
all f [] = []
all f (ring ∷ rings) = f ring ++ all f rings

-- the entries of all rings
unfoldable pub entries_from : Polygon → List ℕ
entries_from p = all (λ ring. ring) (rings_of p)

-- the rings of all polygons of a list
unfoldable pub all_rings : List Polygon → List (List ℕ)
all_rings [] = []
all_rings (p ∷ ps) = rings_of p ++ all_rings ps

-- "Turn reverses every ring."
unfoldable pub turned_over : Polygon → Polygon
turned_over p = record { outer = reverse p.outer; inner = map reverse p.inner }

unfoldable pub polygon_computes : Unit {0}
unfolding rings_of one all entries_from all_rings turned_over
polygon_computes = tt
