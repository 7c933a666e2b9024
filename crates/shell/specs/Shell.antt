-- All polygons together: checks 07 to 0C.
use Rattle.std.specs.Prelude.{ℕ, Bool, true, false, ◌&&◌, ◌||◌, List, [], ◌∷◌, map, eqb, ltb, length, get_or}
use Rattle.std.proofs.Math.Option
use Rattle.std.proofs.Math.Option.{Option}
use Rattle.whole.specs.Lists.{given, first, any, keep, numbered, lists, least}
use Rattle.shell.specs.declared.Shape.{Shape}
use Rattle.shell.specs.declared.Shape.TheVariants.{Whole, Few, Once, Often, Alike, Apart, Unlinked}
use Rattle.ring.specs.Polygon.{Polygon, rings_of, one, all, entries_from, all_rings}
use Rattle.edges.specs.Edges.{edges_of, smaller, larger, used_once, used_often, used_alike}
use Rattle.reach.specs.Reach.{unreached}

-- the column No.
unfoldable pub shape_number_of : Shape → ℕ
shape_number_of Whole = 0
shape_number_of (Few n) = 7
shape_number_of (Once a b) = 8
shape_number_of (Often a b) = 9
shape_number_of (Alike a b) = 10
shape_number_of (Apart p) = 11
shape_number_of (Unlinked v) = 12

-- the column Element: a, and b ("Where the table names only a, b is 0")
unfoldable pub shape_a_of : Shape → ℕ
shape_a_of Whole = 0
shape_a_of (Few n) = n
shape_a_of (Once a b) = a
shape_a_of (Often a b) = a
shape_a_of (Alike a b) = a
shape_a_of (Apart p) = p
shape_a_of (Unlinked v) = v

unfoldable pub shape_b_of : Shape → ℕ
shape_b_of Whole = 0
shape_b_of (Few n) = 0
shape_b_of (Once a b) = b
shape_b_of (Often a b) = b
shape_b_of (Alike a b) = b
shape_b_of (Apart p) = 0
shape_b_of (Unlinked v) = 0

-- the polygons' numbers
unfoldable pub polygons_of : List Polygon → List ℕ
polygons_of ps = map (λ p. p.0) (numbered ps)

-- polygon p of a list
abbrev pub nth : List Polygon → ℕ → Polygon
nth ps p = get_or ps p (one [])

-- the edges of polygon p: "Edges of all rings count alike."
unfoldable pub edges_at : List Polygon → ℕ → List ℕ
edges_at ps p = all edges_of (rings_of (nth ps p))

-- two polygons share an edge of which a test holds
unfoldable pub share_edge : (ℕ → Bool) → List Polygon → ℕ → ℕ → Bool
share_edge t ps p q = any (λ e. t e && lists e (edges_at ps q)) (edges_at ps p)

-- 0B: "polygons not all reachable from polygon 0 across shared edges", the lowest one not reached
unfoldable pub not_reached : List Polygon → Option ℕ
not_reached ps = least (unreached (share_edge (λ e. true) ps) (polygons_of ps) 0)

-- an edge ends at a point
unfoldable pub ends_at : ℕ → ℕ → Bool
ends_at v e = eqb (smaller e) v || eqb (larger e) v

-- "the polygons there": those of which some ring lists the point
unfoldable pub polygons_at : List Polygon → ℕ → List ℕ
polygons_at ps v = keep (λ p. lists v (entries_from (nth ps p))) (polygons_of ps)

-- whether some of the polygons at v are not linked to the first of them across edges that end at v
unfoldable pub unlinked_at : List Polygon → ℕ → List ℕ → Bool
unlinked_at ps v [] = false
unlinked_at ps v (p ∷ l) = ltb 0 (length (unreached (share_edge (ends_at v) ps) (p ∷ l) p))

-- 0C: "at some used point, the polygons there aren't all linked across edges that end at it", the lowest such point
unfoldable pub not_linked : List Polygon → Option ℕ
not_linked ps = least (keep (λ v. unlinked_at ps v (polygons_at ps v)) (all (λ ring. ring) (all_rings ps)))

-- "An edge is reported as the smaller number a and the larger b"
unfoldable pub by_ends : (ℕ → ℕ → Shape) → ℕ → Shape
by_ends check e = check (smaller e) (larger e)

-- "these tried, in this order"
unfoldable pub shape : List Polygon → Shape
shape ps =
    let rings = all_rings ps in
    first Whole
    (given (ltb (length ps) 4) (Few (length ps)) ∷
    Option.map (by_ends Once) (used_once rings) ∷
    Option.map (by_ends Often) (used_often rings) ∷
    Option.map (by_ends Alike) (used_alike rings) ∷
    Option.map Apart (not_reached ps) ∷
    Option.map Unlinked (not_linked ps) ∷
    [])

unfoldable pub shell_computes : Unit {0}
unfolding shape_number_of shape_a_of shape_b_of polygons_of edges_at share_edge not_reached ends_at polygons_at unlinked_at not_linked by_ends shape
shell_computes = tt
