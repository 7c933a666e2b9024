-- The list of edges beside the tables, with their users: document 02 (xiii).
use Rattle.std.specs.Prelude.{ℕ, suc, Bool, true, false, not, List, [], ◌∷◌, ◌++◌, map, eqb, length, get_or, replicate}
use Rattle.whole.specs.Lists.{keep, given, first}
use Rattle.ring.specs.Polygon.{Polygon, rings_of, all, all_rings}
use Rattle.edges.specs.Edges.{edge, smaller, larger, edges_of, count}
use Rattle.edges.specs.Order.{ascending, insert}

-- "A polygon counts once for each time its rings use the edge": the polygons that use edge e, of which the first has number n
unfoldable pub users_from : ℕ → ℕ → List Polygon → List ℕ
users_from e n [] = []
users_from e n (p ∷ ps) = replicate (count e (all edges_of (rings_of p))) n ++ users_from e (suc n) ps

-- the users of edge e, the lowest first
unfoldable pub users_at : ℕ → List Polygon → List ℕ
users_at e ps = users_from e 0 ps

-- an edge of the list: "the number of users and the two lowest users"
pub record Listed : Type 0 where
  pub number : ℕ
  pub users : ℕ
  pub lowest : ℕ
  pub second : ℕ

-- edge e with these users; "`FFFF` where there is none"
unfoldable pub listed : ℕ → List ℕ → Listed
listed e us = record { number = e; users = length us; lowest = get_or us 0 65535; second = get_or us 1 65535 }

-- "a step from a number to itself is no edge"
unfoldable pub is_edge : ℕ → Bool
is_edge e = not (eqb (smaller e) (larger e))

-- each number of a list in ascending order once
unfoldable pub once : List ℕ → List ℕ
once [] = []
once (x ∷ []) = x ∷ []
once (x ∷ y ∷ l) = elim (eqb x y) [ true ↦ once (y ∷ l) | false ↦ x ∷ once (y ∷ l) ]

-- the edges of the polygons "in ascending order", whatever their findings
unfoldable pub edges_once : List Polygon → List ℕ
edges_once ps = once (ascending (keep is_edge (all edges_of (all_rings ps))))

-- "the list of edges in ascending order with the number of users and the two lowest users"
unfoldable pub edge_list : List Polygon → List Listed
edge_list ps = map (λ e. listed e (users_at e ps)) (edges_once ps)

-- what a list tells of edge e; "Two points that share no edge get zero users."
unfoldable pub looked_up : ℕ → List Listed → Listed
looked_up e l = first (listed e []) (map (λ x. given (eqb e x.number) x) l)

-- what the list tells of two points, "in either order"
unfoldable pub across : ℕ → ℕ → List Polygon → Listed
across a b ps = looked_up (edge a b) (edge_list ps)

unfoldable pub edge_list_computes : Unit {0}
unfolding users_from users_at listed is_edge once edges_once edge_list looked_up across ascending insert
edge_list_computes = tt
