-- "a turn alters no users": nor the list of edges.
use Rattle.std.specs.Prelude.{ℕ, suc, ◌≡◌, refl, replicate, eqb}
use Rattle.std.proofs.Common.{sym, ap, ap₂, ◌∙◌}
use mathlib.Core.List.{List, ◌++◌, map}
use Rattle.whole.specs.Lists.{at, keep}
use Rattle.ring.specs.Polygon.{Polygon, rings_of, all, all_rings, turned_over}
use Rattle.edges.specs.Edges.{edges_of, count}
use Rattle.edges.specs.Order.{ascending}
use Rattle.directions.specs.laws.Turned.{edges_as, polygon_as}
use Rattle.edges.specs.laws.Ascending.{asc_ascending, asc_unique, tally-ascending}
use Rattle.directions.specs.laws.Turned.{Turned, none, kept, turned, tally-turned, turned-one}
use Rattle.users.specs.EdgeList.{users_from, users_at, listed, is_edge, once, edges_once, edge_list}
use Rattle.users.specs.laws.Keeps.{both, tally-keep}

polygon_counts : (e : ℕ) (p : Polygon) → count e (all edges_of (rings_of (turned_over p))) ≡ count e (all edges_of (rings_of p))
unfolding count
polygon_counts e p = polygon_as edges_of edges_as (eqb e) p

from-turned : (e p : ℕ) {ps ps' : List Polygon} → Turned ps ps' → users_from e p ps' ≡ users_from e p ps
unfolding users_from
from-turned e p none = refl
from-turned e p (kept {p = q} x) = ap (λ (l : List ℕ). replicate (count e (all edges_of (rings_of q))) p ++ l) (from-turned e (suc p) x)
from-turned e p (turned {p = q} x) = ap₂ (λ (k : ℕ) (l : List ℕ). replicate k p ++ l) (polygon_counts e q) (from-turned e (suc p) x)

module _ {ps ps' : List Polygon} (x : Turned ps ps') where
  -- any rings turned: each edge has the same users
  pub users_turned : (e : ℕ) → users_at e ps' ≡ users_at e ps
  unfolding users_at
  users_turned e = from-turned e 0 x

  edges-same : ascending (keep is_edge (all edges_of (all_rings ps'))) ≡ ascending (keep is_edge (all edges_of (all_rings ps)))
  edges-same =
      asc_unique (ascending (keep is_edge (all edges_of (all_rings ps')))) (ascending (keep is_edge (all edges_of (all_rings ps)))) (asc_ascending (keep is_edge (all edges_of (all_rings ps')))) (asc_ascending (keep is_edge (all edges_of (all_rings ps))))
      (λ t. tally-ascending t (keep is_edge (all edges_of (all_rings ps')))
      ∙ tally-keep is_edge t (all edges_of (all_rings ps'))
      ∙ tally-turned x (both is_edge t)
      ∙ sym (tally-keep is_edge t (all edges_of (all_rings ps)))
      ∙ sym (tally-ascending t (keep is_edge (all edges_of (all_rings ps)))))

  -- and the list is the same
  pub list_turned : edge_list ps' ≡ edge_list ps
  unfolding edge_list edges_once
  list_turned = λ i. map (λ e. listed e (users_turned e i)) (once (edges-same i))

-- one polygon turned
pub turned_users : (e n : ℕ) (ps : List Polygon) → users_at e (at n turned_over ps) ≡ users_at e ps
turned_users e n ps = users_turned (turned-one n ps) e

pub turned_list : (n : ℕ) (ps : List Polygon) → edge_list (at n turned_over ps) ≡ edge_list ps
turned_list n ps = list_turned (turned-one n ps)
