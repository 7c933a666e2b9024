-- Turning any set of polygons leaves checks 07, 08, 09, 0B and 0C, and their elements, as they are.
use Rattle.std.specs.Prelude.{ℕ, zero, suc, ◌+◌, ◌<◌, ◌≡◌, Bool, eqb, ltb, length, get_or}
use Rattle.std.proofs.Math.Path.{refl, sym}
use Rattle.std.proofs.Common.{ap, ap₂, subst, ◌∙◌}
use mathlib.Core.List.{List, [], ◌∷◌, ◌++◌, map, reverse}
use Rattle.std.proofs.Math.Option
use Rattle.whole.specs.Lists.{given, first, tally, at, tab}
use Rattle.shell.specs.declared.Shape.TheVariants.{Whole, Few, Once, Often, Apart, Unlinked}
use Rattle.ring.specs.Polygon.{Polygon, rings_of, all, entries_from, all_rings, turned_over}
use Rattle.ring.specs.held.Rings.{polygon_at, polygons}
use Rattle.edges.specs.Edges.{edges_of, count, used_once, used_often}
use Rattle.edges.specs.laws.EdgeLaws.{edges-turned}
use Rattle.shell.specs.Shell.{nth, edges_at, not_reached, not_linked, by_ends}
use Rattle.edges.specs.held.Ascending.{In}
use Rattle.edges.specs.laws.Tallies.{tally_append, tally-reverse, same_in}
use Rattle.shell.specs.laws.Adequate.{is_same, uses, once_is, often_is, apart_is, unlinked_is, Shares, Around, reach_by, all_both}
use Rattle.shell.specs.held.Kept.{fixed_shape, turn, turned_polygons}

-- each polygon is as it was, or turned
pub data Turned : List Polygon → List Polygon → Type 0 where
  none : Turned [] []
  kept : {p : Polygon} {ps ps' : List Polygon} → Turned ps ps' → Turned (p ∷ ps) (p ∷ ps')
  turned : {p : Polygon} {ps ps' : List Polygon} → Turned ps ps' → Turned (p ∷ ps) (turned_over p ∷ ps')

pub length-turned : {ps ps' : List Polygon} → Turned ps ps' → length ps' ≡ length ps
length-turned none = refl
length-turned (kept t) = ap suc (length-turned t)
length-turned (turned t) = ap suc (length-turned t)

-- what each ring has as often backwards, a polygon has as often when it is turned
module _ (f : List ℕ → List ℕ) (same : (r : List ℕ) (t : ℕ → Bool) → tally t (f (reverse r)) ≡ tally t (f r)) (t : ℕ → Bool) where
  rings_as : (rs : List (List ℕ)) → tally t (all f (map reverse rs)) ≡ tally t (all f rs)
  unfolding all
  rings_as [] = refl
  rings_as (r ∷ rs) =
      tally_append t (f (reverse r)) (all f (map reverse rs)) ∙ (ap₂ (λ (a b : ℕ). a + b) (same r t) (rings_as rs) ∙ sym (tally_append t (f r) (all f rs)))

  pub polygon_as : (p : Polygon) → tally t (all f (rings_of (turned_over p))) ≡ tally t (all f (rings_of p))
  unfolding turned_over rings_of
  polygon_as p = rings_as (p.outer ∷ p.inner)

  two : (p : Polygon) (ps : List Polygon) → tally t (all f (rings_of p ++ all_rings ps)) ≡ tally t (all f (rings_of p)) + tally t (all f (all_rings ps))
  two p ps = ap (tally t) (all_both f (rings_of p) (all_rings ps)) ∙ tally_append t (all f (rings_of p)) (all f (all_rings ps))

  all_as : {ps ps' : List Polygon} → Turned ps ps' → tally t (all f (all_rings ps')) ≡ tally t (all f (all_rings ps))
  unfolding all_rings
  all_as none = refl
  all_as (kept {p = p} {ps = ps} {ps' = ps'} x) =
      two p ps' ∙ (ap (λ (k : ℕ). tally t (all f (rings_of p)) + k) (all_as x) ∙ sym (two p ps))
  all_as (turned {p = p} {ps = ps} {ps' = ps'} x) =
      two (turned_over p) ps' ∙ (ap₂ (λ (a b : ℕ). a + b) (polygon_as p) (all_as x) ∙ sym (two p ps))

  nth_as : {ps ps' : List Polygon} → Turned ps ps' → (p : ℕ) → tally t (all f (rings_of (nth ps' p))) ≡ tally t (all f (rings_of (nth ps p)))
  nth_as none p = refl
  nth_as (kept x) zero = refl
  nth_as (kept x) (suc p) = nth_as x p
  nth_as (turned {p = q} x) zero = polygon_as q
  nth_as (turned x) (suc p) = nth_as x p

-- a ring has as many of each edge backwards
pub edges_as : (r : List ℕ) (t : ℕ → Bool) → tally t (edges_of (reverse r)) ≡ tally t (edges_of r)
edges_as r t = ap (tally t) (edges-turned r) ∙ tally-reverse t (edges_of r)

pub tally-turned : {ps ps' : List Polygon} → Turned ps ps' → (t : ℕ → Bool) → tally t (all edges_of (all_rings ps')) ≡ tally t (all edges_of (all_rings ps))
tally-turned x t = all_as edges_of edges_as t x

edge_tallies : {ps ps' : List Polygon} → Turned ps ps' → (p : ℕ) (t : ℕ → Bool) → tally t (edges_at ps' p) ≡ tally t (edges_at ps p)
unfolding edges_at
edge_tallies x p t = nth_as edges_of edges_as t x p

entry_tallies : {ps ps' : List Polygon} → Turned ps ps' → (p : ℕ) (t : ℕ → Bool) → tally t (entries_from (nth ps' p)) ≡ tally t (entries_from (nth ps p))
unfolding entries_from
entry_tallies x p t = nth_as (λ r. r) (λ r t. tally-reverse t r) t x p

module _ {ps ps' : List Polygon} (x : Turned ps ps') where
  pub uses-turned : (e : ℕ) → uses (all_rings ps') e ≡ uses (all_rings ps) e
  unfolding uses count
  uses-turned e = tally-turned x (eqb e)

  pub once-turned : used_once (all_rings ps') ≡ used_once (all_rings ps)
  once-turned = is_same (once_is (all_rings ps')) (once_is (all_rings ps)) (λ e h. sym (uses-turned e) ∙ h) (λ e h. uses-turned e ∙ h)

  pub often_turned : used_often (all_rings ps') ≡ used_often (all_rings ps)
  often_turned = is_same (often_is (all_rings ps')) (often_is (all_rings ps)) (λ e h. subst (λ (k : ℕ). 2 < k) (uses-turned e) h) (λ e h. subst (λ (k : ℕ). 2 < k) (sym (uses-turned e)) h)

  edge_to : (e p : ℕ) → In e (edges_at ps' p) → In e (edges_at ps p)
  edge_to e p = same_in (edges_at ps' p) (edges_at ps p) (edge_tallies x p) e

  edge_of : (e p : ℕ) → In e (edges_at ps p) → In e (edges_at ps' p)
  edge_of e p = same_in (edges_at ps p) (edges_at ps' p) (λ t. sym (edge_tallies x p t)) e

  entry_to : (v p : ℕ) → In v (entries_from (nth ps' p)) → In v (entries_from (nth ps p))
  entry_to v p = same_in (entries_from (nth ps' p)) (entries_from (nth ps p)) (entry_tallies x p) v

  entry_of : (v p : ℕ) → In v (entries_from (nth ps p)) → In v (entries_from (nth ps' p))
  entry_of v p = same_in (entries_from (nth ps p)) (entries_from (nth ps' p)) (λ t. sym (entry_tallies x p t)) v

  shares_to : (p q : ℕ) → Shares ps' p q → Shares ps p q
  shares_to p q s = record { by = s.by; mine = edge_to s.by p s.mine; theirs = edge_to s.by q s.theirs }

  shares_of : (p q : ℕ) → Shares ps p q → Shares ps' p q
  shares_of p q s = record { by = s.by; mine = edge_of s.by p s.mine; theirs = edge_of s.by q s.theirs }

  pub apart-turned : not_reached ps' ≡ not_reached ps
  apart-turned =
      is_same
      (apart_is ps')
      (apart_is ps)
      (λ p u. record { within = subst (λ (k : ℕ). p < k) (length-turned x) u.within; cut = λ t. u.cut (reach_by shares_of t) })
      (λ p u. record { within = subst (λ (k : ℕ). p < k) (sym (length-turned x)) u.within; cut = λ t. u.cut (reach_by shares_to t) })

  around_to : (v p q : ℕ) → Around ps' v p q → Around ps v p q
  around_to v p q s = record { has_p = entry_to v p s.has_p; has_q = entry_to v q s.has_q; by = s.by; ends = s.ends; mine = edge_to s.by p s.mine; theirs = edge_to s.by q s.theirs }

  around-of : (v p q : ℕ) → Around ps v p q → Around ps' v p q
  around-of v p q s = record { has_p = entry_of v p s.has_p; has_q = entry_of v q s.has_q; by = s.by; ends = s.ends; mine = edge_of s.by p s.mine; theirs = edge_of s.by q s.theirs }

  pub unlinked-turned : not_linked ps' ≡ not_linked ps
  unlinked-turned =
      is_same
      (unlinked_is ps')
      (unlinked_is ps)
      (λ v c. record { here = c.here; there = c.there; has_here = entry_to v c.here c.has_here; has_there = entry_to v c.there c.has_there; apart = λ t. c.apart (reach_by (around-of v) t) })
      (λ v c. record { here = c.here; there = c.there; has_here = entry_of v c.here c.has_here; has_there = entry_of v c.there c.has_there; apart = λ t. c.apart (reach_by (around_to v) t) })

  -- all of them
  pub fixed_turned : fixed_shape ps' ≡ fixed_shape ps
  unfolding fixed_shape
  fixed_turned i =
      first Whole
      (given (ltb (length-turned x i) 4) (Few (length-turned x i)) ∷
      Option.map (by_ends Once) (once-turned i) ∷
      Option.map (by_ends Often) (often_turned i) ∷
      Option.map Apart (apart-turned i) ∷
      Option.map Unlinked (unlinked-turned i) ∷
      [])

-- all polygons as they are
pub turned_none : (ps : List Polygon) → Turned ps ps
turned_none [] = none
turned_none (p ∷ ps) = kept (turned_none ps)

-- one polygon turned
pub turned-one : (n : ℕ) (ps : List Polygon) → Turned ps (at n turned_over ps)
unfolding at
turned-one n [] = none
turned-one zero (p ∷ ps) = turned (turned_none ps)
turned-one (suc n) (p ∷ ps) = kept (turned-one n ps)

turned_append : {a a' b b' : List Polygon} → Turned a a' → Turned b b' → Turned (a ++ b) (a' ++ b')
turned_append none y = y
turned_append (kept x) y = kept (turned_append x y)
turned_append (turned x) y = turned (turned_append x y)

turned_turn : (k : ℕ) (p : Polygon) → Turned (p ∷ []) (turn k p ∷ [])
unfolding turn
turned_turn zero p = kept none
turned_turn (suc k) p = turned none

-- the polygons under their flags
pub turned_polygons_lem : (es st ft : List ℕ) (n : ℕ) (flags : List ℕ) → Turned (polygons es st ft n) (turned_polygons es st ft n flags)
unfolding polygons turned_polygons tab
turned_polygons_lem es st ft zero flags = none
turned_polygons_lem es st ft (suc n) flags = turned_append (turned_polygons_lem es st ft n flags) (turned_turn (get_or flags n 0) (polygon_at es st ft n))
