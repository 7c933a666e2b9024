-- Turning: 0E and 0F are what they were when every ring is reversed, and every component with its sign changed.
use Rattle.std.proofs.Common.{arith, ◌∙◌}
use Rattle.std.specs.Prelude.{ℕ, ◌≡◌, not, ◌&&◌, ◌||◌, ℤ, pos}
use Rattle.std.proofs.Math.Path.{refl, ap, ap₂}
use Rattle.std.proofs.Math.Bool.{or_comm}
use mathlib.Core.List.{List, [], ◌∷◌, map, reverse}
use Rattle.std.proofs.Math.ListN.{get_or}
use Rattle.std.proofs.Math.IntN.{neg_ℤ}
use Rattle.std.specs.Int.Signed.{lt_z}
use Rattle.whole.specs.Lists.{any, any_two, steps}
use Rattle.whole.specs.laws.Solve.{k, ⊝◌}
use Rattle.whole.specs.laws.Linear.{◌≺◌, ◌⇒◌, lin}
use Rattle.whole.specs.laws.Reverse.{back, any-reverse, any_two-map, steps-reverse, map_reverse_aux}
use Rattle.whole.specs.All.{All, none, more}
use Rattle.space.specs.declared.Axis.{Axis}
use Rattle.space.specs.Space.{Point, origin, places}
use Rattle.ring.specs.Polygon.{Polygon, rings_of, turned_over}
use Rattle.plane.specs.Plane.{drop_axis, Spot, Segment, share}
use Rattle.rays.specs.Inside.{inside}
use Rattle.rays.proofs.laws.Parity.{same_lt}
use Rattle.rays.proofs.laws.Turned.{both-back, inside-turned}
use Rattle.holes.specs.Holes.{seen, component_of, meet, is_shared, is_inside, is_nested, is_opposite, is_misplaced_of}
use Rattle.holes.specs.laws.Some.{any-map}

-- ---- two rings
pub meet-turned : (r s : List Spot) → meet (reverse r) (reverse s) ≡ meet r s
unfolding meet
meet-turned r s =
    ap₂ (λ (l m : List Segment). any (λ e. any (share e) m) l) (steps-reverse r) (steps-reverse s)
    ∙ any-reverse (λ e. any (share e) (reverse (map back (steps s)))) (map back (steps r))
    ∙ any-map (λ e. any (share e) (reverse (map back (steps s)))) back (steps r)
    ∙ (λ i. any (λ e. each e i) (steps r))
  where
    each : (e : Segment) → any (share (back e)) (reverse (map back (steps s))) ≡ any (share e) (steps s)
    each e = any-reverse (share (back e)) (map back (steps s)) ∙ any-map (share (back e)) back (steps s) ∙ (λ i. any (λ f. both-back e f i) (steps s))

is_inside-turned : (r s : List Spot) → is_inside (reverse r) (reverse s) ≡ is_inside r s
unfolding is_inside
is_inside-turned r s = ap not (any-reverse (λ q. not (inside q (steps (reverse s)))) r ∙ (λ i. any (λ q. not (inside-turned q s i)) r))

is_nested-turned : (r s : List Spot) → is_nested (reverse r) (reverse s) ≡ is_nested r s
unfolding is_nested
is_nested-turned r s = ap₂ ◌||◌ (is_inside-turned r s) (is_inside-turned s r)

-- ---- signs
above_neg : (z : ℤ) → lt_z (pos 0) (neg_ℤ z) ≡ lt_z z (pos 0)
above_neg z = same_lt (pos 0) (neg_ℤ z) z (pos 0) (lin 1 (λ z. k (pos 0) ≺ ⊝ z ⇒ z ≺ k (pos 0)) (omega arith) z) (lin 1 (λ z. z ≺ k (pos 0) ⇒ k (pos 0) ≺ ⊝ z) (omega arith) z)

below_neg : (z : ℤ) → lt_z (neg_ℤ z) (pos 0) ≡ lt_z (pos 0) z
below_neg z = same_lt (neg_ℤ z) (pos 0) (pos 0) z (lin 1 (λ z. ⊝ z ≺ k (pos 0) ⇒ k (pos 0) ≺ z) (omega arith) z) (lin 1 (λ z. k (pos 0) ≺ z ⇒ ⊝ z ≺ k (pos 0)) (omega arith) z)

pub opposite_turned : (a b : ℤ) → is_opposite (neg_ℤ a) (neg_ℤ b) ≡ is_opposite a b
unfolding is_opposite
opposite_turned a b =
    ap₂ ◌||◌ (ap₂ ◌&&◌ (above_neg a) (below_neg b)) (ap₂ ◌&&◌ (below_neg a) (above_neg b))
    ∙ or_comm (lt_z a (pos 0) && lt_z (pos 0) b) (lt_z (pos 0) a && lt_z b (pos 0))

-- ---- all rings
pub shared-turned : (rings : List (List Spot)) → is_shared (map reverse rings) ≡ is_shared rings
unfolding is_shared
shared-turned rings = any_two-map meet reverse rings ∙ (λ i. any_two (λ r s. meet-turned r s i) rings)

pub misplaced-turned : (outer : List Spot) (inner : List (List Spot)) (c : ℤ) (cs : List ℤ) → is_misplaced_of (reverse outer) (map reverse inner) (neg_ℤ c) (map neg_ℤ cs) ≡ is_misplaced_of outer inner c cs
unfolding is_misplaced_of
misplaced-turned outer inner c cs =
    ap₂ ◌||◌ (ap₂ ◌||◌
    (any-map (λ r. not (is_inside r (reverse outer))) reverse inner ∙ (λ i. any (λ r. not (is_inside-turned r outer i)) inner))
    (any_two-map is_nested reverse inner ∙ (λ i. any_two (λ r s. is_nested-turned r s i) inner)))
    (any-map (λ d. not (is_opposite (neg_ℤ c) d)) neg_ℤ cs ∙ (λ i. any (λ d. not (opposite_turned c d i)) cs))

-- ---- a polygon that is turned over
module _ (axis : Axis) (points : List Point) where
  abbrev see : List ℕ → List Spot
  see = seen axis points

  seen_turned : (ring : List ℕ) → see (reverse ring) ≡ reverse (see ring)
  unfolding seen places
  seen_turned ring =
      ap (map (drop_axis axis)) (map_reverse_aux (λ n. get_or points n origin) ring []) ∙ map_reverse_aux (drop_axis axis) (map (λ n. get_or points n origin) ring) []

  all-turned : (rings : List (List ℕ)) → map see (map reverse rings) ≡ map reverse (map see rings)
  all-turned [] = refl
  all-turned (r ∷ rings) = ap₂ (λ (s : List Spot) (l : List (List Spot)). s ∷ l) (seen_turned r) (all-turned rings)

  -- 0E of it
  pub shared-over : (p : Polygon) → is_shared (map see (rings_of (turned_over p))) ≡ is_shared (map see (rings_of p))
  unfolding rings_of turned_over
  shared-over p = ap is_shared (all-turned (p.outer ∷ p.inner)) ∙ shared-turned (map see (p.outer ∷ p.inner))

  -- and 0F, where the component of each inner ring has its sign changed, as that of a closed one has
  pub misplaced-over : (p : Polygon) (c : ℤ) → All (λ (r : List ℕ). component_of axis points (reverse r) ≡ neg_ℤ (component_of axis points r)) p.inner
      → is_misplaced_of (see (turned_over p).outer) (map see (turned_over p).inner) (neg_ℤ c) (map (component_of axis points) (turned_over p).inner)
      ≡ is_misplaced_of (see p.outer) (map see p.inner) c (map (component_of axis points) p.inner)
  unfolding turned_over
  misplaced-over p c h =
      (λ i. is_misplaced_of (seen_turned p.outer i) (all-turned p.inner i) (neg_ℤ c) (signs h i))
      ∙ misplaced-turned (see p.outer) (map see p.inner) c (map (component_of axis points) p.inner)
    where
      signs : {l : List (List ℕ)} → All (λ (r : List ℕ). component_of axis points (reverse r) ≡ neg_ℤ (component_of axis points r)) l → map (component_of axis points) (map reverse l) ≡ map neg_ℤ (map (component_of axis points) l)
      signs none = refl
      signs (more e r) = ap₂ (λ (z : ℤ) (l : List ℤ). z ∷ l) e (signs r)
