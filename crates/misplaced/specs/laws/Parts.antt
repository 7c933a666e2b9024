-- 0F of a polygon that the tables hold, in the parts that code asks for one after the other.
use Rattle.std.specs.Prelude.{ℕ, zero, suc, ◌+◌, ◌-◌, ◌≤◌, ◌<◌, ◌≡◌, Bool, true, false, not, ◌||◌, List, [], ◌∷◌, map, eqb, length, get_or, ℤ}
use Rattle.std.proofs.Common.{le_refl, arith, sym, ap, ap₂, ◌∙◌, eqb-true}
use Rattle.std.proofs.lemmas.Bool.{not-false}
use Rattle.std.proofs.lemmas.List.{length-map}
use Rattle.whole.specs.Lists.{any, any_two, last_of}
use Rattle.whole.specs.All.{All, none, more}
use Rattle.whole.specs.held.Spans.{span}
use Rattle.whole.specs.laws.Spans.{map-span}
use Rattle.whole.specs.laws.Front.{last-at}
use Rattle.whole.specs.laws.Places.{map_at}
use Rattle.whole.specs.held.Small.{Small}
use Rattle.space.specs.declared.Axis.{Axis}
use Rattle.space.specs.declared.Axis.TheVariants.{X, Y, Z}
use Rattle.space.specs.Space.{Point}
use Rattle.space.specs.held.Points.{points_of, Coords, Near}
use Rattle.plane.specs.Plane.{Spot}
use Rattle.fan.specs.held.Fan.{spot_in}
use Rattle.fan.specs.laws.Planes.{u_of, v_of}
use Rattle.ring.specs.Entries.{is_unclosed}
use Rattle.ring.specs.Polygon.{Polygon, rings_of}
use Rattle.ring.specs.held.Rings.{ring_at, polygon_of}
use Rattle.holes.specs.Holes.{seen, component, component_of, is_shared, is_opposite, is_misplaced_of}
use Rattle.holes.specs.held.Rings.{Rings, Filled, Closings, spots_at}
use Rattle.holes.specs.held.Corners.{stands, nested}
use Rattle.holes.proofs.laws.Corners.{Closed, closed, corners-tell}
use Rattle.holes.specs.laws.Polygons.{outer-seen, inner-seen, rings-seen}
use Rattle.holes.specs.laws.Passes.{span-next}

-- ---- one of three
pub or_one : {a : Bool} (b c : Bool) → a ≡ true → true ≡ (a || b || c)
or_one b c e = sym (ap (λ (x : Bool). x || b || c) e)

pub or_two : {a b : Bool} (c : Bool) → a ≡ false → b ≡ true → true ≡ (a || b || c)
or_two c e f = sym (ap₂ (λ (x y : Bool). x || y || c) e f)

pub or_three : {a b c d : Bool} → a ≡ false → b ≡ false → d ≡ c → d ≡ (a || b || c)
or_three {c = c} e f g = g ∙ sym (ap₂ (λ (x y : Bool). x || y || c) e f)

-- a component is no larger than the point's numbers
pub component_small : {n : ℕ} {p : Point} (axis : Axis) → Near n p → Small n (component axis p)
unfolding component
component_small X h = h.x
component_small Y h = h.y
component_small Z h = h.z

-- ---- a ring that ends where it begins
ring_closed : (at : ℕ → Spot) (ring : List ℕ) → 1 ≤ length ring → is_unclosed ring ≡ false → Closed (map at ring)
unfolding is_unclosed
ring_closed at [] h e = absurd (omega arith)
ring_closed at (a ∷ l) h e =
    closed
    (last-at (at 0) (at a) (map at l)
    ∙ ap (λ (n : ℕ). get_or (map at (a ∷ l)) n (at 0)) (length-map l at)
    ∙ map_at at (a ∷ l) (length l) 0 (at 0) (omega arith)
    ∙ ap at (sym (last-at 0 a l) ∙ sym (eqb-true a (last_of a l) (not-false (eqb a (last_of a l)) e))))

all-span : {A : Type 0} {P : A → Type 0} (f : ℕ → A) (i n : ℕ) → ((k : ℕ) → i ≤ k → k < i + n → P (f k)) → All P (span f i n)
unfolding span
all-span f i zero h = none
all-span f i (suc n) h = more (h i (le_refl i) (omega arith)) (all-span f (i + 1) n (λ k a b. h k (omega arith) (omega arith)))

-- where 0E passed, one corner a ring tells
module _ {flat : List ℤ} (coords : Coords flat) (axis : Axis) {j k : ℕ} (on_u : j ≡ u_of axis) (on-v : k ≡ v_of axis)
    (entries starts : List ℕ) (from to : ℕ) (h : Rings entries starts from to) (some : from < to)
    (filled : Filled entries starts from to) (closings : Closings entries starts from to)
    (apart : is_shared (map (seen axis (points_of flat)) (rings_of (polygon_of entries starts from to))) ≡ false) (c : ℤ) where
  abbrev see : List ℕ → List Spot
  see = seen axis (points_of flat)

  abbrev polygon : Polygon
  polygon = polygon_of entries starts from to

  abbrev spots : ℕ → List Spot
  spots = spots_at flat j k entries starts

  abbrev spot_at : ℕ → Spot
  spot_at = spot_in flat j k

  abbrev components : List ℤ
  components = span (λ r. component_of axis (points_of flat) (ring_at entries starts r)) (from + 1) (to - (from + 1))

  abbrev others : List (List Spot)
  others = span spots (from + 1) (to - (from + 1))

  one-closed : (r : ℕ) → from ≤ r → r < to → Closed (spots r)
  one-closed r a b = ring_closed spot_at (ring_at entries starts r) (filled.each r a b) (closings.each r a b)

  pub misplaced_tells : is_misplaced_of (see polygon.outer) (map see polygon.inner) c (map (component_of axis (points_of flat)) polygon.inner)
      ≡ (any (λ r. not (stands (spot_at 0) r (spots from))) others || any_two (nested (spot_at 0)) others || any (λ d. not (is_opposite c d)) components)
  misplaced_tells =
      let e : to - from - 1 ≡ to - (from + 1) = omega arith in
      (λ i. is_misplaced_of (sym (outer-seen coords axis on_u on-v entries starts from to h some) i) (sym (inner-seen coords axis on_u on-v entries starts from to h some) i) c (map (component_of axis (points_of flat)) polygon.inner))
      ∙ ap (is_misplaced_of (spots from) others c)
      (map-span (component_of axis (points_of flat)) (ring_at entries starts) (from + 1) (to - from - 1) ∙ ap (span (λ r. component_of axis (points_of flat) (ring_at entries starts r)) (from + 1)) e)
      ∙ corners-tell (spot_at 0) (one-closed from (le_refl from) some) (all-span spots (from + 1) (to - (from + 1)) (λ r a b. one-closed r (omega arith) (omega arith)))
      (ap is_shared (sym (span-next spots from to some) ∙ rings-seen coords axis on_u on-v entries starts from to h some) ∙ apart) c components
