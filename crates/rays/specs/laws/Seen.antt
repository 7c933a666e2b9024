-- A ring's places in the plane of two coordinates: each entry's, their bounds, and the plane that an axis leaves.
use Rattle.std.specs.Prelude.{ℕ, suc, ◌+◌, ◌*◌, ◌<◌, ◌≡◌, refl, List, [], ◌∷◌, map, length, get_or, ℤ}
use Rattle.std.proofs.Common.{arith, sym, ap, ap₂, ◌∙◌, subst}
use Rattle.std.proofs.lemmas.List.{length-map}
use Rattle.whole.specs.laws.Places.{map_at}
use Rattle.space.specs.declared.Axis.{Axis}
use Rattle.space.specs.declared.Axis.TheVariants.{X, Y, Z}
use Rattle.space.specs.Space.{places}
use Rattle.space.specs.held.Points.{points_of, Coords}
use Rattle.space.specs.laws.Sizes.{point_at}
use Rattle.plane.specs.Plane.{Spot, drop_axis}
use Rattle.plane.specs.held.Edges.{spot, Close}
use Rattle.fan.specs.held.Fan.{spot_in}
use Rattle.fan.specs.laws.Planes.{u_of, v_of, drop_is}
use Rattle.rays.specs.held.Seen.{spots_in, Plane}

pub close_at : (flat : List ℤ) → Coords flat → (j k n : ℕ) → Close (spot_in flat j k n)
close_at flat h j k n = record { on_u = h.small (3 * n + j); on-v = h.small (3 * n + k) }

pub close_is : {x y : ℤ} (p : Spot) → x ≡ p.u → y ≡ p.v → Close p → Close (spot x y)
close_is p e f h = subst Close (λ i. spot (sym e i) (sym f i)) h

-- a place as two calls returned it
pub spot_is : {x y : ℤ} (p : Spot) → x ≡ p.u → y ≡ p.v → spot x y ≡ p
spot_is p e f = λ i. spot (e i) (f i)

pub seen_at : (flat : List ℤ) (j k : ℕ) (ring : List ℕ) (i : ℕ) (d : Spot) → i < length ring → get_or (spots_in flat j k ring) i d ≡ spot_in flat j k (get_or ring i 0)
seen_at flat j k ring i d h = map_at (spot_in flat j k) ring i 0 d h

pub seen-length : (flat : List ℤ) (j k : ℕ) (ring : List ℕ) → length (spots_in flat j k ring) ≡ length ring
seen-length flat j k ring = length-map ring (spot_in flat j k)

-- the coordinates that an axis leaves
pub plane_of : (axis : Axis) → Plane (u_of axis) (v_of axis)
plane_of X = record { first = omega arith; second = omega arith }
plane_of Y = record { first = omega arith; second = omega arith }
plane_of Z = record { first = omega arith; second = omega arith }

pub seen_is : {flat : List ℤ} → Coords flat → (axis : Axis) (ring : List ℕ) → ((i : ℕ) → i < length ring → get_or ring i 0 < 512)
    → spots_in flat (u_of axis) (v_of axis) ring ≡ map (drop_axis axis) (places (points_of flat) ring)
unfolding places
seen_is h axis [] k = refl
seen_is {flat} h axis (p ∷ ring) k =
    ap₂ (λ (s : Spot) (l : List Spot). s ∷ l) (drop_is axis flat p ∙ ap (drop_axis axis) (sym (point_at h p (k 0 (omega arith))))) (seen_is h axis ring (λ i l. k (suc i) (omega arith)))
