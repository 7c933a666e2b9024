-- The rings of a polygon that the tables hold, as the definitions see them: what a loop over the rings' numbers tells is what is asked.
use Rattle.std.specs.Prelude.{ℕ, ◌+◌, ◌-◌, ◌<◌, ◌≡◌, ℤ}
use Rattle.std.proofs.Common.{le_refl, arith, sym, ◌∙◌, subst}
use Rattle.std.proofs.Math.Path.{ap, ap₂}
use mathlib.Core.List.{List, ◌∷◌, map}
use Rattle.whole.specs.Lists.{any_two}
use Rattle.whole.specs.held.Spans.{span}
use Rattle.whole.specs.laws.Spans.{span_same, map-span}
use Rattle.space.specs.declared.Axis.{Axis}
use Rattle.space.specs.held.Points.{points_of, Coords}
use Rattle.plane.specs.Plane.{Spot}
use Rattle.fan.specs.laws.Planes.{u_of, v_of}
use Rattle.ring.specs.Polygon.{Polygon, rings_of}
use Rattle.ring.specs.held.Rings.{ring_at, polygon_of}
use Rattle.rays.specs.held.Seen.{spots_in, Plane}
use Rattle.rays.specs.laws.Seen.{plane_of, seen_is}
use Rattle.holes.specs.Holes.{seen, meet, is_shared}
use Rattle.holes.specs.held.Rings.{Ring, Rings, spots_at}
use Rattle.holes.specs.laws.Passes.{span-next}

module _ {flat : List ℤ} (coords : Coords flat) (axis : Axis) {j k : ℕ} (on_u : j ≡ u_of axis) (on-v : k ≡ v_of axis) where
  pub in_plane : Plane j k
  in_plane = subst (λ (n : ℕ). Plane n k) (sym on_u) (subst (λ (n : ℕ). Plane (u_of axis) n) (sym on-v) (plane_of axis))

  module _ (entries starts : List ℕ) where
    abbrev see : List ℕ → List Spot
    see = seen axis (points_of flat)

    abbrev spots : ℕ → List Spot
    spots = spots_at flat j k entries starts

    ring-seen : (r : ℕ) → Ring entries starts r → spots r ≡ see (ring_at entries starts r)
    unfolding seen
    ring-seen r h = (λ i. spots_in flat (on_u i) (on-v i) (ring_at entries starts r)) ∙ seen_is coords axis (ring_at entries starts r) h.known.each

    all_seen : (from to : ℕ) → Rings entries starts from to → span spots from (to - from) ≡ map see (span (ring_at entries starts) from (to - from))
    all_seen from to h =
        span_same spots (λ r. see (ring_at entries starts r)) from (to - from) (λ r a b. ring-seen r (h.each r a (omega arith)))
        ∙ sym (map-span see (ring_at entries starts) from (to - from))

    module _ (from to : ℕ) (h : Rings entries starts from to) (some : from < to) where
      abbrev polygon : Polygon
      polygon = polygon_of entries starts from to

      pub inner-seen : span spots (from + 1) (to - (from + 1)) ≡ map see polygon.inner
      inner-seen =
          let e : to - (from + 1) ≡ to - from - 1 = omega arith in
          all_seen (from + 1) to (record { few = h.few; each = λ r a b. h.each r (omega arith) b })
          ∙ ap (λ (n : ℕ). map see (span (ring_at entries starts) (from + 1) n)) e

      pub outer-seen : spots from ≡ see polygon.outer
      outer-seen = ring-seen from (h.each from (le_refl from) some)

      pub rings-seen : span spots from (to - from) ≡ map see (rings_of polygon)
      unfolding rings_of
      rings-seen = span-next spots from to some ∙ ap₂ (λ (r : List Spot) (l : List (List Spot)). r ∷ l) outer-seen inner-seen

      -- 0E
      pub shared-tells : any_two meet (span spots from (to - from)) ≡ is_shared (map see (rings_of polygon))
      unfolding is_shared
      shared-tells = ap (any_two meet) rings-seen
