-- The rings and polygons of loaded tables: how long they are, and what their entries are.
use Rattle.std.specs.Prelude.{ℕ, ◌+◌, ◌-◌, ◌≤◌, ◌<◌, ◌≡◌, List, length, get_or, ℤ}
use Rattle.std.proofs.Common.{le_refl, arith, sym, ap, subst, ◌∙◌}
use Rattle.whole.specs.All.{All}
use Rattle.ring.specs.Polygon.{one, entries_from}
use Rattle.ring.specs.held.Rings.{ring_at, polygon_at, polygons}
use Rattle.ring.specs.laws.Turned.{polygon-one, entries-one}
use Rattle.building.specs.declared.Scalars.{Scalars}
use Rattle.whole.specs.laws.Places.{tab-length}
use Rattle.holes.specs.held.Rings.{Ring}
use Rattle.building.specs.laws.Lists.{length_cut, get_d_cut, each_all}
use Rattle.ring.specs.laws.Owners.{firsts_ordered}
use Rattle.building.specs.held.Holds.{Loaded}
use Rattle.building.specs.held.Rings.{Stands}

pub ring_length : (entries starts : List ℕ) (r : ℕ) → length entries ≡ 1024 → get_or starts (r + 1) 0 ≤ 1024 → length (ring_at entries starts r) ≡ get_or starts (r + 1) 0 - get_or starts r 0
ring_length entries starts r s w = length_cut (get_or starts r 0) (get_or starts (r + 1) 0) entries (omega arith)

pub polygons-length : (entries starts firsts : List ℕ) (n : ℕ) → length (polygons entries starts firsts n) ≡ n
unfolding polygons
polygons-length entries starts firsts n = tab-length (polygon_at entries starts firsts) n

-- ---- the rings of loaded tables
module _ {points : List ℤ} {entries starts firsts : List ℕ} {s : Scalars} (ld : Loaded points entries starts firsts s) where
  -- the entries of ring r are numbers of points
  pub ring_below : (r : ℕ) → r < get_or firsts s.polygons 0 → (k : ℕ) → k < length (ring_at entries starts r) → get_or (ring_at entries starts r) k 0 < s.points
  ring_below r h k q =
      let e : get_or starts (r + 1) 0 ≤ get_or starts (get_or firsts s.polygons 0) 0 = ld.layout.ordered (r + 1) (get_or firsts s.polygons 0) (omega arith) (le_refl _) in
      let w : get_or starts (get_or firsts s.polygons 0) 0 ≤ 1024 = ld.layout.inside in
      let l : length (ring_at entries starts r) ≡ get_or starts (r + 1) 0 - get_or starts r 0 = ring_length entries starts r ld.entered.size (omega arith) in
      let i : k < get_or starts (r + 1) 0 - get_or starts r 0 = omega arith in
      rw (get_d_cut (get_or starts r 0) (get_or starts (r + 1) 0) k entries 0 i) (ld.entered.below (get_or starts r 0 + k) (omega arith))

  pub ring_of : (r : ℕ) → r < get_or firsts s.polygons 0 → Ring entries starts r
  ring_of r h =
      let e : get_or starts (r + 1) 0 ≤ get_or starts (get_or firsts s.polygons 0) 0 = ld.layout.ordered (r + 1) (get_or firsts s.polygons 0) (omega arith) (le_refl _) in
      let w : get_or starts (get_or firsts s.polygons 0) 0 ≤ 1024 = ld.layout.inside in
      let n : s.points ≤ 512 = ld.entered.few in
      record {
        entries-size = ld.entered.size;
        starts_size = ld.layout.starts_size;
        few = omega (arith, ld.layout.many);
        forward = ld.layout.ordered r (r + 1) (omega arith) (omega arith);
        inside = omega arith;
        known = record { few = ld.short r h; each = λ i q. omega (arith, ring_below r h i q) };
      }

  pub stands_of : (p : ℕ) → p < s.polygons → Stands entries starts firsts p
  stands_of p h =
      let e : get_or firsts (p + 1) 0 ≤ get_or firsts s.polygons 0 = firsts_ordered entries starts firsts s.polygons ld.layout (p + 1) s.polygons (omega arith) (le_refl _) in
      record {
        firsts_size = ld.layout.firsts_size;
        few = omega (arith, ld.layout.few);
        lies = record {
          some = ld.layout.rising p (p + 1) (omega arith) (omega arith);
          rings = record { few = omega (arith, ld.layout.many); each = λ r f t. ring_of r (omega arith) };
        };
      }

  -- the polygons have one ring each
  pub one_each : (p : ℕ) → p < s.polygons → polygon_at entries starts firsts p ≡ one (ring_at entries starts p)
  one_each p h = polygon-one entries starts firsts p (ld.ones p (omega arith)) (ld.ones (p + 1) (omega arith))

  pub rings-many : get_or firsts s.polygons 0 ≡ s.polygons
  rings-many = ld.ones s.polygons (le_refl s.polygons)

  -- the entries of polygon p are numbers of points
  pub polygon_below : (p : ℕ) → p < s.polygons → All (λ (e : ℕ). e < s.points) (entries_from (polygon_at entries starts firsts p))
  polygon_below p h =
      subst (All (λ (e : ℕ). e < s.points)) (sym (ap entries_from (one_each p h) ∙ entries-one (ring_at entries starts p)))
      (each_all (λ (e : ℕ). e < s.points) 0 (ring_at entries starts p) (ring_below p (omega (arith, rings-many))))
