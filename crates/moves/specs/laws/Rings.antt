-- The entries of a span of polygons.
use Rattle.std.specs.Prelude.{ℕ, ◌+◌, ◌≤◌, ◌≡◌, List, get_or, ℤ}
use Rattle.std.proofs.Common.{le_refl, arith, ap}
use Rattle.whole.specs.Lists.{lists}
use Rattle.ring.specs.Polygon.{entries_from}
use Rattle.ring.specs.held.Rings.{polygon_at}
use Rattle.ring.specs.laws.Owners.{firsts_ordered}
use Rattle.inner.proofs.laws.Tables.{entries_are}
use Rattle.building.specs.declared.Scalars.{Scalars}
use Rattle.building.specs.held.Holds.{Loaded}
use Rattle.building.specs.held.Rings.{cut, Stands}
use Rattle.moves.specs.held.Rings.{Span}

module _ {points : List ℤ} {entries starts firsts : List ℕ} {s : Scalars} (ld : Loaded points entries starts firsts s) where
  pub span_of : (p q : ℕ) → p ≤ q → q ≤ s.polygons → Span entries starts firsts p q
  span_of p q h g =
      let st = ld.layout in
      let m : get_or firsts q 0 ≤ get_or firsts s.polygons 0 = firsts_ordered entries starts firsts s.polygons st q s.polygons g (le_refl _) in
      let k : get_or firsts p 0 ≤ get_or firsts q 0 = firsts_ordered entries starts firsts s.polygons st p q h g in
      let w : get_or starts (get_or firsts q 0) 0 ≤ get_or starts (get_or firsts s.polygons 0) 0 = st.ordered (get_or firsts q 0) (get_or firsts s.polygons 0) m (le_refl _) in
      record {
        entries-size = ld.entered.size;
        starts_size = st.starts_size;
        firsts_size = st.firsts_size;
        first = omega (arith, st.few);
        last = omega (arith, st.few);
        first_ring = omega (arith, st.many);
        last_ring = omega (arith, st.many);
        forward = st.ordered (get_or firsts p 0) (get_or firsts q 0) k m;
        inside = omega (arith, st.inside);
      }

-- the entries of one polygon
pub lists-entries : (entries starts firsts : List ℕ) (p n : ℕ) → Stands entries starts firsts p → lists n (cut (get_or starts (get_or firsts p 0) 0) (get_or starts (get_or firsts (p + 1) 0) 0) entries) ≡ lists n (entries_from (polygon_at entries starts firsts p))
lists-entries entries starts firsts p n l = ap (lists n) (entries_are l.lies.rings l.lies.some)
