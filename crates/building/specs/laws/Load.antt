-- A load: tables just begun, a point more, a polygon more, and how many of each there are.
use Prim.Native.Nat.{ℕ, zero, suc, ◌+◌, ◌*◌, ◌-◌, ◌≤◌, ◌<◌}
use native.Mathlib.Omega.{arith}
use Rattle.std.proofs.Common.{add-one, ◌∙◌, subst, ltb-true, ltb-false, length-set, get_or-set_same, get_or-set_other}
use Rattle.std.specs.Prelude.{◌≡◌, false, ltb, set, ℤ}
use Rattle.std.proofs.Math.Path.{refl, sym, ap}
use mathlib.Core.List.{List, [], ◌∷◌, ◌++◌}
use Rattle.std.proofs.Math.ListN.{length, get_or, take}
use Rattle.std.proofs.lemmas.List.Edits.{sets}
use Rattle.std.proofs.Math.Seq.{length-sets, length-take-le, take-suc-set}
use Rattle.whole.specs.Lists.{tab}
use Rattle.whole.specs.All.{All}
use Rattle.whole.specs.laws.Stores.{cases}
use Rattle.space.specs.Space.{Point}
use Rattle.space.specs.held.Points.{points_of, Coords}
use Rattle.space.specs.laws.Points.{points_of-length}
use Rattle.places.specs.Points.{is_far_of}
use Rattle.places.specs.held.Places.{placed}
use Rattle.places.specs.laws.Near.{near-place, placed-points, placed_coords}
use Rattle.shell.specs.declared.Shape.{Shape}
use Rattle.ring.specs.Polygon.{Polygon, one}
use Rattle.ring.specs.held.Rings.{ring_at, polygon_at, polygons, Layout}
use Rattle.ring.specs.laws.Owners.{firsts_ordered}
use Rattle.ring.specs.laws.Turned.{polygon-one}
use Rattle.holes.specs.held.Rings.{Ring}
use Rattle.building.specs.declared.Scalars.{Scalars}
use Rattle.building.specs.Tables.{begun, with_point, with_polygon}
use Rattle.building.specs.Tables as T
use Rattle.building.specs.laws.Loadable.{entries_more}
use Rattle.building.specs.laws.Lists.{all_each, tab_ext, cut-sets, cut-sets_past, get_d_sets, get_d_sets_before}
use Rattle.building.specs.held.Holds.{held_tables, Loaded}
use Rattle.building.specs.laws.Rings.{ring_of, ring_length, polygons-length, one_each, rings-many}

-- ---- how many there are
module _ {points : List ℤ} {entries starts firsts : List ℕ} {s : Scalars} (ld : Loaded points entries starts firsts s) where
  points-count : length (points_of points) ≡ 512
  points-count = points_of-length points 512 ld.coords.room

  pub tables-points : length (held_tables points entries starts firsts s).points ≡ s.points
  unfolding held_tables
  tables-points = length-take-le s.points (points_of points) (omega (arith, points-count, ld.entered.few))

  pub tables-polygons : length (held_tables points entries starts firsts s).polygons ≡ s.polygons
  unfolding held_tables
  tables-polygons = polygons-length entries starts firsts s.polygons

  entries-upto : (n : ℕ) → n ≤ s.polygons → T.entries (polygons entries starts firsts n) ≡ get_or starts n 0
  unfolding polygons tab T.entries
  entries-upto zero h = sym ld.first
  entries-upto (suc n) h =
      let ih : T.entries (tab (polygon_at entries starts firsts) n) ≡ get_or starts n 0 = entries-upto n (omega arith) in
      let r : Ring entries starts n = ring_of ld n (omega (arith, rings-many ld)) in
      let l : length (ring_at entries starts n) ≡ get_or starts (n + 1) 0 - get_or starts n 0 = ring_length entries starts n r.entries-size r.inside in
      let f : get_or starts n 0 ≤ get_or starts (n + 1) 0 = r.forward in
      let e : get_or starts (suc n) 0 ≡ get_or starts (n + 1) 0 = ap (λ (k : ℕ). get_or starts k 0) (omega arith) in
      let a : T.entries (tab (polygon_at entries starts firsts) n ++ (polygon_at entries starts firsts n ∷ [])) ≡ T.entries (tab (polygon_at entries starts firsts) n) + length (ring_at entries starts n) = ap (λ (p : Polygon). T.entries (tab (polygon_at entries starts firsts) n ++ (p ∷ []))) (one_each ld n h) ∙ entries_more (tab (polygon_at entries starts firsts) n) (ring_at entries starts n) in
      omega arith

  pub tables-entries : T.entries (held_tables points entries starts firsts s).polygons ≡ get_or starts (get_or firsts s.polygons 0) 0
  unfolding held_tables
  tables-entries = entries-upto s.polygons (omega arith) ∙ ap (λ (k : ℕ). get_or starts k 0) (sym (rings-many ld))

-- ---- tables just begun
module _ (points : List ℤ) (entries starts firsts : List ℕ) (tolerance last edges : ℕ) (fixed shape : Shape) where
  abbrev none_yet : Scalars
  none_yet = record { tolerance = tolerance; points = 0; polygons = 0; last = last; edges = edges; fixed = fixed; shape = shape }

  pub loaded-begun : Coords points → length entries ≡ 1024 → length starts ≡ 1025 → length firsts ≡ 257 → get_or starts 0 0 ≡ 0 → get_or firsts 0 0 ≡ 0 → tolerance ≤ 1000 → Loaded points entries starts firsts none_yet
  loaded-begun co e f g z y t =
      record {
        coords = co;
        first = z;
        layout = record {
          entries-size = e;
          starts_size = f;
          firsts_size = g;
          few = omega arith;
          begin = y;
          rising = λ p q h k. absurd (omega arith);
          many = omega arith;
          ordered = λ p q h k. let a : p ≡ q = omega arith in rw a (omega arith);
          inside = rw y (omega arith);
        };
        ones = λ p h. let a : p ≡ 0 = omega arith in rw a y;
        entered = record { size = e; few = omega arith; below = rw y (λ i h. absurd (omega arith)) };
        tolerant = t;
        short = rw y (λ p h. absurd (omega arith));
      }

  pub tables-begun : held_tables points entries starts firsts none_yet ≡ begun tolerance
  unfolding held_tables begun polygons tab
  tables-begun = refl

-- ---- a point more
module _ {points : List ℤ} {entries starts firsts : List ℕ} {s : Scalars} (ld : Loaded points entries starts firsts s) (p : Point) (few : s.points < 512) (last edges : ℕ) (fixed shape : Shape) where
  abbrev point_more : Scalars
  point_more = record { tolerance = s.tolerance; points = s.points + 1; polygons = s.polygons; last = last; edges = edges; fixed = fixed; shape = shape }

  pub loaded_point : is_far_of p ≡ false → Loaded (placed points s.points p) entries starts firsts point_more
  loaded_point far =
      record {
        coords = placed_coords points s.points p ld.coords (near-place p far);
        first = ld.first;
        layout = ld.layout;
        ones = ld.ones;
        entered = record { size = ld.entered.size; few = omega arith; below = λ i h. omega (arith, ld.entered.below i h) };
        tolerant = ld.tolerant;
        short = ld.short;
      }

  pub tables_point : held_tables (placed points s.points p) entries starts firsts point_more ≡ with_point p (held_tables points entries starts firsts s)
  unfolding held_tables with_point
  tables_point =
      let w : 3 * s.points + 2 < length points = omega (arith, ld.coords.room) in
      let i : s.points < length (points_of points) = omega (arith, points-count ld) in
      let e : take (s.points + 1) (points_of (placed points s.points p)) ≡ take s.points (points_of points) ++ (p ∷ []) =
      ap (take (s.points + 1)) (placed-points points s.points p w) ∙ ap (λ (n : ℕ). take n (set (points_of points) s.points p)) (add-one s.points) ∙ take-suc-set (points_of points) s.points p i in
      ap (λ (ps : List Point). record { tolerance = s.tolerance; points = ps; polygons = polygons entries starts firsts s.polygons }) e

-- ---- a polygon more
-- what it asks: room, at most 128 entries, each a point's number
pub record Room (entries starts firsts : List ℕ) (s : Scalars) (ring : List ℕ) : Type 0 where
  pub few : s.polygons < 256
  pub space : get_or starts (get_or firsts s.polygons 0) 0 + length ring ≤ 1024
  pub short : length ring ≤ 128
  pub known : All (λ (e : ℕ). e < s.points) ring

module _ {points : List ℤ} {entries starts firsts : List ℕ} {s : Scalars} (ld : Loaded points entries starts firsts s) (ring : List ℕ) (r : Room entries starts firsts s ring) (last edges : ℕ) (fixed shape : Shape) where
  -- the number of rings
  abbrev m : ℕ
  m = get_or firsts s.polygons 0

  abbrev from : ℕ
  from = get_or starts m 0

  abbrev new_starts : List ℕ
  new_starts = set starts (m + 1) (from + length ring)

  abbrev new_firsts : List ℕ
  new_firsts = set firsts (s.polygons + 1) (m + 1)

  abbrev polygon_more : Scalars
  polygon_more = record { tolerance = s.tolerance; points = s.points; polygons = s.polygons + 1; last = last; edges = edges; fixed = fixed; shape = shape }

  few_rings : m < 256
  few_rings = omega (arith, rings-many ld, r.few)

  start_old : (q : ℕ) → q ≤ m → get_or new_starts q 0 ≡ get_or starts q 0
  start_old q h = get_or-set_other starts (m + 1) q (from + length ring) 0 (λ e. omega arith)

  start_new : get_or new_starts (m + 1) 0 ≡ from + length ring
  start_new = get_or-set_same starts (m + 1) (from + length ring) 0 (omega (arith, ld.layout.starts_size, few_rings))

  first_old : (q : ℕ) → q ≤ s.polygons → get_or new_firsts q 0 ≡ get_or firsts q 0
  first_old q h = get_or-set_other firsts (s.polygons + 1) q (m + 1) 0 (λ e. omega arith)

  first_new : get_or new_firsts (s.polygons + 1) 0 ≡ m + 1
  first_new = get_or-set_same firsts (s.polygons + 1) (m + 1) 0 (omega (arith, ld.layout.firsts_size, r.few))

  pushed_rising : (p q : ℕ) → p < q → q ≤ s.polygons + 1 → get_or new_firsts p 0 < get_or new_firsts q 0
  pushed_rising p q h g =
      cases (ltb s.polygons q)
      (λ t. let e : q ≡ s.polygons + 1 = omega (arith, ltb-true s.polygons q t) in rw (e, first_new, first_old p (omega arith)) (omega (arith, firsts_ordered entries starts firsts s.polygons ld.layout p s.polygons (omega arith) (omega arith))))
      (λ t. let b : q ≤ s.polygons = ltb-false s.polygons q t in rw (first_old q b, first_old p (omega arith)) (ld.layout.rising p q h b))

  pushed_ordered : (p q : ℕ) → p ≤ q → q ≤ m + 1 → get_or new_starts p 0 ≤ get_or new_starts q 0
  pushed_ordered p q h g =
      cases (ltb m q)
      (λ t. let e : q ≡ m + 1 = omega (arith, ltb-true m q t) in
      cases (ltb m p)
      (λ u. let f : p ≡ q = omega (arith, ltb-true m p u) in rw f (omega arith))
      (λ u. let b : p ≤ m = ltb-false m p u in rw (e, start_new, start_old p b) (omega (arith, ld.layout.ordered p m b (omega arith)))))
      (λ t. let b : q ≤ m = ltb-false m q t in rw (start_old q b, start_old p (omega arith)) (ld.layout.ordered p q h b))

  pushed_ones : (p : ℕ) → p ≤ s.polygons + 1 → get_or new_firsts p 0 ≡ p
  pushed_ones p h =
      cases (ltb s.polygons p)
      (λ t. let e : p ≡ s.polygons + 1 = omega (arith, ltb-true s.polygons p t) in rw (e, first_new) (omega (arith, rings-many ld)))
      (λ t. let b : p ≤ s.polygons = ltb-false s.polygons p t in first_old p b ∙ ld.ones p b)

  pushed_entries : (i : ℕ) → i < from + length ring → get_or (sets entries from ring) i 0 < s.points
  pushed_entries i h =
      cases (ltb i from)
      (λ t. rw (get_d_sets_before entries ring from i 0 (ltb-true i from t)) (ld.entered.below i (ltb-true i from t)))
      (λ t. let b : from ≤ i = ltb-false i from t in
      let e : i ≡ from + (i - from) = omega arith in
      let k : i - from < length ring = omega arith in
      let w : from + length ring ≤ length entries = omega (arith, r.space, ld.entered.size) in
      subst (λ (j : ℕ). get_or (sets entries from ring) j 0 < s.points) (sym e) (subst (λ (v : ℕ). v < s.points) (sym (get_d_sets entries ring from (i - from) 0 k w)) (all_each (λ (e : ℕ). e < s.points) 0 r.known (i - from) k)))

  pushed_own : ring_at (sets entries from ring) new_starts m ≡ ring
  pushed_own = rw (start_old m (omega arith), start_new) (cut-sets from (from + length ring) entries ring (omega arith) (omega (arith, r.space, ld.entered.size)) (omega arith))

  pushed_other : (p : ℕ) → p < m → ring_at (sets entries from ring) new_starts p ≡ ring_at entries starts p
  pushed_other p h =
      rw (start_old p (omega arith), start_old (p + 1) (omega arith))
      (cut-sets_past (get_or starts p 0) (get_or starts (p + 1) 0) from entries ring (ld.layout.ordered p (p + 1) (omega arith) (omega arith)) (ld.layout.ordered (p + 1) m (omega arith) (omega arith)))

  pushed_layout : Layout (sets entries from ring) new_starts new_firsts (s.polygons + 1)
  pushed_layout = record {
    entries-size = length-sets entries from ring ∙ ld.entered.size;
    starts_size = length-set starts (m + 1) (from + length ring) ∙ ld.layout.starts_size;
    firsts_size = length-set firsts (s.polygons + 1) (m + 1) ∙ ld.layout.firsts_size;
    few = omega (arith, r.few);
    begin = first_old 0 (omega arith) ∙ ld.layout.begin;
    rising = pushed_rising;
    many = rw first_new (omega (arith, few_rings));
    ordered = λ p q h g. pushed_ordered p q h (rw first_new at g);
    inside = rw (first_new, start_new) r.space;
  }

  pub loaded-polygon : Loaded points (sets entries from ring) new_starts new_firsts polygon_more
  loaded-polygon =
      record {
        coords = ld.coords;
        first = start_old 0 (omega arith) ∙ ld.first;
        layout = pushed_layout;
        ones = pushed_ones;
        entered = record {
          size = length-sets entries from ring ∙ ld.entered.size;
          few = ld.entered.few;
          below = rw (first_new, start_new) pushed_entries;
        };
        tolerant = ld.tolerant;
        short = λ p h. let k : p < m + 1 = rw first_new at h in cases (ltb p m)
            (λ t. rw (pushed_other p (ltb-true p m t)) (ld.short p (ltb-true p m t)))
            (λ t. let e : p ≡ m = omega (arith, ltb-false p m t) in rw (e, pushed_own) r.short);
      }

  -- the polygons before it stand as they were
  before_same : (p : ℕ) → p < s.polygons → polygon_at (sets entries from ring) new_starts new_firsts p ≡ polygon_at entries starts firsts p
  before_same p h =
      polygon-one (sets entries from ring) new_starts new_firsts p (pushed_ones p (omega arith)) (pushed_ones (p + 1) (omega arith))
      ∙ (ap one (pushed_other p (omega (arith, rings-many ld))) ∙ sym (one_each ld p h))

  own-polygon : polygon_at (sets entries from ring) new_starts new_firsts s.polygons ≡ one ring
  own-polygon =
      polygon-one (sets entries from ring) new_starts new_firsts s.polygons (pushed_ones s.polygons (omega arith)) (pushed_ones (s.polygons + 1) (omega arith))
      ∙ ap one (subst (λ (k : ℕ). ring_at (sets entries from ring) new_starts k ≡ ring) (rings-many ld) pushed_own)

  pub tables-polygon : held_tables points (sets entries from ring) new_starts new_firsts polygon_more ≡ with_polygon ring (held_tables points entries starts firsts s)
  unfolding held_tables with_polygon polygons tab
  tables-polygon =
      let e : tab (polygon_at (sets entries from ring) new_starts new_firsts) (s.polygons + 1) ≡ tab (polygon_at entries starts firsts) s.polygons ++ (one ring ∷ []) =
      ap (tab (polygon_at (sets entries from ring) new_starts new_firsts)) (add-one s.polygons)
      ∙ ap (λ (l : List Polygon). l ++ (polygon_at (sets entries from ring) new_starts new_firsts s.polygons ∷ [])) (tab_ext (polygon_at (sets entries from ring) new_starts new_firsts) (polygon_at entries starts firsts) s.polygons before_same)
      ∙ ap (λ (x : Polygon). tab (polygon_at entries starts firsts) s.polygons ++ (x ∷ [])) own-polygon in
      ap (λ (ps : List Polygon). record { tolerance = s.tolerance; points = take s.points (points_of points); polygons = ps }) e
