-- The tables that a load can bring about: every held building has such tables, before and after corrections.
use Rattle.std.specs.Prelude.{ℕ, zero, suc, ◌+◌, ◌≤◌, ◌<◌, ◌≡◌, Bool, true, false, List, [], ◌∷◌, ◌++◌, map, reverse, set}
use Rattle.std.proofs.Common.{arith, ◌∙◌, true≢false}
use Rattle.std.proofs.Math.Path.{refl, ap}
use Rattle.std.proofs.Math.ListN.{length, length-append, length-set}
use Rattle.std.proofs.lemmas.List.{length-reverse}
use Rattle.whole.specs.Lists.{at}
use Rattle.whole.specs.All.{All, none, more}
use Rattle.whole.specs.laws.Alls.{all_imp, all_append, all_middle, all_set, all-at, all-reverse, any_none, none_any}
use Rattle.space.specs.Space.{Point, same_place_of}
use Rattle.space.specs.laws.Laws.{same_place-sym}
use Rattle.shell.specs.laws.Tabs.{length_at}
use Rattle.places.specs.Points.{is_far_of, stands, stands_else_of}
use Rattle.ring.specs.Polygon.{Polygon, one, turned_over}
use Rattle.ring.specs.laws.Turned.{entries-one, length-turned}
use Rattle.building.specs.Tables.{Tables, Building, begun, with_point, with_polygon, entries, moved, turned}

-- "two different numbers are never one place"
pub data Apart : List Point → Type 0 where
  no_point : Apart []
  one_more : {q : Point} {ps : List Point} → All (λ (r : Point). same_place_of r q ≡ false) ps → Apart ps → Apart (q ∷ ps)

-- a ring of at most 128 entries, each below the number of points
pub record RingOver (n : ℕ) (ring : List ℕ) : Type 0 where
  pub few : length ring ≤ 128
  pub known : All (λ (e : ℕ). e < n) ring

-- a polygon of one such ring
pub record PolygonOver (n : ℕ) (p : Polygon) : Type 0 where
  pub outer : RingOver n p.outer
  pub alone : p.inner ≡ []

-- the bounds, and refusals 05 and 06
pub record Loadable (t : Tables) : Type 0 where
  pub tolerant : t.tolerance ≤ 1000
  pub points_few : length t.points ≤ 512
  pub near : All (λ (p : Point). is_far_of p ≡ false) t.points
  pub apart : Apart t.points
  pub polygons_few : length t.polygons ≤ 256
  pub entries_few : entries t.polygons ≤ 1024
  pub each : All (PolygonOver (length t.points)) t.polygons

-- ---- points apart

apart_append : (ps : List Point) (p : Point) → Apart ps → stands p ps ≡ false → Apart (ps ++ (p ∷ []))
unfolding stands
apart_append ps p a e = go a (any_none (same_place_of p) ps e)
  where
    go : {l : List Point} → Apart l → All (λ (r : Point). same_place_of p r ≡ false) l → Apart (l ++ (p ∷ []))
    go no_point none = one_more none no_point
    go (one_more d b) (more q c) = one_more (all_append d (more q none)) (go b c)

pub apart-stands : (ps : List Point) (p : Point) (rest : List Point) → Apart (ps ++ p ∷ rest) → stands p ps ≡ false
unfolding stands
apart-stands ps p rest a = none_any (same_place_of p) ps (go ps a)
  where
    go : (l : List Point) → Apart (l ++ p ∷ rest) → All (λ (r : Point). same_place_of p r ≡ false) l
    go [] a = none
    go (q ∷ l) (one_more d b) = more (all_middle l p rest d) (go l b)

apart-set : (ps : List Point) (n : ℕ) (p : Point) → Apart ps → stands_else_of n p ps ≡ false → Apart (set ps n p)
unfolding stands_else_of stands
apart-set [] n p a e = no_point
apart-set (q ∷ ps) zero p (one_more d b) e =
    one_more (all_imp (λ r z. same_place-sym r p ∙ z) (any_none (same_place_of p) ps e)) b
apart-set (q ∷ ps) (suc n) p (one_more d b) e = go (same_place_of p q) refl e (apart-set ps n p b)
  where
    go : (c : Bool) → same_place_of p q ≡ c → stands_else_of (suc n) p (q ∷ ps) ≡ false → (stands_else_of n p ps ≡ false → Apart (set ps n p)) → Apart (q ∷ set ps n p)
    go true z e ih = absurd (true≢false (rw (z, stands_else_of) at e))
    go false z e ih = one_more (all_set n p z d) (ih (rw (z, stands_else_of) at e))

-- ---- entries

pub entries_append : (ps qs : List Polygon) → entries (ps ++ qs) ≡ entries ps + entries qs
unfolding entries
entries_append [] qs = omega arith
entries_append (p ∷ ps) qs = let ih : entries (ps ++ qs) ≡ entries ps + entries qs = entries_append ps qs in rw ih (omega arith)

pub entries_more : (ps : List Polygon) (ring : List ℕ) → entries (ps ++ (one ring ∷ [])) ≡ entries ps + length ring
unfolding entries
entries_more ps ring = entries_append ps (one ring ∷ []) ∙ rw (entries-one ring) (omega arith)

entries-turn : (ps : List Polygon) (n : ℕ) → entries (at n turned_over ps) ≡ entries ps
unfolding entries at
entries-turn [] n = refl
entries-turn (p ∷ ps) zero = rw (length-turned p)
entries-turn (p ∷ ps) (suc n) = let ih : entries (at n turned_over ps) ≡ entries ps = entries-turn ps n in rw ih

-- ---- what keeps tables loadable

pub loadable_begun : (tolerance : ℕ) → tolerance ≤ 1000 → Loadable (begun tolerance)
unfolding begun entries
loadable_begun tolerance h =
    record { tolerant = h; points_few = omega arith; near = none; apart = no_point; polygons_few = omega arith; entries_few = omega arith; each = none }

module _ (t : Tables) (ok : Loadable t) where
  pub loadable_point : (p : Point) → is_far_of p ≡ false → length t.points < 512 → stands p t.points ≡ false → Loadable (with_point p t)
  unfolding with_point
  loadable_point p far few new =
      let n : length (t.points ++ (p ∷ [])) ≡ length t.points + 1 = length-append t.points (p ∷ []) in
      record {
        tolerant = ok.tolerant;
        points_few = omega arith;
        near = all_append ok.near (more far none);
        apart = apart_append t.points p ok.apart new;
        polygons_few = ok.polygons_few;
        entries_few = ok.entries_few;
        each = all_imp (λ p z. record { outer = record { few = z.outer.few; known = all_imp (λ e h. omega arith) z.outer.known }; alone = z.alone }) ok.each;
      }

  pub loadable_polygon : (ring : List ℕ) → RingOver (length t.points) ring → length t.polygons < 256 → entries t.polygons + length ring ≤ 1024 → Loadable (with_polygon ring t)
  unfolding with_polygon one
  loadable_polygon ring r few room =
      let n : length (t.polygons ++ (one ring ∷ [])) ≡ length t.polygons + 1 = length-append t.polygons (one ring ∷ []) in
      let e : entries (t.polygons ++ (one ring ∷ [])) ≡ entries t.polygons + length ring = entries_more t.polygons ring in
      record {
        tolerant = ok.tolerant;
        points_few = ok.points_few;
        near = ok.near;
        apart = ok.apart;
        polygons_few = omega arith;
        entries_few = omega arith;
        each = all_append ok.each (more (record { outer = r; alone = refl }) none);
      }

module _ (b : Building) (ok : Loadable b.tables) where
  pub loadable_moved : (number n : ℕ) (p : Point) → is_far_of p ≡ false → stands_else_of n p b.tables.points ≡ false → Loadable (moved number n p b).tables
  unfolding moved
  loadable_moved number n p far new =
      let m : length (set b.tables.points n p) ≡ length b.tables.points = length-set b.tables.points n p in
      record {
        tolerant = ok.tolerant;
        points_few = rw m ok.points_few;
        near = all_set n p far ok.near;
        apart = apart-set b.tables.points n p ok.apart new;
        polygons_few = ok.polygons_few;
        entries_few = ok.entries_few;
        each = rw m ok.each;
      }

  pub loadable_turned : (number n : ℕ) → Loadable (turned number n b).tables
  unfolding turned turned_over
  loadable_turned number n =
      record {
        tolerant = ok.tolerant;
        points_few = ok.points_few;
        near = ok.near;
        apart = ok.apart;
        polygons_few = rw (length_at n turned_over b.tables.polygons) ok.polygons_few;
        entries_few = rw (entries-turn b.tables.polygons n) ok.entries_few;
        each = all-at n turned_over (λ p z. record { outer = record { few = rw (length-reverse p.outer) z.outer.few; known = all-reverse z.outer.known }; alone = ap (map reverse) z.alone }) ok.each;
      }
