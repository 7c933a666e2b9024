-- A polygon's finding and part go by where its entries stand: a move of a point that it does not list changes neither, and points past
-- those that it lists tell nothing of it.
use Rattle.std.specs.Prelude.{ℕ, zero, suc, ◌+◌, ◌<◌, ◌≡◌, false, set, take, get_or}
use Rattle.std.proofs.Common.{arith, ◌∙◌}
use Rattle.std.proofs.Math.Path.{refl, sym, ap, ap₂}
use mathlib.Core.List.{List, [], ◌∷◌, ◌++◌, map}
use Rattle.std.proofs.Math.Option
use Rattle.std.proofs.Math.Dec.{eqb}
use Rattle.std.proofs.Math.IntN.{◌+ℤ◌}
use Rattle.std.proofs.Math.ListN.{length}
use Rattle.std.proofs.Math.Seq.{get_or-take}
use Rattle.whole.specs.Lists.{lists, sum_of, given, first}
use Rattle.whole.specs.All as all
use Rattle.whole.specs.All.{All}
use Rattle.whole.specs.laws.Alls.{all_imp, any_none}
use Rattle.space.specs.declared.Axis.{Axis}
use Rattle.space.specs.Space.{Point, origin, places}
use Rattle.space.specs.laws.Points.{places_same}
use Rattle.plane.specs.Plane.{largest_axis_of, drop_axis}
use Rattle.normal.specs.Normal.{normal}
use Rattle.even.specs.Even.{is_uneven, uneven_at}
use Rattle.ring.specs.Polygon.{Polygon, all, rings_of, entries_from}
use Rattle.volume.specs.Part.{part as ringPart}
use Rattle.holes.specs.Holes.{seen, component, component_of, is_shared, is_misplaced_of}
use Rattle.polygon.specs.declared.Finding.TheVariants.{Sound, Uneven, Shared, Misplaced}
use Rattle.polygon.specs.Ring.{ring_rows}
use Rattle.polygon.specs.laws.Kept.{places_kept}
use Rattle.inner.specs.Finding.{later, rings_rows, finding, part}

pub places_append : (points : List Point) (l m : List ℕ) → places points (l ++ m) ≡ places points l ++ places points m
unfolding places
places_append points [] m = refl
places_append points (e ∷ l) m = ap (λ (ps : List Point). get_or points e origin ∷ ps) (places_append points l m)

-- ---- two lists of points in which all rings have the same places
module _ (points points' : List Point) where
  -- a ring has
  abbrev Alike : List ℕ → Type 0
  Alike ring = places points' ring ≡ places points ring

  map-alike : {A : Type 0} (f : List Point → List ℕ → A) → ((r : List ℕ) → Alike r → f points' r ≡ f points r) → (rs : List (List ℕ)) → All Alike rs → map (f points') rs ≡ map (f points) rs
  map-alike f h [] all.none = refl
  map-alike {A} f h (r ∷ rs) (all.more q a) = ap₂ (λ (x : A) (l : List A). x ∷ l) (h r q) (map-alike f h rs a)

  rows_alike : (r : List ℕ) → Alike r → ring_rows points' r ≡ ring_rows points r
  unfolding ring_rows
  rows_alike r q = rw q

  all-rows-alike : (before : ℕ) (rs : List (List ℕ)) → All Alike rs → rings_rows points' before rs ≡ rings_rows points before rs
  unfolding rings_rows
  all-rows-alike before [] all.none = refl
  all-rows-alike before (r ∷ rs) (all.more q a) = λ i. map (Option.map (later before)) (rows_alike r q i) ++ all-rows-alike (before + length r) rs a i

  -- the places of all entries are those of each ring, one ring after the other
  all_alike : (rs : List (List ℕ)) → All Alike rs → places points' (all (λ r. r) rs) ≡ places points (all (λ r. r) rs)
  unfolding all places
  all_alike [] all.none = refl
  all_alike (r ∷ rs) (all.more q a) = places_append points' r (all (λ s. s) rs) ∙ ap₂ ◌++◌ q (all_alike rs a) ∙ sym (places_append points r (all (λ s. s) rs))

  seen_alike : (axis : Axis) (r : List ℕ) → Alike r → seen axis points' r ≡ seen axis points r
  unfolding seen
  seen_alike axis r q = ap (map (drop_axis axis)) q

  component-alike : (axis : Axis) (r : List ℕ) → Alike r → component_of axis points' r ≡ component_of axis points r
  unfolding component_of
  component-alike axis r q = ap (λ (ps : List Point). component axis (normal ps)) q

  part-alike : (r : List ℕ) → Alike r → ringPart points' r ≡ ringPart points r
  unfolding ringPart
  part-alike r q = rw q

  parts-alike : (rs : List (List ℕ)) → All Alike rs → sum_of (ringPart points') rs ≡ sum_of (ringPart points) rs
  unfolding sum_of
  parts-alike [] all.none = refl
  parts-alike (r ∷ rs) (all.more q a) = ap₂ ◌+ℤ◌ (part-alike r q) (parts-alike rs a)

  module _ (p : Polygon) (alike : All Alike (rings_of p)) where
    head-alike : Alike p.outer
    unfolding rings_of
    head-alike = go alike
      where
        go : All Alike (p.outer ∷ p.inner) → Alike p.outer
        go (all.more q a) = q

    tail-alike : All Alike p.inner
    unfolding rings_of
    tail-alike = go alike
      where
        go : All Alike (p.outer ∷ p.inner) → All Alike p.inner
        go (all.more q a) = a

    pub finding-alike : (tolerance : ℕ) → finding tolerance points' p ≡ finding tolerance points p
    unfolding finding entries_from
    finding-alike tolerance =
        (λ i.
        let n = normal (head-alike i) in
        let axis = largest_axis_of n in
        let ps = all_alike (rings_of p) alike i in
        first Sound
        (all-rows-alike 0 (rings_of p) alike i ++
        given (is_uneven tolerance n ps) (Uneven (uneven_at tolerance n ps)) ∷
        given (is_shared (map-alike (seen axis) (seen_alike axis) (rings_of p) alike i)) Shared ∷
        given (is_misplaced_of (seen_alike axis p.outer head-alike i) (map-alike (seen axis) (seen_alike axis) p.inner tail-alike i) (component axis n) (map-alike (component_of axis) (component-alike axis) p.inner tail-alike i)) Misplaced ∷
        []))

    pub part-of-alike : part points' p ≡ part points p
    unfolding part
    part-of-alike = parts-alike (rings_of p) alike

-- what holds of all entries holds of those of each ring
entries_each : (P : ℕ → Type 0) (rs : List (List ℕ)) → All P (all (λ r. r) rs) → All (All P) rs
unfolding all
entries_each P [] a = all.none
entries_each P (r ∷ rs) a = let s = all-parts r (all (λ r. r) rs) a in all.more s.0 (entries_each P rs s.1)
  where
    all-parts : (s t : List ℕ) → All P (s ++ t) → All P s × All P t
    all-parts [] t a = (all.none, a)
    all-parts (x ∷ s) t (all.more q a) = let r = all-parts s t a in (all.more q r.0, r.1)

-- ---- a move of a point that no ring lists
module _ (points : List Point) (n : ℕ) (q : Point) (p : Polygon) (unlisted : lists n (entries_from p) ≡ false) where
  moved-alike : All (λ (r : List ℕ). places (set points n q) r ≡ places points r) (rings_of p)
  unfolding lists entries_from
  moved-alike = all_imp (λ r a. places_kept points n q r a) (entries_each (λ (e : ℕ). eqb n e ≡ false) (rings_of p) (any_none (eqb n) (entries_from p) unlisted))

  pub finding_kept : (tolerance : ℕ) → finding tolerance (set points n q) p ≡ finding tolerance points p
  finding_kept tolerance = finding-alike points (set points n q) p moved-alike tolerance

  pub part_kept : part (set points n q) p ≡ part points p
  part_kept = part-of-alike points (set points n q) p moved-alike

-- ---- points past those that are listed
pub all_get : (n : ℕ) {l : List ℕ} → All (λ (e : ℕ). e < n) l → (i : ℕ) → i < length l → get_or l i 0 < n
all_get n all.none i h = absurd (omega arith)
all_get n (all.more q a) zero h = q
all_get n (all.more q a) (suc i) h = all_get n a i (omega arith)

module _ (points : List Point) (n : ℕ) (p : Polygon) (below : All (λ (e : ℕ). e < n) (entries_from p)) where
  taken_alike : All (λ (r : List ℕ). places (take n points) r ≡ places points r) (rings_of p)
  unfolding entries_from
  taken_alike = all_imp (λ r a. places_same (take n points) points r (λ i h. get_or-take n points (get_or r i 0) origin (all_get n a i h))) (entries_each (λ (e : ℕ). e < n) (rings_of p) below)

  pub finding-take : (tolerance : ℕ) → finding tolerance (take n points) p ≡ finding tolerance points p
  finding-take tolerance = finding-alike points (take n points) p taken_alike tolerance

  pub part-take : part (take n points) p ≡ part points p
  part-take = part-of-alike points (take n points) p taken_alike
