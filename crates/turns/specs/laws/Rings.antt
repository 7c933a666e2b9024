-- One ring turned in its place.
use Rattle.std.specs.Prelude.{ℕ, zero, suc, ◌+◌, ◌-◌, ◌≤◌, ◌<◌, ◌≡◌, refl, ltb, eqb, length, get_or, ℤ}
use Rattle.std.proofs.Common.{arith, ◌∙◌, subst, ltb-true, ltb-false, eqb-true}
use Rattle.std.proofs.Math.Path.{sym, ap}
use mathlib.Core.List.{List, [], ◌∷◌, reverse, reverse_aux}
use Rattle.std.proofs.lemmas.Bool.{eqb-false}
use Rattle.std.proofs.Math.Arith.{lt_of_le-ne}
use Rattle.std.proofs.Math.ListN.{set}
use Rattle.std.proofs.lemmas.List.{length-reverse}
use Rattle.std.proofs.lemmas.List.Edits.{sets}
use Rattle.std.proofs.Math.Seq.{length-sets}
use Rattle.whole.specs.Lists.{tab, at}
use Rattle.whole.specs.laws.Stores.{cases, all_set}
use Rattle.space.specs.held.Points.{Known}
use Rattle.ring.specs.Polygon.{Polygon, one, turned_over}
use Rattle.ring.specs.held.Rings.{ring_at, polygon_at, polygons, Layout}
use Rattle.ring.specs.laws.Turned.{polygon-one, turned-one}
use Rattle.shell.specs.held.Held.{Entries}
use Rattle.building.specs.declared.Scalars.{Scalars}
use Rattle.whole.specs.laws.Places.{tab-at, tab-length}
use Rattle.building.specs.laws.Lists.{cut-sets, cut-sets_past, cut-sets-before}
use Rattle.turns.specs.laws.Reversing.{tab-set}
use Rattle.building.specs.held.Holds.{Loaded}
use Rattle.holes.specs.held.Rings.{Ring}
use Rattle.building.specs.laws.Rings.{ring_length, ring_below, ring_of, one_each, rings-many}
use Rattle.turns.specs.held.Rings.{turned_entries}

-- ---- what holds of every element, after stores and in reverse
module _ {A : Type 0} (P : A → Type 0) (d : A) where
  pub all-sets : (l vs : List A) (m a : ℕ) → ((i : ℕ) → i < m → P (get_or l i d)) → ((k : ℕ) → k < length vs → P (get_or vs k d)) → (i : ℕ) → i < m → P (get_or (sets l a vs) i d)
  all-sets l [] m a h g = h
  all-sets l (v ∷ vs) m a h g = all-sets (set l a v) vs m (suc a) (all_set P d l m a v h (g 0 (omega arith))) (λ k q. g (suc k) (omega arith))

  all_aux : (l r : List A) → ((k : ℕ) → k < length l → P (get_or l k d)) → ((k : ℕ) → k < length r → P (get_or r k d)) → (k : ℕ) → k < length (reverse_aux l r) → P (get_or (reverse_aux l r) k d)
  all_aux [] r h g = g
  all_aux (x ∷ l) r h g = all_aux l (x ∷ r) (λ k q. h (suc k) (omega arith)) (first x r (h 0 (omega arith)) g)
    where
      first : (x : A) (r : List A) → P x → ((k : ℕ) → k < length r → P (get_or r k d)) → (k : ℕ) → k < length (x ∷ r) → P (get_or (x ∷ r) k d)
      first x r p g zero q = p
      first x r p g (suc k) q = g k (omega arith)

  pub all-reverse : (l : List A) → ((k : ℕ) → k < length l → P (get_or l k d)) → (k : ℕ) → k < length (reverse l) → P (get_or (reverse l) k d)
  all-reverse l h = all_aux l [] h (λ k q. absurd (never k q))
    where
      never : (k : ℕ) → k < 0 → ⊥
      never k q = omega arith

-- changing number p of a list by f is a store of f of it
pub at-is_set : {A : Type 0} (f : A → A) (l : List A) (p : ℕ) (d : A) → p < length l → at p f l ≡ set l p (f (get_or l p d))
unfolding at
at-is_set f [] p d h = absurd (omega arith)
at-is_set f (x ∷ l) zero d h = refl
at-is_set f (x ∷ l) (suc p) d h = ap (λ (m : List _). x ∷ m) (at-is_set f l p d (omega arith))

-- ---- one ring turned
module _ {entries starts : List ℕ} {p : ℕ} (r : Ring entries starts p) where
  own-length : length (reverse (ring_at entries starts p)) ≡ get_or starts (p + 1) 0 - get_or starts p 0
  own-length = length-reverse (ring_at entries starts p) ∙ ring_length entries starts p r.entries-size r.inside

  -- the ring itself is reversed
  pub turned-own : ring_at (turned_entries entries starts p) starts p ≡ reverse (ring_at entries starts p)
  turned-own =
      cut-sets (get_or starts p 0) (get_or starts (p + 1) 0) entries (reverse (ring_at entries starts p)) r.forward (omega (arith, r.inside, r.entries-size)) own-length

  pub turned_known : Known (reverse (ring_at entries starts p))
  turned_known =
      record {
        few = rw (length-reverse (ring_at entries starts p)) r.known.few;
        each = all-reverse (λ (e : ℕ). e < 512) 0 (ring_at entries starts p) r.known.each;
      }

-- ---- of all rings
module _ {points : List ℤ} {entries starts firsts : List ℕ} {s : Scalars} (ld : Loaded points entries starts firsts s) (p : ℕ) (h : p < s.polygons) where
  abbrev turned_ones : List ℕ
  turned_ones = turned_entries entries starts p

  few : (q : ℕ) → q < s.polygons → q < get_or firsts s.polygons 0
  few q g = omega (arith, rings-many ld)

  -- no other changes
  pub turned_other : (q : ℕ) → q < s.polygons → (q ≡ p → ⊥) → ring_at turned_ones starts q ≡ ring_at entries starts q
  turned_other q g ne =
      let m : get_or firsts s.polygons 0 ≡ s.polygons = rings-many ld in
      let st = ld.layout in
      let r : get_or starts p 0 ≤ get_or starts (p + 1) 0 = st.ordered p (p + 1) (omega arith) (omega arith) in
      let l : length (reverse (ring_at entries starts p)) ≡ get_or starts (p + 1) 0 - get_or starts p 0 = own-length (ring_of ld p (few p h)) in
      cases (ltb q p)
      (λ t. cut-sets_past (get_or starts q 0) (get_or starts (q + 1) 0) (get_or starts p 0) entries (reverse (ring_at entries starts p))
      (st.ordered q (q + 1) (omega arith) (omega arith))
      (st.ordered (q + 1) p (omega (arith, ltb-true q p t)) (omega arith)))
      (λ t. cut-sets-before (get_or starts q 0) (get_or starts (q + 1) 0) (get_or starts p 0) entries (reverse (ring_at entries starts p))
      (let z : p < q = lt_of_le-ne (ltb-false q p t) (λ e. ne (sym e)) in omega (arith, st.ordered (p + 1) q (omega arith) (omega arith))))

  -- what a ring tells that is the same turned, every ring tells after the turn
  pub turned_same : {A : Type 0} (f : List ℕ → A) → ((r : List ℕ) → f (reverse r) ≡ f r) → (q : ℕ) → q < s.polygons → f (ring_at turned_ones starts q) ≡ f (ring_at entries starts q)
  turned_same f e q g =
      cases (eqb q p)
      (λ t. subst (λ (k : ℕ). f (ring_at turned_ones starts k) ≡ f (ring_at entries starts k)) (sym (eqb-true q p t)) (ap f (turned-own (ring_of ld p (few p h))) ∙ e (ring_at entries starts p)))
      (λ t. ap f (turned_other q g (eqb-false q p t)))

  -- the polygons, each of one ring
  now-one : (q : ℕ) → q < s.polygons → polygon_at turned_ones starts firsts q ≡ one (ring_at turned_ones starts q)
  now-one q g = polygon-one turned_ones starts firsts q (ld.ones q (omega arith)) (ld.ones (q + 1) (omega arith))

  pub polygon-own : polygon_at turned_ones starts firsts p ≡ turned_over (polygon_at entries starts firsts p)
  polygon-own = now-one p h ∙ (ap one (turned-own (ring_of ld p (few p h))) ∙ (sym (turned-one (ring_at entries starts p)) ∙ ap turned_over (sym (one_each ld p h))))

  pub polygon_other : (q : ℕ) → q < s.polygons → (q ≡ p → ⊥) → polygon_at turned_ones starts firsts q ≡ polygon_at entries starts firsts q
  polygon_other q g ne = now-one q g ∙ (ap one (turned_other q g ne) ∙ sym (one_each ld q g))

  pub turned_polygons_lem : polygons turned_ones starts firsts s.polygons ≡ at p turned_over (polygons entries starts firsts s.polygons)
  unfolding polygons
  turned_polygons_lem =
      tab-set (polygon_at entries starts firsts) (polygon_at turned_ones starts firsts) s.polygons p h polygon_other
      ∙ ap (λ (q : Polygon). set (tab (polygon_at entries starts firsts) s.polygons) p q) (polygon-own ∙ ap turned_over (sym (tab-at (polygon_at entries starts firsts) s.polygons p (one []) h)))
      ∙ sym (at-is_set turned_over (tab (polygon_at entries starts firsts) s.polygons) p (one []) (rw tab-length h))

  turned-size : length turned_ones ≡ 1024
  turned-size = length-sets entries (get_or starts p 0) (reverse (ring_at entries starts p)) ∙ ld.entered.size

  pub turned_entered : Entries turned_ones (get_or starts (get_or firsts s.polygons 0) 0) s.points
  turned_entered =
      record {
        size = turned-size;
        few = ld.entered.few;
        below = all-sets (λ (e : ℕ). e < s.points) 0 entries (reverse (ring_at entries starts p)) (get_or starts (get_or firsts s.polygons 0) 0) (get_or starts p 0) ld.entered.below
            (all-reverse (λ (e : ℕ). e < s.points) 0 (ring_at entries starts p) (ring_below ld p (few p h)));
      }

  turned_layout : Layout turned_ones starts firsts s.polygons
  turned_layout = record {
    entries-size = turned-size;
    starts_size = ld.layout.starts_size;
    firsts_size = ld.layout.firsts_size;
    few = ld.layout.few;
    begin = ld.layout.begin;
    rising = ld.layout.rising;
    many = ld.layout.many;
    ordered = ld.layout.ordered;
    inside = ld.layout.inside;
  }

  pub turned-loaded : Loaded points turned_ones starts firsts s
  turned-loaded =
      record {
        coords = ld.coords;
        first = ld.first;
        layout = turned_layout;
        ones = ld.ones;
        entered = turned_entered;
        tolerant = ld.tolerant;
        short = λ q g. rw (turned_same length (λ r. length-reverse r) q (omega (arith, rings-many ld))) (ld.short q g);
      }
