-- A turn: what is kept after it is what the definitions give for the turned ring.
use Rattle.std.specs.Prelude.{ℕ, zero, suc, ◌+◌, ◌*◌, ◌-◌, ◌%◌, ◌<◌, ◌≡◌, refl, true, false, List, reverse, eqb, set, ℤ, pos, negsuc, neg_ℤ, ◌-ℤ◌}
use Rattle.std.proofs.Common.{arith, sym, ◌∙◌, subst, eqb-true, get_or-set_same, get_or-set_other, SFits, of_z, to_z, to_z-of_z}
use Rattle.std.proofs.Math.Path.{ap, ap₂}
use Rattle.std.proofs.lemmas.List.{reverse-reverse}
use Rattle.std.proofs.Math.Logic.{inl, inr, ⊎_elim}
use Rattle.std.proofs.lemmas.Bool.{eqb-false}
use Rattle.std.proofs.Math.ListN.{length, get_or, length-set}
use Rattle.std.proofs.Math.Seq.{take-set-lt, length-sets}
use Rattle.std.proofs.Math.IntN.{+ℤ_idl}
use Rattle.std.specs.Int.{w64}
use Rattle.whole.specs.laws.Size.{small_more, small_fits}
use Rattle.whole.specs.laws.Stores.{cases}
use Rattle.ring.specs.Entries.{is_unclosed}
use Rattle.polygon.specs.Ring.{finding, finding_number_of, finding_position_of}
use Rattle.polygon.specs.held.Position.{has_position_of}
use Rattle.volume.specs.Part.{part}
use Rattle.volume.specs.laws.Turn.{part_turned}
use Rattle.polygon.specs.laws.TurnFinding.{number-turned, finding-turned}
use Rattle.space.specs.Space.{Point}
use Rattle.space.specs.held.Points.{points_of, Coords, Known}
use Rattle.volume.specs.laws.PartSizes.{part_small}
use Rattle.shell.specs.declared.Shape.{Shape}
use Rattle.ring.specs.Polygon.{Polygon, one, turned_over}
use Rattle.ring.specs.held.Rings.{ring_at, polygon_at, polygons}
use Rattle.ring.specs.laws.Turned.{turned-one}
use Rattle.inner.specs.Finding as Inner
use Rattle.inner.specs.laws.One.{one_ring, one-part}
use Rattle.holes.specs.held.Rings.{Ring}
use Rattle.shell.specs.laws.EdgedLaws.{listed-turned, edged_turned}
use Rattle.building.specs.declared.Arrays.{Arrays}
use Rattle.building.specs.declared.Scalars.{Scalars}
use Rattle.building.specs.Tables.{turned}
use Rattle.building.specs.held.Holds.{is_broken, held_tables, held_building, Loaded, Found, Summed, Broken, Shown, Held, Did}
use Rattle.polygon.specs.held.Findings.{kept_finding, is_placed}
use Rattle.building.specs.laws.Findings.{broken_turned, kept_number}
use Rattle.polygon.specs.laws.Position.{placed_is}
use Rattle.building.specs.laws.Rings.{one_each}
use Rattle.turns.specs.held.Rings.{turned_entries}
use Rattle.turns.specs.laws.Rings.{turned-own, turned_known, polygon-own, polygon_other, turned_polygons_lem, turned-loaded}

-- ---- the part of a turned ring, from what it was
neg_neg : (z : ℤ) → neg_ℤ (neg_ℤ z) ≡ z
neg_neg (pos zero) = refl
neg_neg (pos (suc n)) = refl
neg_neg (negsuc n) = refl

module _ {points : List ℤ} {ring : List ℕ} (co : Coords points) (kn : Known ring) where
  pub part-fits : SFits w64 (part (points_of points) ring)
  part-fits = small_fits {n = 768000000000000000} tt (small_more (omega (arith, kn.few)) (part_small co kn))

  module _ (before : ℤ) (e : before ≡ part (points_of points) (reverse ring)) (closed : is_unclosed ring ≡ false) where
    -- as the machine negates it
    negated : SFits w64 before → pos 0 -ℤ to_z w64 (of_z w64 before) ≡ part (points_of points) ring
    negated f =
        +ℤ_idl (neg_ℤ (to_z w64 (of_z w64 before)))
        ∙ ap neg_ℤ (to_z-of_z f ∙ e ∙ part_turned (points_of points) ring closed)
        ∙ neg_neg (part (points_of points) ring)

    pub negated_fits : SFits w64 before → SFits w64 (pos 0 -ℤ to_z w64 (of_z w64 before))
    negated_fits f = subst (λ (z : ℤ). SFits w64 z) (sym (negated f)) part-fits

    pub negated-is : SFits w64 before → to_z w64 (of_z w64 (pos 0 -ℤ to_z w64 (of_z w64 before))) ≡ part (points_of points) ring
    negated-is f = to_z-of_z (negated_fits f) ∙ negated f

-- what the turned ring asks, whose entries stand turned already
module _ {entries starts : List ℕ} {p : ℕ} (r : Ring entries starts p) {entries' : List ℕ} (e : entries' ≡ turned_entries entries starts p) where
  pub own-turned : ring_at entries' starts p ≡ reverse (ring_at entries starts p)
  own-turned = ap (λ (es : List ℕ). ring_at es starts p) e ∙ turned-own r

  pub own_known : Known (ring_at entries' starts p)
  own_known = subst Known (sym own-turned) (turned_known r)

  pub own_back : ring_at entries starts p ≡ reverse (ring_at entries' starts p)
  own_back = sym (reverse-reverse (ring_at entries starts p)) ∙ ap reverse (sym own-turned)

  pub own_ring : Ring entries' starts p
  own_ring =
      record {
        entries-size = ap length e ∙ length-sets entries (get_or starts p 0) (reverse (ring_at entries starts p)) ∙ r.entries-size;
        starts_size = r.starts_size;
        few = r.few;
        forward = r.forward;
        inside = r.inside;
        known = own_known;
      }

-- ---- the finding of a ring that has been turned, from what it was
module _ (tolerance : ℕ) (points : List Point) (ring : List ℕ) {k : ℕ} (e : k ≡ kept_finding (finding tolerance points (reverse ring))) where
  -- its number stands
  pub turned-number : k % 16 ≡ finding_number_of (finding tolerance points ring)
  turned-number = kept_number (finding tolerance points (reverse ring)) e ∙ number-turned tolerance points ring

  pub turned-placed : is_placed (k % 16) ≡ has_position_of (finding tolerance points ring)
  turned-placed = ap is_placed turned-number ∙ placed_is (finding tolerance points ring)

  -- without a position it is what it was
  pub turned_kept : is_placed (k % 16) ≡ false → k ≡ kept_finding (finding tolerance points ring)
  turned_kept h = e ∙ ap kept_finding (finding-turned tolerance points ring (sym turned-placed ∙ h))

  -- and with one it is that number, met elsewhere
  pub turned_found_at : {i : ℕ} → i ≡ finding_position_of (finding tolerance points ring) → 16 * i + k % 16 ≡ kept_finding (finding tolerance points ring)
  unfolding kept_finding
  turned_found_at h = ap₂ (λ (p n : ℕ). 16 * p + n) h turned-number

-- ---- the flag of a turned ring
abbrev pub flipped : List ℕ → ℕ → List ℕ
flipped turned p = set turned p (1 - get_or turned p 0)

-- ---- all that is kept
module _ {points : List ℤ} {entries starts firsts : List ℕ} {s : Scalars} (ld : Loaded points entries starts firsts s) (p : ℕ) (h : p < s.polygons) where
  -- what a polygon tells, stored anew for the turned one, is told of every polygon
  turned_each : {A : Type 0} (f : Polygon → A) (l : List A) (d : A) (z : A) → z ≡ f (turned_over (polygon_at entries starts firsts p)) → length l ≡ 256 → ((q : ℕ) → q < s.polygons → get_or l q d ≡ f (polygon_at entries starts firsts q))
      → (q : ℕ) → q < s.polygons → get_or (set l p z) q d ≡ f (polygon_at (turned_entries entries starts p) starts firsts q)
  turned_each f l d z e size each q g =
      cases (eqb q p)
      (λ t. rw (eqb-true q p t) (get_or-set_same l p z d (omega (arith, ld.layout.few)) ∙ (e ∙ ap f (sym (polygon-own ld p h)))))
      (λ t. get_or-set_other l p q z d (eqb-false q p t) ∙ each q g ∙ ap f (sym (polygon_other ld p h q g (eqb-false q p t))))

  -- what the one ring tells
  pub found_now : kept_finding (Inner.finding s.tolerance (points_of points) (polygon_at entries starts firsts p)) ≡ kept_finding (finding s.tolerance (points_of points) (ring_at entries starts p))
  found_now = ap kept_finding (ap (Inner.finding s.tolerance (points_of points)) (one_each ld p h) ∙ one_ring (points_of points) (ring_at entries starts p) s.tolerance)

  pub part-now : Inner.part (points_of points) (polygon_at entries starts firsts p) ≡ part (points_of points) (ring_at entries starts p)
  part-now = ap (Inner.part (points_of points)) (one_each ld p h) ∙ one-part (points_of points) (ring_at entries starts p)

  own-turned-one : turned_over (polygon_at entries starts firsts p) ≡ one (reverse (ring_at entries starts p))
  own-turned-one = ap turned_over (one_each ld p h) ∙ turned-one (ring_at entries starts p)

  found_one : kept_finding (finding s.tolerance (points_of points) (reverse (ring_at entries starts p))) ≡ kept_finding (Inner.finding s.tolerance (points_of points) (turned_over (polygon_at entries starts firsts p)))
  found_one = ap kept_finding (sym (ap (Inner.finding s.tolerance (points_of points)) own-turned-one ∙ one_ring (points_of points) (reverse (ring_at entries starts p)) s.tolerance))

  part-one : part (points_of points) (reverse (ring_at entries starts p)) ≡ Inner.part (points_of points) (turned_over (polygon_at entries starts firsts p))
  part-one = sym (ap (Inner.part (points_of points)) own-turned-one ∙ one-part (points_of points) (reverse (ring_at entries starts p)))

  turned_found : {findings : List ℕ} → Found points entries starts firsts findings s
      → Found points (turned_entries entries starts p) starts firsts (set findings p (kept_finding (finding s.tolerance (points_of points) (reverse (ring_at entries starts p))))) s
  turned_found {findings} f =
      let z = kept_finding (finding s.tolerance (points_of points) (reverse (ring_at entries starts p))) in
      record {
        size = length-set findings p z ∙ f.size;
        each = turned_each (λ q. kept_finding (Inner.finding s.tolerance (points_of points) q)) findings 0 z found_one f.size f.each;
      }

  turned_summed : {parts : List ℤ} → Summed points entries starts firsts parts s → Summed points (turned_entries entries starts p) starts firsts (set parts p (part (points_of points) (reverse (ring_at entries starts p)))) s
  turned_summed {parts} f =
      let z = part (points_of points) (reverse (ring_at entries starts p)) in
      record {
        size = length-set parts p z ∙ f.size;
        each = turned_each (Inner.part (points_of points)) parts (pos 0) z part-one f.size f.each;
      }

  turned_broken : Broken entries starts firsts s.polygons → Broken (turned_entries entries starts p) starts firsts s.polygons
  unfolding turned_over
  turned_broken b =
      let q = b.polygon in
      record {
        polygon = q;
        below = b.below;
        broken = cases (eqb q p)
            (λ t. rw (eqb-true q p t) (ap (λ (r : Polygon). is_broken r.outer) (polygon-own ld p h) ∙ broken_turned (polygon_at entries starts firsts p).outer (subst (λ (k : ℕ). is_broken (polygon_at entries starts firsts k).outer ≡ true) (eqb-true q p t) b.broken)))
            (λ t. ap (λ (r : Polygon). is_broken r.outer) (polygon_other ld p h q b.below (eqb-false q p t)) ∙ b.broken);
      }

module _ (a a' : Arrays) (s : Scalars) (hd : Held a s) (number p : ℕ) (h : p < s.polygons) where
  -- the turned ring, its finding, its part, its stamp and its flag make the building that a turn makes
  pub did_turned : a'.points.flat ≡ a.points.flat
      → a'.rings.entries ≡ turned_entries a.rings.entries a.rings.starts p
      → a'.rings.starts ≡ a.rings.starts
      → a'.rings.firsts ≡ a.rings.firsts
      → a'.stamps ≡ set a.stamps p number
      → a'.findings ≡ set a.findings p (kept_finding (finding s.tolerance (points_of a.points.flat) (reverse (ring_at a.rings.entries a.rings.starts p))))
      → a'.parts ≡ set a.parts p (part (points_of a.points.flat) (reverse (ring_at a.rings.entries a.rings.starts p)))
      → a'.table ≡ a.table
      → a'.turned ≡ flipped a.turned p
      → {shape' : Shape} → Shown a.table s.edges a'.turned s.fixed shape'
      → Did (turned number p (held_building a s)) a' (record { tolerance = s.tolerance; points = s.points; polygons = s.polygons; last = number; edges = s.edges; fixed = s.fixed; shape = shape' })
  unfolding held_building held_tables turned
  did_turned pt es st ft ss fs ps tb ts sh =
      let ld = hd.loaded in
      let kp = hd.kept in
      let few : p < 256 = omega (arith, ld.layout.few) in
      let lt = turned-loaded ld p h in
      let b : p < length a.turned = omega (arith, kp.turned-size) in
      record {
        held = record {
          loaded = rw (pt, es, st, ft) (record { coords = lt.coords; first = lt.first; layout = lt.layout; ones = lt.ones; entered = lt.entered; tolerant = lt.tolerant; short = lt.short });
          stamped = ap length ss ∙ length-set a.stamps p number ∙ hd.stamped;
          kept = record {
            found = rw (pt, es, st, ft, fs) (record { size = (turned_found ld p h kp.found).size; each = (turned_found ld p h kp.found).each });
            summed = rw (pt, es, st, ft, ps) (record { size = (turned_summed ld p h kp.summed).size; each = (turned_summed ld p h kp.summed).each });
            table-size = ap length tb ∙ kp.table-size;
            turned-size = ap length ts ∙ length-set a.turned p (1 - get_or a.turned p 0) ∙ kp.turned-size;
            listed = rw (es, st, ft, tb, ts, turned_polygons_lem ld p h) (listed-turned (polygons a.rings.entries a.rings.starts a.rings.firsts s.polygons) a.table s.edges a.turned p b kp.listed);
            shaped = rw (es, st, ft, tb, ts) (⊎_elim (λ br. inl (turned_broken ld p h br)) (λ ed. inr (rw (turned_polygons_lem ld p h) (edged_turned (polygons a.rings.entries a.rings.starts a.rings.firsts s.polygons) a.table s.edges a.turned s.fixed p b ed))) kp.shaped);
            shown = rw tb sh;
          };
        };
        is = rw (pt, es, st, ft, ss, turned_polygons_lem ld p h, take-set-lt s.polygons a.stamps p number h);
      }
