-- What is kept tells the report, and the answer about one polygon.
use Prim.Native.Nat.{ℕ, zero, suc, ◌+◌, ◌*◌, ◌-◌, ◌/◌, ◌%◌, ◌≤◌, ◌<◌}
use native.Mathlib.Omega.{arith}
use Rattle.std.specs.Prelude.{◌≡◌, Bool, true, false, ltb, take, ℤ, pos, ◌+ℤ◌}
use Rattle.std.proofs.Math.Path.{refl, sym, ap, ap₂, subst}
use Rattle.std.proofs.Common.{add-one, ◌∙◌, ⊎_elim, le-ltb, ltb-false, get_or-take, length-take-le}
use mathlib.Core.List.{List, [], ◌∷◌, map}
use Rattle.std.proofs.Math.Option.{Option, none, some}
use Rattle.std.proofs.Math.ListN.{length, get_or, length-map}
use Rattle.std.specs.Int.Signed.{le_z}
use Rattle.whole.specs.Lists.{given, first, first_given, tally, numbered_from, numbered, sum_of, tab}
use Rattle.whole.specs.held.Small.{Small}
use Rattle.whole.specs.laws.Size.{small_zero, small_add, small_more}
use Rattle.polygon.specs.declared.Finding.{Finding}
use Rattle.polygon.specs.declared.Finding.TheVariants.{Sound}
use Rattle.polygon.specs.Ring.{finding_number_of}
use Rattle.inner.specs.Finding.{finding, part}
use Rattle.inner.specs.laws.One.{one-part}
use Rattle.inner.proofs.laws.Kept.{finding-take, part-take}
use Rattle.ring.specs.Polygon.{one}
use Rattle.space.specs.held.Points.{points_of}
use Rattle.volume.specs.laws.PartSizes.{part_small}
use Rattle.shell.specs.declared.Shape.{Shape}
use Rattle.ring.specs.held.Rings.{ring_at, polygon_at, polygons}
use Rattle.holes.specs.held.Rings.{Ring}
use Rattle.shell.specs.Shell.{shape, shape_number_of}
use Rattle.shell.specs.held.Kept.{Edged}
use Rattle.directions.specs.laws.Now.{now_is}
use Rattle.building.specs.declared.Arrays.{Arrays}
use Rattle.building.specs.declared.Scalars.{Scalars}
use Rattle.building.specs.declared.Verdict.{Verdict}
use Rattle.building.specs.declared.Verdict.TheVariants.{Accepted, Faulty, Unsound, Inward}
use Rattle.building.specs.Tables.{Tables}
use Rattle.building.specs.Report.{findings, is_fault, lowest_fault, six_volume_of, shape_fault, verdict, report}
use Rattle.edges.specs.laws.Tallies.{tally-map}
use Rattle.whole.specs.laws.Places.{tab-length, tab-at}
use Rattle.building.specs.laws.Lists.{tab_ext, take_is_tab, map-tab}
use Rattle.building.specs.laws.Findings.{kept_number, kept_is, kept_fault, Early, broken_one}
use Rattle.polygon.specs.held.Findings.{kept_finding, finding_of}
use Rattle.building.specs.held.Holds.{held_tables, held_building, Loaded, Found, Summed, Broken, Kept}
use Rattle.building.specs.laws.Rings.{ring_of, ring_length, one_each, rings-many, polygon_below}
use Rattle.totals.specs.held.Scans.{lowest, sum_up_to, Summable}
use Rattle.report.specs.held.Lowest.{NoneFound}
use Rattle.totals.specs.laws.Scans.{Searched, searched_none, searched-more, searched-found, searched_done, lowest_is_length, lowest-inside, above, sum_more}

-- ---- the lowest finding, as it is kept
lowest-some : (k : ℕ) (fs : List Finding) → lowest (map kept_finding fs) < length fs
    → first_given (map (λ (f : ℕ × Finding). given (is_fault f.1) (Faulty f.0 f.1)) (numbered_from k fs)) ≡ some (Faulty (k + lowest (map kept_finding fs)) (get_or fs (lowest (map kept_finding fs)) Sound))
unfolding lowest first_given given numbered_from
lowest-some k [] h = absurd (omega arith)
lowest-some k (f ∷ fs) h = go (ltb 0 (kept_finding f)) refl h (lowest-some (suc k) fs)
  where
    go : (b : Bool) → ltb 0 (kept_finding f) ≡ b → lowest (map kept_finding (f ∷ fs)) < length (f ∷ fs)
        → (lowest (map kept_finding fs) < length fs → first_given (map (λ (f : ℕ × Finding). given (is_fault f.1) (Faulty f.0 f.1)) (numbered_from (suc k) fs)) ≡ some (Faulty (suc k + lowest (map kept_finding fs)) (get_or fs (lowest (map kept_finding fs)) Sound)))
        → first_given (map (λ (f : ℕ × Finding). given (is_fault f.1) (Faulty f.0 f.1)) (numbered_from k (f ∷ fs))) ≡ some (Faulty (k + lowest (map kept_finding (f ∷ fs))) (get_or (f ∷ fs) (lowest (map kept_finding (f ∷ fs))) Sound))
    go true e h ih =
        let l : lowest (map kept_finding (f ∷ fs)) ≡ 0 = ap (λ (b : Bool). elim b [ true ↦ 0 | false ↦ suc (lowest (map kept_finding fs)) ]) e in
        let z : k + 0 ≡ k = omega arith in
        rw (l, sym (kept_fault f) ∙ e, z)
    go false e h ih =
        let l : lowest (map kept_finding (f ∷ fs)) ≡ suc (lowest (map kept_finding fs)) = ap (λ (b : Bool). elim b [ true ↦ 0 | false ↦ suc (lowest (map kept_finding fs)) ]) e in
        let z : suc k + lowest (map kept_finding fs) ≡ k + suc (lowest (map kept_finding fs)) = omega arith in
        let r = ih (omega arith) in
        rw (l, sym (kept_fault f) ∙ e) (rw z at r)

lowest-none : (k : ℕ) (fs : List Finding) → length fs ≤ lowest (map kept_finding fs) → first_given (map (λ (f : ℕ × Finding). given (is_fault f.1) (Faulty f.0 f.1)) (numbered_from k fs)) ≡ none
unfolding lowest first_given given numbered_from
lowest-none k [] h = refl
lowest-none k (f ∷ fs) h = go (ltb 0 (kept_finding f)) refl h (lowest-none (suc k) fs)
  where
    go : (b : Bool) → ltb 0 (kept_finding f) ≡ b → length (f ∷ fs) ≤ lowest (map kept_finding (f ∷ fs))
        → (length fs ≤ lowest (map kept_finding fs) → first_given (map (λ (f : ℕ × Finding). given (is_fault f.1) (Faulty f.0 f.1)) (numbered_from (suc k) fs)) ≡ none)
        → first_given (map (λ (f : ℕ × Finding). given (is_fault f.1) (Faulty f.0 f.1)) (numbered_from k (f ∷ fs))) ≡ none
    go true e h ih =
        let l : lowest (map kept_finding (f ∷ fs)) ≡ 0 = ap (λ (b : Bool). elim b [ true ↦ 0 | false ↦ suc (lowest (map kept_finding fs)) ]) e in
        absurd (omega arith)
    go false e h ih =
        let l : lowest (map kept_finding (f ∷ fs)) ≡ suc (lowest (map kept_finding fs)) = ap (λ (b : Bool). elim b [ true ↦ 0 | false ↦ suc (lowest (map kept_finding fs)) ]) e in
        let r = ih (omega arith) in
        rw (sym (kept_fault f) ∙ e) r

-- what stands before the lowest is 0
pub lowest-before : (l : List ℕ) (p : ℕ) → p < lowest l → get_or l p 0 ≡ 0
unfolding lowest
lowest-before [] p h = absurd (omega arith)
lowest-before (x ∷ l) p h = go (ltb 0 x) refl p h (lowest-before l)
  where
    go : (b : Bool) → ltb 0 x ≡ b → (p : ℕ) → p < lowest (x ∷ l) → ((q : ℕ) → q < lowest l → get_or l q 0 ≡ 0) → get_or (x ∷ l) p 0 ≡ 0
    go true e p h ih = absurd (let z : lowest (x ∷ l) ≡ 0 = ap (λ (b : Bool). elim b [ true ↦ 0 | false ↦ suc (lowest l) ]) e in omega arith)
    go false e zero h ih = omega (arith, ltb-false 0 x e)
    go false e (suc p) h ih = let z : lowest (x ∷ l) ≡ suc (lowest l) = ap (λ (b : Bool). elim b [ true ↦ 0 | false ↦ suc (lowest l) ]) e in ih p (omega arith)

sum-map : {A : Type 0} (f : A → ℤ) (l : List A) → sum_of (λ (z : ℤ). z) (map f l) ≡ sum_of f l
unfolding sum_of
sum-map f [] = refl
sum-map f (x ∷ l) = ap (λ (z : ℤ). f x +ℤ z) (sum-map f l)

-- ---- a held building
-- what the search for the lowest finding met is the lowest
searched_upto : (l : List ℕ) (n i : ℕ) → n ≤ length l → i ≤ n → NoneFound l i → Searched l n i
searched_upto l n zero w h e = searched_none l n w
searched_upto l n (suc i) w h e =
    rw (← add-one i) (searched-more l n w i (omega arith) (searched_upto l n i w (omega arith) (λ p k. e p (omega arith))) (e i (omega arith)))

pub lowest_met : (l : List ℕ) (n i : ℕ) → n ≤ length l → i < n → NoneFound l i → (get_or l i 0 ≡ 0 → ⊥) → i ≡ lowest (take n l)
lowest_met l n i w h e f = searched-found l n w i h (searched_upto l n i w (omega arith) e) f

pub none_met : (l : List ℕ) (n : ℕ) → n ≤ length l → NoneFound l n → lowest (take n l) ≡ n
none_met l n w e = sym (searched_done l n w n (searched_upto l n n w (omega arith) e) (omega arith))

module _ {points : List ℤ} {entries starts firsts : List ℕ} {s : Scalars} (ld : Loaded points entries starts firsts s) where
  abbrev told : Tables
  told = held_tables points entries starts firsts s

  -- the points beyond the count are told of nothing
  finding-held : (p : ℕ) → p < s.polygons → finding s.tolerance (take s.points (points_of points)) (polygon_at entries starts firsts p) ≡ finding s.tolerance (points_of points) (polygon_at entries starts firsts p)
  finding-held p h = finding-take (points_of points) s.points (polygon_at entries starts firsts p) (polygon_below ld p h) s.tolerance

  part_held : (p : ℕ) → p < s.polygons → part (take s.points (points_of points)) (polygon_at entries starts firsts p) ≡ part (points_of points) (polygon_at entries starts firsts p)
  part_held p h = part-take (points_of points) s.points (polygon_at entries starts firsts p) (polygon_below ld p h)

  module _ {found : List ℕ} (fo : Found points entries starts firsts found s) where
    pub kept-finding : (p : ℕ) → p < s.polygons → get_or found p 0 ≡ kept_finding (finding told.tolerance told.points (get_or told.polygons p (one [])))
    unfolding held_tables polygons
    kept-finding p h =
        fo.each p h
        ∙ ap kept_finding (sym (finding-held p h) ∙ ap (finding s.tolerance (take s.points (points_of points))) (sym (tab-at (polygon_at entries starts firsts) s.polygons p (one []) h)))

    pub kept-findings : take s.polygons found ≡ map kept_finding (findings told)
    unfolding findings held_tables polygons
    kept-findings =
        take_is_tab found s.polygons 0 (omega (arith, fo.size, ld.layout.few))
        ∙ tab_ext (λ p. get_or found p 0) (λ p. kept_finding (finding s.tolerance (take s.points (points_of points)) (polygon_at entries starts firsts p))) s.polygons (λ p h. fo.each p h ∙ ap kept_finding (sym (finding-held p h)))
        ∙ sym (map-tab kept_finding (λ p. finding s.tolerance (take s.points (points_of points)) (polygon_at entries starts firsts p)) s.polygons)
        ∙ ap (map kept_finding) (sym (map-tab (finding s.tolerance (take s.points (points_of points))) (polygon_at entries starts firsts) s.polygons))

    pub kept-faults : tally (ltb 0) (take s.polygons found) ≡ (report told).faults
    unfolding report
    kept-faults = ap (tally (ltb 0)) kept-findings ∙ tally-map (ltb 0) kept_finding (findings told) ∙ ap (λ (t : Finding → Bool). tally t (findings told)) (λ i f. kept_fault f i)

    findings-count : length (findings told) ≡ s.polygons
    unfolding findings held_tables polygons
    findings-count = length-map (tab (polygon_at entries starts firsts) s.polygons) (finding s.tolerance (take s.points (points_of points))) ∙ tab-length (polygon_at entries starts firsts) s.polygons

    module _ {low : ℕ} (l : low ≡ lowest (take s.polygons found)) where
      low-is : low ≡ lowest (map kept_finding (findings told))
      low-is = l ∙ ap lowest kept-findings

      -- some polygon has a finding
      pub told-faulty : low < s.polygons → (f : Finding) → f ≡ finding_of (get_or found low 0 % 16) (get_or found low 0 / 16) → Faulty low f ≡ verdict told
      unfolding verdict lowest_fault numbered first
      told-faulty h f e =
          let k : lowest (map kept_finding (findings told)) < length (findings told) = omega (arith, low-is, findings-count) in
          let z : 0 + lowest (map kept_finding (findings told)) ≡ low = omega (arith, low-is) in
          let g : f ≡ get_or (findings told) low Sound = e ∙ kept_is (get_or (findings told) low Sound) (kept_at low h) in
          let q : some (Faulty (0 + lowest (map kept_finding (findings told))) (get_or (findings told) (lowest (map kept_finding (findings told))) Sound)) ≡ some (Faulty low f) =
          ap₂ (λ (i : ℕ) (x : Finding). some (Faulty i x)) z (ap (λ (i : ℕ). get_or (findings told) i Sound) (sym low-is) ∙ sym g) in
          sym (ap (λ (o : Option Verdict). first Accepted (o ∷ shape_fault (shape told.polygons) ∷ given (le_z (six_volume_of told) (pos 0)) Inward ∷ [])) (lowest-some 0 (findings told) k ∙ q))
        where
          kept_at : (p : ℕ) → p < s.polygons → get_or found p 0 ≡ kept_finding (get_or (findings told) p Sound)
          kept_at p h = sym (get_or-take s.polygons found p 0 h) ∙ ap (λ (r : List ℕ). get_or r p 0) kept-findings ∙ map_at (findings told) p (omega (arith, findings-count))
            where
              map_at : (fs : List Finding) (p : ℕ) → p < length fs → get_or (map kept_finding fs) p 0 ≡ kept_finding (get_or fs p Sound)
              map_at [] p h = absurd (omega arith)
              map_at (x ∷ fs) zero h = refl
              map_at (x ∷ fs) (suc p) h = map_at fs p (omega arith)

      -- none has one
      pub told-sound : s.polygons ≤ low → verdict told ≡ first Accepted (shape_fault (shape told.polygons) ∷ given (le_z (six_volume_of told) (pos 0)) Inward ∷ [])
      unfolding verdict lowest_fault numbered first
      told-sound h =
          let k : length (findings told) ≤ lowest (map kept_finding (findings told)) = omega (arith, low-is, findings-count) in
          ap (λ (o : Option Verdict). first Accepted (o ∷ shape_fault (shape told.polygons) ∷ given (le_z (six_volume_of told) (pos 0)) Inward ∷ [])) (lowest-none 0 (findings told) k)

      -- and so none is broken
      pub told-whole : s.polygons ≤ low → Broken entries starts firsts s.polygons → ⊥
      told-whole h b =
          let e : get_or found b.polygon 0 ≡ 0 = sym (get_or-take s.polygons found b.polygon 0 b.below) ∙ lowest-before (take s.polygons found) b.polygon (omega (arith, b.below)) in
          let y : Early (finding_number_of (finding s.tolerance (points_of points) (polygon_at entries starts firsts b.polygon))) = broken_one s.tolerance (points_of points) (polygon_at entries starts firsts b.polygon) (ring_at entries starts b.polygon) (one_each ld b.polygon b.below) b.broken in
          let z = kept_number (finding s.tolerance (points_of points) (polygon_at entries starts firsts b.polygon)) (fo.each b.polygon b.below) in
          omega (arith, y.least)

  module _ {parts : List ℤ} (su : Summed points entries starts firsts parts s) where
    pub kept-part : (p : ℕ) → p < s.polygons → get_or parts p (pos 0) ≡ part told.points (get_or told.polygons p (one []))
    unfolding held_tables polygons
    kept-part p h = su.each p h ∙ sym (part_held p h) ∙ ap (part (take s.points (points_of points))) (sym (tab-at (polygon_at entries starts firsts) s.polygons p (one []) h))

    pub kept-volume : sum_up_to parts s.polygons ≡ six_volume_of told
    unfolding six_volume_of held_tables polygons
    kept-volume =
        ap (sum_of (λ (z : ℤ). z))
        (take_is_tab parts s.polygons (pos 0) (omega (arith, su.size, ld.layout.few))
        ∙ tab_ext (λ p. get_or parts p (pos 0)) (λ p. part (take s.points (points_of points)) (polygon_at entries starts firsts p)) s.polygons (λ p h. su.each p h ∙ sym (part_held p h))
        ∙ sym (map-tab (part (take s.points (points_of points))) (polygon_at entries starts firsts) s.polygons))
        ∙ sum-map (part (take s.points (points_of points))) (tab (polygon_at entries starts firsts) s.polygons)

    -- the sum of the first i parts is at most 6·10^15 for each entry up to there
    sum-small : (i : ℕ) → i ≤ s.polygons → Small (get_or starts i 0 * 6000000000000000) (sum_up_to parts i)
    unfolding sum_of
    sum-small zero h = small_zero
    sum-small (suc i) h =
        let r : Ring entries starts i = ring_of ld i (omega (arith, rings-many ld)) in
        let l : length (ring_at entries starts i) ≡ get_or starts (i + 1) 0 - get_or starts i 0 = ring_length entries starts i r.entries-size r.inside in
        let f : get_or starts i 0 ≤ get_or starts (i + 1) 0 = r.forward in
        let n : suc i ≡ i + 1 = omega arith in
        let p : Small ((length (ring_at entries starts i) - 1) * 6000000000000000) (get_or parts i (pos 0)) = subst (λ (z : ℤ). Small ((length (ring_at entries starts i) - 1) * 6000000000000000) z) (sym (su.each i (omega arith) ∙ (ap (part (points_of points)) (one_each ld i (omega arith)) ∙ one-part (points_of points) (ring_at entries starts i)))) (part_small ld.coords r.known) in
        let ih : Small (get_or starts i 0 * 6000000000000000) (sum_up_to parts i) = sum-small i (omega arith) in
        rw n (subst (λ (z : ℤ). Small (get_or starts (i + 1) 0 * 6000000000000000) z) (sym (sum_more parts i (omega (arith, su.size, ld.layout.few)))) (small_more (grow (get_or starts i 0) (get_or starts (i + 1) 0) (length (ring_at entries starts i)) l f) (small_add ih p)))
      where
        grow : (a e l : ℕ) → l ≡ e - a → a ≤ e → a * 6000000000000000 + (l - 1) * 6000000000000000 ≤ e * 6000000000000000
        grow a e l h g = omega arith

    pub kept-summable : Summable parts s.polygons
    kept-summable =
        record {
          size = su.size;
          few = ld.layout.few;
          small = λ i h. small_more (omega (arith, ld.layout.ordered i (get_or firsts s.polygons 0) (omega (arith, rings-many ld)) (omega arith), ld.layout.inside)) (sum-small i h);
        }

-- the stamp of a polygon
pub kept_stamp : (a : Arrays) (s : Scalars) (p : ℕ) → p < s.polygons → get_or a.stamps p 0 ≡ get_or (held_building a s).stamps p 0
unfolding held_building
kept_stamp a s p h = sym (get_or-take s.polygons a.stamps p 0 h)

-- ---- the verdict where no polygon has a finding
rows_unsound : (sh : Shape) (v : ℤ) → ltb 0 (shape_number_of sh) ≡ true → first Accepted (shape_fault sh ∷ given (le_z v (pos 0)) Inward ∷ []) ≡ Unsound sh
unfolding first given shape_fault
rows_unsound sh v e = rw e

rows_inward : (sh : Shape) (v : ℤ) → ltb 0 (shape_number_of sh) ≡ false → le_z v (pos 0) ≡ true → first Accepted (shape_fault sh ∷ given (le_z v (pos 0)) Inward ∷ []) ≡ Inward
unfolding first given shape_fault
rows_inward sh v e f = rw (e, f)

rows_accepted : (sh : Shape) (v : ℤ) → ltb 0 (shape_number_of sh) ≡ false → le_z v (pos 0) ≡ false → first Accepted (shape_fault sh ∷ given (le_z v (pos 0)) Inward ∷ []) ≡ Accepted
unfolding first given shape_fault
rows_accepted sh v e f = rw (e, f)

module _ {points : List ℤ} {entries starts firsts : List ℕ} {s : Scalars} (ld : Loaded points entries starts firsts s) {found : List ℕ} {parts : List ℤ} {table turned : List ℕ} (kp : Kept points entries starts firsts found parts table turned s) where
  abbrev low : ℕ
  low = lowest (take s.polygons found)

  all_told : length (take s.polygons found) ≡ s.polygons
  all_told = length-take-le s.polygons found (omega (arith, kp.found.size, ld.layout.few))

  -- where some polygon has a finding, the lowest is one of them
  pub told-low : {i : ℕ} → i ≡ low → {faults : ℕ} → faults ≡ tally (ltb 0) (take s.polygons found) → (faults ≡ 0 → ⊥) → i < s.polygons
  told-low e g f = omega (arith, lowest-inside (take s.polygons found) (λ z. f (g ∙ z)), all_told)

  module _ (sound : tally (ltb 0) (take s.polygons found) ≡ 0) where
    low-past : s.polygons ≤ low
    low-past = omega (arith, lowest_is_length (take s.polygons found) sound, all_told)

    told-edged : Edged (polygons entries starts firsts s.polygons) table s.edges turned s.fixed
    told-edged = ⊎_elim (λ b. absurd (told-whole ld kp.found refl low-past b)) (λ ed. ed) kp.shaped

    -- what is kept of the shape is that of the present rings
    told-shape : s.shape ≡ shape (polygons entries starts firsts s.polygons)
    told-shape = kp.shown ∙ now_is (polygons entries starts firsts s.polygons) table s.edges turned s.fixed told-edged

    module _ {number : ℕ} (n : number ≡ shape_number_of s.shape) where
      pub says-unsound : (number ≡ 0 → ⊥) → Unsound s.shape ≡ verdict (held_tables points entries starts firsts s)
      unfolding held_tables
      says-unsound z =
          sym (told-sound ld kp.found refl low-past
          ∙ ap (λ (x : Shape). first Accepted (shape_fault x ∷ given (le_z (six_volume_of (held_tables points entries starts firsts s)) (pos 0)) Inward ∷ [])) (sym told-shape)
          ∙ rows_unsound s.shape (six_volume_of (held_tables points entries starts firsts s)) (above (shape_number_of s.shape) (λ q. z (n ∙ q))))

      module _ (z : number ≡ 0) {v : ℤ} (w : v ≡ sum_up_to parts s.polygons) where
        none-unsound : ltb 0 (shape_number_of s.shape) ≡ false
        none-unsound = le-ltb 0 (shape_number_of s.shape) (omega (arith, n))

        rest : verdict (held_tables points entries starts firsts s) ≡ first Accepted (shape_fault s.shape ∷ given (le_z v (pos 0)) Inward ∷ [])
        unfolding held_tables
        rest =
            told-sound ld kp.found refl low-past
            ∙ ap₂ (λ (x : Shape) (y : ℤ). first Accepted (shape_fault x ∷ given (le_z y (pos 0)) Inward ∷ [])) (sym told-shape) (sym (w ∙ kept-volume ld kp.summed))

        pub says-inward : le_z v (pos 0) ≡ true → Inward ≡ verdict (held_tables points entries starts firsts s)
        says-inward t = sym (rest ∙ rows_inward s.shape v none-unsound t)

        pub says-accepted : le_z v (pos 0) ≡ false → Accepted ≡ verdict (held_tables points entries starts firsts s)
        says-accepted t = sym (rest ∙ rows_accepted s.shape v none-unsound t)
