-- The thirteen checks one by one: a building is accepted exactly when none fails, otherwise the first failing one is named with its element.
use Rattle.std.specs.Prelude.{ℕ, suc, ◌+◌, ◌≡◌, Bool, true, false, List, [], ◌∷◌, ◌++◌, map, eqb, ltb, length, pos}
use Rattle.std.proofs.Common.{arith, ap, ◌∙◌, true≢false}
use Rattle.std.proofs.Math.Path.{refl}
use Rattle.std.proofs.lemmas.Bool.{false≢true}
use Rattle.std.proofs.Math.Option
use Rattle.std.proofs.Math.Option.{Option, none, some}
use Rattle.std.specs.Int.Signed.{le_z}
use Rattle.whole.specs.Lists.{given, first, first_given, numbered_from, numbered, tally}
use Rattle.whole.specs.All as A
use Rattle.whole.specs.All.{All}
use Rattle.whole.specs.laws.Alls.{all_imp}
use Rattle.whole.proofs.laws.First.{NoneGiven}
use Rattle.polygon.specs.declared.Finding.{Finding}
use Rattle.polygon.specs.declared.Finding.TheVariants.{Sound, Short, Unclosed, Repeated, NoNormal, Crossed}
use Rattle.space.specs.Space.{Point, places}
use Rattle.plane.specs.Plane.{largest_axis_of}
use Rattle.polygon.specs.Ring.{is_short, edges_in, ring_rows, ring_finding, finding_number_of}
use Rattle.inner.specs.Finding.{finding}
use Rattle.inner.specs.held.LastChecks.{last_checks}
use Rattle.inner.proofs.laws.Checks.{sound_exactly}
use Rattle.holes.specs.Holes.{component_of}
use Rattle.ring.specs.Entries.{is_unclosed, is_repeated, repeated_at}
use Rattle.ring.specs.Polygon.{Polygon, rings_of, all_rings}
use Rattle.normal.specs.Normal.{normal, is_zero_of}
use Rattle.crossing.specs.Crossed.{is_crossed, crossed_at}
use Rattle.shell.specs.declared.Shape.{Shape}
use Rattle.shell.specs.declared.Shape.TheVariants.{Whole, Few, Once, Often, Alike, Apart, Unlinked}
use Rattle.edges.specs.Edges.{smaller, larger, used_once, used_often, used_alike}
use Rattle.shell.specs.Shell.{not_reached, not_linked, by_ends, shape, shape_number_of}
use Rattle.building.specs.declared.Verdict.TheVariants.{Accepted, Faulty, Unsound, Inward}
use Rattle.building.specs.Tables.{Tables}
use Rattle.building.specs.Report.{check_number_of, shape_fault, findings, is_fault, lowest_fault, six_volume_of, verdict}
use Rattle.building.specs.laws.Accepted as Acc
use Rattle.building.specs.Thirteen.{PassesRing, Passes, Manifold, NoneOfThirteen}
use Rattle.building.specs.laws.Accepted.{accepted_none_fails, none_fails_accepted, zero_accepted, rows, rows_sound, to_map}

-- ---- one polygon

five : (s u r : Bool) (i : ℕ) (n c : Bool) (j : ℕ) → first Sound (given s Short ∷ given u Unclosed ∷ given r (Repeated i) ∷ given n NoNormal ∷ given c (Crossed j) ∷ []) ≡ Sound
    → (s ≡ false) × (u ≡ false) × (r ≡ false) × (n ≡ false) × (c ≡ false)
unfolding first given is_fault finding_number_of
five true u r i n c j q = absurd (true≢false (ap is_fault q))
five false true r i n c j q = absurd (true≢false (ap is_fault q))
five false false true i n c j q = absurd (true≢false (ap is_fault q))
five false false false i true c j q = absurd (true≢false (ap is_fault q))
five false false false i false true j q = absurd (true≢false (ap is_fault q))
five false false false i false false j q = (refl, refl, refl, refl, refl)

ring_passes : (points : List Point) (ring : List ℕ) → ring_finding points ring ≡ Sound → PassesRing points ring
unfolding ring_finding ring_rows
ring_passes points ring q =
    let ps = places points ring in
    let n = normal ps in
    let es = edges_in (largest_axis_of n) ps in
    let r = five (is_short ring) (is_unclosed ring) (is_repeated ring) (repeated_at ring) (is_zero_of n) (is_crossed es) (crossed_at es) q in
    record { not_01 = r.0; not_02 = r.1; not_03 = r.2; not_04 = r.3; not_05 = r.4 }

passes_ring : (points : List Point) (ring : List ℕ) → PassesRing points ring → ring_finding points ring ≡ Sound
unfolding ring_finding ring_rows first given
passes_ring points ring p = rw (p.not_01, p.not_02, p.not_03, p.not_04, p.not_05)

pub sound_passes : (tolerance : ℕ) (points : List Point) (p : Polygon) → finding tolerance points p ≡ Sound → Passes tolerance points p
unfolding last_checks component_of
sound_passes tolerance points p q = let r = (sound_exactly tolerance points p).1 q in go r.0 r.1
  where
    go : All (λ (ring : List ℕ). ring_finding points ring ≡ Sound) (rings_of p) → NoneGiven (last_checks tolerance points p) → Passes tolerance points p
    go each (A.more a (A.more b (A.more c A.none))) = record { rings-pass = all_imp (λ ring e. ring_passes points ring e) each; not_06 = a; not_0E = b; not_0F = c }

pub passes_sound : (tolerance : ℕ) (points : List Point) (p : Polygon) → Passes tolerance points p → finding tolerance points p ≡ Sound
unfolding last_checks component_of
passes_sound tolerance points p x =
    (sound_exactly tolerance points p).0 (all_imp (λ ring e. passes_ring points ring e) x.rings-pass, A.more x.not_06 (A.more x.not_0E (A.more x.not_0F A.none)))

-- ---- all polygons

is_whole : Shape → Bool
is_whole s = eqb (shape_number_of s) 0

six_shapes : (f : Bool) (n : ℕ) (o m a : Option ℕ) (r l : Option ℕ)
    → first Whole (given f (Few n) ∷ Option.map (by_ends Once) o ∷ Option.map (by_ends Often) m ∷ Option.map (by_ends Alike) a ∷ Option.map Apart r ∷ Option.map Unlinked l ∷ []) ≡ Whole
    → (f ≡ false) × (o ≡ none) × (m ≡ none) × (a ≡ none) × (r ≡ none) × (l ≡ none)
unfolding first given by_ends is_whole shape_number_of
six_shapes true n o m a r l q = absurd (false≢true (ap is_whole q))
six_shapes false n (some e) m a r l q = absurd (false≢true (ap is_whole q))
six_shapes false n none (some e) a r l q = absurd (false≢true (ap is_whole q))
six_shapes false n none none (some e) r l q = absurd (false≢true (ap is_whole q))
six_shapes false n none none none (some p) l q = absurd (false≢true (ap is_whole q))
six_shapes false n none none none none (some v) q = absurd (false≢true (ap is_whole q))
six_shapes false n none none none none none q = (refl, refl, refl, refl, refl, refl)

pub whole_manifold : (ps : List Polygon) → shape ps ≡ Whole → Manifold ps
unfolding shape
whole_manifold ps q =
    let rings = all_rings ps in
    let r = six_shapes (ltb (length ps) 4) (length ps) (used_once rings) (used_often rings) (used_alike rings) (not_reached ps) (not_linked ps) q in
    record { not_07 = r.0; not_08 = r.1; not_09 = r.2; not_0A = r.3; not_0B = r.4; not_0C = r.5 }

pub manifold_whole : (ps : List Polygon) → Manifold ps → shape ps ≡ Whole
unfolding shape first given
manifold_whole ps m = rw (m.not_07, m.not_08, m.not_09, m.not_0A, m.not_0B, m.not_0C)

-- ---- "accepted exactly when none of the thirteen fails"

pub accepted_none : (t : Tables) → verdict t ≡ Accepted → NoneOfThirteen t
accepted_none t e =
    let n = accepted_none_fails t e in
    record { polygons-pass = all_imp (λ r q. sound_passes t.tolerance t.points r q) n.each; all_pass = whole_manifold t.polygons n.closed; not_0D = n.outward }

pub none_accepted : (t : Tables) → NoneOfThirteen t → verdict t ≡ Accepted
none_accepted t n =
    none_fails_accepted t
    (record { each = all_imp (λ r q. passes_sound t.tolerance t.points r q) n.polygons-pass; closed = manifold_whole t.polygons n.all_pass; outward = n.not_0D })

-- "Check 00 with 0, 0 is acceptance": no other verdict is so numbered
pub zero-none : (t : Tables) → check_number_of (verdict t) ≡ 0 → NoneOfThirteen t
zero-none t e = accepted_none t (zero_accepted t e)

pub none-counted : (t : Tables) → NoneOfThirteen t → tally is_fault (findings t) ≡ 0
none-counted t n = Acc.none-counted t (accepted_none_fails t (none_accepted t n))

-- ---- "otherwise the first failing one is reported with its element"

rows_at : (f : Polygon → Finding) (n : ℕ) (done : List Polygon) (ring : Polygon) (rest : List Polygon) → All (λ (r : Polygon). f r ≡ Sound) done → is_fault (f ring) ≡ true
    → first_given (rows n (map f (done ++ ring ∷ rest))) ≡ some (Faulty (n + length done) (f ring))
unfolding rows first_given given numbered_from is_fault finding_number_of
rows_at f n [] ring rest A.none e = let m : n ≡ n + 0 = omega arith in rw e (ap (λ (k : ℕ). some (Faulty k (f ring))) m)
rows_at f n (r ∷ done) ring rest (A.more q a) e =
    let ih : first_given (rows (suc n) (map f (done ++ ring ∷ rest))) ≡ some (Faulty (suc n + length done) (f ring)) = rows_at f (suc n) done ring rest a e in
    let m : suc n + length done ≡ n + suc (length done) = omega arith in
    rw q (ih ∙ ap (λ (k : ℕ). some (Faulty k (f ring))) m)

-- "the report names the lowest such polygon as a, with its check"
pub named_polygon : (t : Tables) (done : List Polygon) (ring : Polygon) (rest : List Polygon) → t.polygons ≡ done ++ ring ∷ rest
    → All (λ (r : Polygon). finding t.tolerance t.points r ≡ Sound) done → is_fault (finding t.tolerance t.points ring) ≡ true
    → verdict t ≡ Faulty (length done) (finding t.tolerance t.points ring)
unfolding verdict lowest_fault numbered rows findings first
named_polygon t done ring rest e a q =
    let f : Polygon → Finding = finding t.tolerance t.points in
    let m : 0 + length done ≡ length done = omega arith in
    let r : first_given (rows 0 (map f t.polygons)) ≡ some (Faulty (length done) (f ring)) = ap (λ (l : List Polygon). first_given (rows 0 (map f l))) e ∙ rows_at f 0 done ring rest a q ∙ ap (λ (k : ℕ). some (Faulty k (f ring))) m in
    rw r

module _ (t : Tables) (each : All (λ (r : Polygon). finding t.tolerance t.points r ≡ Sound) t.polygons) where
  no_rows : first_given (rows 0 (map (finding t.tolerance t.points) t.polygons)) ≡ none
  no_rows = rows_sound 0 (map (finding t.tolerance t.points) t.polygons) (to_map (finding t.tolerance t.points) (λ f. f ≡ Sound) t.polygons each)

  -- "Only if none has one are these tried"
  pub then_shape : verdict t ≡ first Accepted (shape_fault (shape t.polygons) ∷ given (le_z (six_volume_of t) (pos 0)) Inward ∷ [])
  unfolding verdict lowest_fault numbered rows findings first
  then_shape = rw no_rows

  failing : (s : Shape) → shape t.polygons ≡ s → ltb 0 (shape_number_of s) ≡ true → verdict t ≡ Unsound s
  unfolding first given shape_fault
  failing s e f = then_shape ∙ (rw (e, f))

  module _ (ps : List Polygon) (all : t.polygons ≡ ps) where
    pub named-07 : ltb (length ps) 4 ≡ true → verdict t ≡ Unsound (Few (length ps))
    unfolding shape first given shape_number_of
    named-07 h = failing (Few (length ps)) (rw (all, h)) refl

    module _ (not_07 : ltb (length ps) 4 ≡ false) where
      pub named-08 : (e : ℕ) → used_once (all_rings ps) ≡ some e → verdict t ≡ Unsound (Once (smaller e) (larger e))
      unfolding shape first given shape_number_of by_ends
      named-08 e h = failing (Once (smaller e) (larger e)) (rw (all, not_07, h)) refl

      module _ (not_08 : used_once (all_rings ps) ≡ none) where
        pub named-09 : (e : ℕ) → used_often (all_rings ps) ≡ some e → verdict t ≡ Unsound (Often (smaller e) (larger e))
        unfolding shape first given shape_number_of by_ends
        named-09 e h = failing (Often (smaller e) (larger e)) (rw (all, not_07, not_08, h)) refl

        module _ (not_09 : used_often (all_rings ps) ≡ none) where
          pub named-0A : (e : ℕ) → used_alike (all_rings ps) ≡ some e → verdict t ≡ Unsound (Alike (smaller e) (larger e))
          unfolding shape first given shape_number_of by_ends
          named-0A e h = failing (Alike (smaller e) (larger e)) (rw (all, not_07, not_08, not_09, h)) refl

          module _ (not_0A : used_alike (all_rings ps) ≡ none) where
            pub named-0B : (p : ℕ) → not_reached ps ≡ some p → verdict t ≡ Unsound (Apart p)
            unfolding shape first given shape_number_of by_ends
            named-0B p h = failing (Apart p) (rw (all, not_07, not_08, not_09, not_0A, h)) refl

            module _ (not_0B : not_reached ps ≡ none) where
              pub named-0C : (v : ℕ) → not_linked ps ≡ some v → verdict t ≡ Unsound (Unlinked v)
              unfolding shape first given shape_number_of by_ends
              named-0C v h = failing (Unlinked v) (rw (all, not_07, not_08, not_09, not_0A, not_0B, h)) refl

              pub named-0D : not_linked ps ≡ none → le_z (six_volume_of t) (pos 0) ≡ true → verdict t ≡ Inward
              unfolding shape first given shape_number_of shape_fault by_ends
              named-0D h v = then_shape ∙ (rw (v, all, not_07, not_08, not_09, not_0A, not_0B, h))
