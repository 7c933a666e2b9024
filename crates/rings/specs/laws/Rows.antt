-- Why the code refuses a polygon more.
use Rattle.std.specs.Prelude.{ℕ, ◌+◌, ◌≤◌, ◌<◌, ◌≡◌, true, false, ◌||◌, List, [], ◌∷◌, leb, ltb, get_or, Ok, Err}
use Rattle.std.proofs.Math.Option.{Option}
use Rattle.std.proofs.Math.Path.{refl}
use Rattle.std.proofs.Common.{ap, ◌∙◌}
use borrow.Author.Tests.{le-leb, lt-leb, lt-ltb, le-ltb}
use Rattle.std.proofs.Math.ListN.{length}
use Rattle.whole.specs.Lists.{given, first_given, any}
use Rattle.frame.specs.Frame.{polygon}
use Rattle.building.specs.Tables.{entries}
use Rattle.building.specs.declared.Arrays.{Arrays}
use Rattle.building.specs.laws.Load.{tables-points, tables-polygons, tables-entries}
use Rattle.service.specs.declared.Refusal.{Refusal}
use Rattle.service.specs.declared.Refusal.TheVariants.{Misplaced, Full, Absent}
use Rattle.service.specs.Service.{State, is_malformed, is_misplaced_of, refusal}
use Rattle.service.proofs.laws.Handlers.{of_polygon_lem}
use Rattle.desk.specs.declared.Desk.{Desk}
use Rattle.modes.specs.held.Mode.{loads}
use Rattle.desk.specs.held.Holds.{service, Valid}
use Rattle.desk.specs.laws.Rows.{tables, service-loads, not_loading}
use Rattle.rings.specs.held.Rings.{PolygonRow}

module _ (starts firsts : List ℕ) (d : Desk) (ring : List ℕ) where
  pub polygon-misplaced : loads d.mode ≡ false → PolygonRow starts firsts d ring (Err Misplaced)
  unfolding is_malformed is_misplaced_of
  polygon-misplaced e = not_loading refl (λ st. refl) e

  module _ (l : loads d.mode ≡ true) where
    polygon-rows : (a : Arrays) → (a.rings.starts ≡ starts) × (a.rings.firsts ≡ firsts) → Valid a d
        → refusal (service a d) (polygon ring) ≡ first_given (given (any (leb d.held.points) ring) Absent ∷ given (leb 256 d.held.polygons || ltb 1024 (get_or starts (get_or firsts d.held.polygons 0) 0 + length ring)) Full ∷ [])
    polygon-rows a s v =
        let rows : ℕ → ℕ → ℕ → Option Refusal = λ p n e. first_given (given (any (leb p) ring) Absent ∷ given (leb 256 n || ltb 1024 (e + length ring)) Full ∷ []) in
        let p : length (tables a d).points ≡ d.held.points = tables-points v.loaded in
        let n : length (tables a d).polygons ≡ d.held.polygons = tables-polygons v.loaded in
        let e : entries (tables a d).polygons ≡ get_or starts (get_or firsts d.held.polygons 0) 0 = tables-entries v.loaded ∙ (λ i. get_or (s.0 i) (get_or (s.1 i) d.held.polygons 0) 0) in
        ap (λ (st : State). refusal st (polygon ring)) (service-loads a d l) ∙ of_polygon_lem (tables a d) ring ∙ (λ i. rows (p i) (n i) (e i))

    pub polygon-absent : any (leb d.held.points) ring ≡ true → PolygonRow starts firsts d ring (Err Absent)
    unfolding first_given given
    polygon-absent e = record { is = λ a s v. polygon-rows a s v ∙ (rw e) }

    module _ (known : any (leb d.held.points) ring ≡ false) where
      pub polygon-many : 256 ≤ d.held.polygons → PolygonRow starts firsts d ring (Err Full)
      unfolding first_given given
      polygon-many h = record { is = λ a s v. polygon-rows a s v ∙ (rw (known, le-leb 256 d.held.polygons h)) }

      module _ (few : d.held.polygons < 256) where
        pub polygon-full : 1024 < get_or starts (get_or firsts d.held.polygons 0) 0 + length ring → PolygonRow starts firsts d ring (Err Full)
        unfolding first_given given
        polygon-full h = record { is = λ a s v. polygon-rows a s v ∙ (rw (known, lt-leb 256 d.held.polygons few, lt-ltb 1024 (get_or starts (get_or firsts d.held.polygons 0) 0 + length ring) h)) }

        pub polygon-accepted : get_or starts (get_or firsts d.held.polygons 0) 0 + length ring ≤ 1024 → PolygonRow starts firsts d ring (Ok tt)
        unfolding first_given given
        polygon-accepted h =
            record {
              is = λ a s v. polygon-rows a s v ∙ (rw (known, lt-leb 256 d.held.polygons few, le-ltb 1024 (get_or starts (get_or firsts d.held.polygons 0) 0 + length ring) h));
              fit = (few, h);
            }
