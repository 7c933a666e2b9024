-- What a polygon more has done: what it wrote and what it holds are the outcome of its frame.
use Rattle.std.specs.Prelude.{ℕ, ◌+◌, ◌≤◌, ◌<◌, ◌≡◌, true, leb, get_or, set, ℤ}
use Rattle.std.proofs.Common.{sym, ◌∙◌}
use Rattle.std.proofs.Math.Path.{ap, subst}
use mathlib.Core.List.{List}
use Rattle.std.proofs.Math.ListN.{length}
use Rattle.std.proofs.lemmas.List.Edits.{sets}
use Rattle.whole.specs.Lists.{any}
use Rattle.whole.specs.All.{All}
use Rattle.lines.specs.Lines.{ended}
use Rattle.frame.specs.Frame.{polygon}
use Rattle.answer.specs.Answer.{plain}
use Rattle.answer.specs.held.Wrote.{Wrote}
use Rattle.shell.specs.declared.Shape.TheVariants.{Whole}
use Rattle.ring.specs.declared.Rings.{Rings}
use Rattle.building.specs.declared.Arrays.{Arrays}
use Rattle.building.specs.held.Holds.{held_tables, held_building, Loaded}
use Rattle.building.specs.laws.Load.{Room, tables-points, loaded-polygon, tables-polygon}
use Rattle.std.proofs.Math.Option.{none}
use Rattle.service.specs.Service.{State, loading, tables_of, is_misplaced_of, is_absent, refusal, takes, answer_to, Outcome}
use Rattle.service.proofs.laws.Fresh.{Passed, known_ring}
use Rattle.modes.specs.declared.Mode.TheVariants.{Loading}
use Rattle.desk.specs.declared.Desk.{Desk}
use Rattle.modes.specs.held.Mode.{loads}
use Rattle.desk.specs.held.Holds.{state_of, service, Valid, Did, does}
use Rattle.desk.specs.laws.Rows.{tables, loads_is, service-loads}
use Rattle.desk.specs.laws.Dids.{did_accepted, passed_row, loading_mode, not-held, loading_not_nothing}
use Rattle.building.specs.declared.Scalars.{Scalars}
use Rattle.building.specs.laws.Rings.{rings-many}
use Rattle.rings.specs.held.Rings.{with_rings, Ends}

-- where the rings of loaded tables end
pub ends_of : {points : List ℤ} {entries starts firsts : List ℕ} {s : Scalars} → Loaded points entries starts firsts s → Ends starts firsts s.polygons
ends_of ld = record { few = ld.layout.few; rings = rings-many ld; inside = ld.layout.inside }

-- arrays that are as they were, the rings under another name
pub did_rings : (o : Outcome) (room : List ℕ) (at : ℕ) (a : Arrays) (room' : List ℕ) (d : Desk) (rings : Rings) → a.rings ≡ rings → Did o room at a room' d
    → Did o room at (with_rings rings a) room' d
did_rings o room at a room' d rings e h = subst (λ (w : Arrays). Did o room at w room' d) (λ i. with_rings (e i) a) h

module _ (a : Arrays) (d : Desk) (v : Valid a d) (ring : List ℕ) (row : refusal (service a d) (polygon ring) ≡ none) where
  polygon_passed : Passed (service a d) (polygon ring)
  polygon_passed = passed_row (service a d) (polygon ring) row

  polygon-loads : loads d.mode ≡ true
  unfolding is_misplaced_of service
  polygon-loads = loading_mode d.mode (tables a d) (held_building a d.held) polygon_passed.placed

  polygon_known : All (λ (e : ℕ). e < d.held.points) ring
  unfolding is_absent tables_of
  polygon_known =
      known_ring d.held.points ring
      (ap (λ (k : ℕ). any (leb k) ring) (sym (tables-points v.loaded))
      ∙ ap (λ (st : State). any (leb (length (tables_of st).points)) ring) (sym (service-loads a d polygon-loads))
      ∙ polygon_passed.known)

  -- one polygon more
  abbrev pub polygon_desk : ℕ → Desk
  polygon_desk at =
      record {
        mode = Loading;
        held = record { tolerance = d.held.tolerance; points = d.held.points; polygons = d.held.polygons + 1; last = d.held.last; edges = d.held.edges; fixed = Whole; shape = Whole };
        at = at;
      }

  -- the number of rings, and of entries
  abbrev many : ℕ
  many = get_or a.rings.firsts d.held.polygons 0

  abbrev from : ℕ
  from = get_or a.rings.starts many 0

  space_for : d.held.polygons < 256 → from + length ring ≤ 1024 → length ring ≤ 128 → Room a.rings.entries a.rings.starts a.rings.firsts d.held ring
  space_for few space short = record { few = few; space = space; short = short; known = polygon_known }

  pub did_polygon : d.held.polygons < 256 → from + length ring ≤ 1024 → length ring ≤ 128 → (rings : Rings) → rings.entries ≡ sets a.rings.entries from ring
      → rings.starts ≡ set a.rings.starts (many + 1) (from + length ring)
      → rings.firsts ≡ set a.rings.firsts (d.held.polygons + 1) (many + 1)
      → (room room' : List ℕ) (at : ℕ) → Wrote (ended (plain 0)) room d.at room' at → Did (does (service a d) (polygon ring)) room d.at (with_rings rings a) room' (polygon_desk at)
  unfolding takes answer_to service state_of tables_of
  did_polygon few space short rings e f g room room' at w =
      did_accepted (service a d) (polygon ring) room room' d.at (with_rings rings a) (polygon_desk at) row
      (record {
        loaded = subst (λ (q : List ℕ). Loaded a.points.flat q rings.starts rings.firsts (polygon_desk at).held) (sym e)
            (subst (λ (q : List ℕ). Loaded a.points.flat (sets a.rings.entries from ring) q rings.firsts (polygon_desk at).held) (sym f)
            (subst (λ (q : List ℕ). Loaded a.points.flat (sets a.rings.entries from ring) (set a.rings.starts (many + 1) (from + length ring)) q (polygon_desk at).held) (sym g)
            (loaded-polygon v.loaded ring (space_for few space short) d.held.last d.held.edges Whole Whole)));
        sizes = record { stamps = v.sizes.stamps; findings = v.sizes.findings; parts = v.sizes.parts; table = v.sizes.table; turned = v.sizes.turned };
        kept = λ q. absurd (not-held q);
        chained = λ q. v.chained (loads_is d.mode polygon-loads);
        fresh = λ q. absurd (loading_not_nothing q);
      })
      ((λ i. loading (held_tables a.points.flat (e i) (f i) (g i) (polygon_desk at).held))
      ∙ ap loading (tables-polygon v.loaded ring (space_for few space short) d.held.last d.held.edges Whole Whole)
      ∙ ap (λ (st : State). takes st (polygon ring)) (sym (service-loads a d polygon-loads)))
      w
