-- What begin and a point more have done: what each wrote and what it holds are the outcome of its frame.
use Rattle.std.specs.Prelude.{ℕ, ◌+◌, ◌≤◌, ◌<◌, ◌≡◌, true, length, take, ℤ}
use Rattle.std.proofs.Math.Path.{refl, ap, subst}
use Rattle.std.proofs.Common.{sym, ◌∙◌, le-ltb, lt-ltb}
use mathlib.Core.List.{List}
use Rattle.std.proofs.Math.Option.{none}
use Rattle.whole.specs.Lists.{given, first_given}
use Rattle.lines.specs.Lines.{ended}
use Rattle.frame.specs.Frame.{begin, point}
use Rattle.answer.specs.Answer.{plain}
use Rattle.answer.specs.held.Wrote.{Wrote}
use Rattle.shell.specs.declared.Shape.TheVariants.{Whole}
use Rattle.places.specs.held.Places.{point3, placed}
use Rattle.taken.specs.held.Chains.{Chained, linked}
use Rattle.taken.specs.laws.Chains.{chained-none, chained_more}
use Rattle.space.specs.declared.Points.{Points}
use Rattle.building.specs.declared.Arrays.{Arrays}
use Rattle.building.specs.held.Holds.{held_tables, held_building, Loaded, Kept}
use Rattle.building.specs.laws.Load.{loaded-begun, tables-begun, loaded_point, tables_point}
use Rattle.service.specs.declared.Refusal.TheVariants.{Beyond}
use Rattle.service.specs.Service.{State, loading, tables_of, is_misplaced_of, is_beyond_of, refusal, takes, answer_to, Outcome, refused}
use Rattle.service.proofs.laws.Fresh.{Passed}
use Rattle.service.proofs.laws.Handlers.{of-begin}
use Rattle.modes.specs.declared.Mode.{Mode}
use Rattle.modes.specs.declared.Mode.TheVariants.{Nothing, Loading, Holding}
use Rattle.desk.specs.declared.Desk.{Desk}
use Rattle.modes.specs.held.Mode.{loads}
use Rattle.desk.specs.held.Holds.{state_of, service, Valid, Did, does}
use Rattle.desk.specs.laws.Rows.{tables, loads_is, service-loads}
use Rattle.desk.specs.laws.Dids.{did_refused, did_accepted, passed_row, loading_mode, not-held, loading_not_nothing}
use Rattle.load.specs.held.Load.{unchained, with_points}

-- arrays that are as they were, two of them under other names: what is held of points is told by their numbers
module _ (a : Arrays) (points : Points) (table : List ℕ) (e : a.points.flat ≡ points.flat) (f : a.table ≡ table) where
  service_points : (d : Desk) → service a d ≡ service (with_points points table a) d
  unfolding service held_building
  service_points d =
      λ i. state_of d.mode (held_tables (e i) a.rings.entries a.rings.starts a.rings.firsts d.held)
      (record { tables = held_tables (e i) a.rings.entries a.rings.starts a.rings.firsts d.held; last = d.held.last; stamps = take d.held.polygons a.stamps })

  valid_points : (d : Desk) → Valid a d → Valid (with_points points table a) d
  valid_points d v =
      record {
        loaded = subst (λ (q : List ℤ). Loaded q a.rings.entries a.rings.starts a.rings.firsts d.held) e v.loaded;
        sizes = record { stamps = v.sizes.stamps; findings = v.sizes.findings; parts = v.sizes.parts; table = subst (λ (t : List ℕ). length t ≡ 1024) f v.sizes.table; turned = v.sizes.turned };
        kept = λ q. subst (λ (t : List ℕ). Kept points.flat a.rings.entries a.rings.starts a.rings.firsts a.findings a.parts t a.turned d.held) f
            (subst (λ (p : List ℤ). Kept p a.rings.entries a.rings.starts a.rings.firsts a.findings a.parts a.table a.turned d.held) e (v.kept q));
        chained = λ q. subst (λ (t : List ℕ). Chained points.flat t d.held.points) f (subst (λ (p : List ℤ). Chained p a.table d.held.points) e (v.chained q));
        fresh = λ q. subst (λ (t : List ℕ). Chained points.flat t 0) f (subst (λ (p : List ℤ). Chained p a.table 0) e (v.fresh q));
      }

  pub did_points : (o : Outcome) (room : List ℕ) (at : ℕ) (room' : List ℕ) (d : Desk) → Did o room at a room' d → Did o room at (with_points points table a) room' d
  did_points o room at room' d h = record { valid = valid_points d h.valid; next = sym (service_points d) ∙ h.next; wrote = h.wrote; past = h.past }

-- ---- begin

module _ (a : Arrays) (d : Desk) (v : Valid a d) (tolerance : ℕ) where
  -- a load just begun
  abbrev pub begun_desk : ℕ → Desk
  begun_desk at = record { mode = Loading; held = record { tolerance = tolerance; points = 0; polygons = 0; last = 0; edges = 0; fixed = Whole; shape = Whole }; at = at }

  -- the chains of no point
  begun_chains : (m : Mode) → d.mode ≡ m → (table : List ℕ) → table ≡ unchained m a.table → Chained a.points.flat table 0
  unfolding unchained
  begun_chains Nothing q table e = subst (λ (t : List ℕ). Chained a.points.flat t 0) (sym e) (v.fresh q)
  begun_chains Loading q table e = subst (λ (t : List ℕ). Chained a.points.flat t 0) (sym e) (chained-none a.points.flat a.table v.sizes.table)
  begun_chains Holding q table e = subst (λ (t : List ℕ). Chained a.points.flat t 0) (sym e) (chained-none a.points.flat a.table v.sizes.table)

  pub did_begin : tolerance ≤ 1000 → (table : List ℕ) → table ≡ unchained d.mode a.table → (room room' : List ℕ) (at : ℕ) → Wrote (ended (plain 0)) room d.at room' at
      → Did (does (service a d) (begin tolerance)) room d.at (with_points a.points table a) room' (begun_desk at)
  unfolding first_given given takes answer_to service state_of
  did_begin h table e room room' at w =
      let ch : Chained a.points.flat table 0 = begun_chains d.mode refl table e in
      did_accepted (service a d) (begin tolerance) room room' d.at (with_points a.points table a) (begun_desk at)
      (of-begin (service a d) tolerance ∙ (rw (le-ltb 1000 tolerance h)))
      (record {
        loaded = loaded-begun a.points.flat a.rings.entries a.rings.starts a.rings.firsts tolerance 0 0 Whole Whole v.loaded.coords v.loaded.entered.size v.loaded.layout.starts_size v.loaded.layout.firsts_size v.loaded.first v.loaded.layout.begin h;
        sizes = record { stamps = v.sizes.stamps; findings = v.sizes.findings; parts = v.sizes.parts; table = ch.size; turned = v.sizes.turned };
        kept = λ q. absurd (not-held q);
        chained = λ q. ch;
        fresh = λ q. absurd (loading_not_nothing q);
      })
      (ap loading (tables-begun a.points.flat a.rings.entries a.rings.starts a.rings.firsts tolerance 0 0 Whole Whole))
      w

  pub did_begin-beyond : 1000 < tolerance → (room room' : List ℕ) (d' : Desk) → Did (refused Beyond (service a d)) room d.at a room' d' → Did (does (service a d) (begin tolerance)) room d.at a room' d'
  unfolding first_given given
  did_begin-beyond h room room' d' w = did_refused a d v (begin tolerance) Beyond room room' d' (of-begin (service a d) tolerance ∙ (rw (lt-ltb 1000 tolerance h))) w

-- ---- a point more

module _ (a : Arrays) (d : Desk) (v : Valid a d) (x y z : ℤ) (row : refusal (service a d) (point x y z) ≡ none) where
  point_passed : Passed (service a d) (point x y z)
  point_passed = passed_row (service a d) (point x y z) row

  point_loads : loads d.mode ≡ true
  unfolding is_misplaced_of service
  point_loads = loading_mode d.mode (tables a d) (held_building a d.held) point_passed.placed

  -- one point more
  abbrev pub point_desk : ℕ → Desk
  point_desk at =
      record {
        mode = Loading;
        held = record { tolerance = d.held.tolerance; points = d.held.points + 1; polygons = d.held.polygons; last = d.held.last; edges = d.held.edges; fixed = Whole; shape = Whole };
        at = at;
      }

  -- the chains with the point
  point_chains : d.held.points < 512 → (points : List ℤ) (table : List ℕ) → points ≡ placed a.points.flat d.held.points (point3 x y z) → table ≡ linked a.table d.held.points (point3 x y z)
      → Chained points table (d.held.points + 1)
  point_chains few points table e f =
      subst (λ (q : List ℤ). Chained q table (d.held.points + 1)) (sym e)
      (subst (λ (q : List ℕ). Chained (placed a.points.flat d.held.points (point3 x y z)) q (d.held.points + 1)) (sym f)
      (chained_more a.points.flat a.table d.held.points (point3 x y z) v.loaded.coords.room few (v.chained (loads_is d.mode point_loads))))

  pub did_point : d.held.points < 512 → (points : Points) (table : List ℕ) → points.flat ≡ placed a.points.flat d.held.points (point3 x y z) → table ≡ linked a.table d.held.points (point3 x y z)
      → (room room' : List ℕ) (at : ℕ) → Wrote (ended (plain 0)) room d.at room' at → Did (does (service a d) (point x y z)) room d.at (with_points points table a) room' (point_desk at)
  unfolding takes answer_to service state_of is_beyond_of tables_of
  did_point few points table e f room room' at w =
      let ch : Chained points.flat table (d.held.points + 1) = point_chains few points.flat table e f in
      did_accepted (service a d) (point x y z) room room' d.at (with_points points table a) (point_desk at) row
      (record {
        loaded = subst (λ (q : List ℤ). Loaded q a.rings.entries a.rings.starts a.rings.firsts (point_desk at).held) (sym e)
            (loaded_point v.loaded (point3 x y z) few d.held.last d.held.edges Whole Whole point_passed.within);
        sizes = record { stamps = v.sizes.stamps; findings = v.sizes.findings; parts = v.sizes.parts; table = ch.size; turned = v.sizes.turned };
        kept = λ q. absurd (not-held q);
        chained = λ q. ch;
        fresh = λ q. absurd (loading_not_nothing q);
      })
      (ap (λ (q : List ℤ). loading (held_tables q a.rings.entries a.rings.starts a.rings.firsts (point_desk at).held)) e
      ∙ ap loading (tables_point v.loaded (point3 x y z) few d.held.last d.held.edges Whole Whole)
      ∙ ap (λ (st : State). takes st (point x y z)) (sym (service-loads a d point_loads)))
      w
