-- A fresh load: the lines of a building's tables bring those tables about, and every held building's tables can be so loaded.
use Prim.Native.Nat.{ℕ, suc, ◌+◌, ◌≤◌, ◌<◌}
use native.Mathlib.Omega.{arith}
use Rattle.std.specs.Prelude.{◌≡◌, refl, Bool, true, ◌||◌, leb, ltb, ℤ, pos, negsuc, nat_abs}
use Rattle.std.proofs.Common.{sym, ◌∙◌, true≢false}
use Rattle.std.proofs.Math.Path.{ap}
use Rattle.std.proofs.Math.Bool.{false}
use Rattle.std.proofs.lemmas.Bool.{false≢true}
use mathlib.Core.List.{List, [], ◌∷◌, ◌++◌, map, append_assoc, append-nil}
use borrow.Author.Tests.{lt-leb, le-ltb, leb-false, ltb-false}
use Rattle.std.proofs.Math.ListN.{length, length-append}
use Rattle.whole.specs.Lists.{given, first_given, any}
use Rattle.whole.specs.laws.Bools.{or_left, or_right}
use Rattle.whole.specs.All.{All, none, more}
use Rattle.whole.specs.laws.Alls.{all_imp, any_none, none_any}
use Rattle.frame.specs.Frame.{Frame, begin, point, polygon, end_of_load, move, turn, question, across, broken, decode}
use Rattle.frame.specs.Encode.{encode}
use Rattle.hexadecimal.specs.laws.Back.{Fits32, above, below}
use Rattle.frame.specs.laws.RoundTrip.{decode-begin, decode_end, decode_point, decode-polygon, WellFormed, decode_well}
use Rattle.space.specs.Space.{Point}
use Rattle.places.specs.Points.{is_far_of, stands}
use Rattle.ring.specs.Polygon.{Polygon, one, entries_from}
use Rattle.ring.specs.laws.Turned.{entries-one}
use Rattle.building.specs.Tables.{Tables, Building, begun, with_point, with_polygon, entries, loaded}
use Rattle.building.specs.laws.Loadable.{Apart, Loadable, RingOver, PolygonOver, apart-stands, entries_append, loadable_begun, loadable_point, loadable_polygon, loadable_moved, loadable_turned}
use Rattle.service.specs.declared.Refusal.TheVariants.{Malformed, Misplaced, Beyond, Full, Absent, Taken, Late}
use Rattle.service.specs.Service.{State, nothing, loading, holding, tables_of, building_of, is_loading_of, is_holding_of, is_malformed, is_misplaced_of, is_late, is_absent, is_beyond_of, is_full, is_taken, refusal, takes, report_of, answer_to, Outcome, outcome, step, is_accepted_of, accepts}
use Rattle.service.proofs.laws.Refusals.{refused_keeps, accepted_keeps, accepted_line}
use Rattle.service.specs.Stream.{after}
use Rattle.service.specs.Fresh.{point_line, polygon_line, load_lines, fresh_report}
use Rattle.service.specs.Span.{is_correction}
use Rattle.std.proofs.Math.Option as O

-- ---- an accepted frame passed every test

pub record Passed (st : State) (f : Frame) : Type 0 where
  pub formed : is_malformed f ≡ false
  pub placed : is_misplaced_of st f ≡ false
  pub timely : is_late (building_of st) f ≡ false
  pub known : is_absent (tables_of st) f ≡ false
  pub within : is_beyond_of f ≡ false
  pub room : is_full (tables_of st) f ≡ false
  pub free : is_taken (tables_of st) f ≡ false

rows : (a b c d e f g : Bool)
    → is_accepted_of (first_given (given a Malformed ∷ given b Misplaced ∷ given c Late ∷ given d Absent ∷ given e Beyond ∷ given f Full ∷ given g Taken ∷ [])) ≡ true
    → (a ≡ false) × (b ≡ false) × (c ≡ false) × (d ≡ false) × (e ≡ false) × (f ≡ false) × (g ≡ false)
unfolding is_accepted_of first_given given
rows true b c d e f g h = absurd (false≢true h)
rows false true c d e f g h = absurd (false≢true h)
rows false false true d e f g h = absurd (false≢true h)
rows false false false true e f g h = absurd (false≢true h)
rows false false false false true f g h = absurd (false≢true h)
rows false false false false false true g h = absurd (false≢true h)
rows false false false false false false true h = absurd (false≢true h)
rows false false false false false false false h = (refl, refl, refl, refl, refl, refl, refl)

pub passed : (st : State) (f : Frame) → is_accepted_of (refusal st f) ≡ true → Passed st f
unfolding refusal
passed st f h =
    let r = rows (is_malformed f) (is_misplaced_of st f) (is_late (building_of st) f) (is_absent (tables_of st) f) (is_beyond_of f) (is_full (tables_of st) f) (is_taken (tables_of st) f) h in
    record { formed = r.0; placed = r.1; timely = r.2; known = r.3; within = r.4; room = r.5; free = r.6 }

pub passes : (st : State) (f : Frame) → Passed st f → refusal st f ≡ O.none
unfolding refusal first_given given
passes st f p = rw (p.formed, p.placed, p.timely, p.known, p.within, p.room, p.free)

-- ---- what is held can be loaded

pub data Sound : State → Type 0 where
  idle : Sound nothing
  load : {t : Tables} → Loadable t → Sound (loading t)
  hold : {b : Building} → Loadable b.tables → Sound (holding b)

pub known_ring : (n : ℕ) (ring : List ℕ) → any (leb n) ring ≡ false → All (λ (e : ℕ). e < n) ring
known_ring n ring e = all_imp (λ i h. leb-false n i h) (any_none (leb n) ring e)

takes_sound : (st : State) (f : Frame) → Sound st → WellFormed f → Passed st f → Sound (takes st f)
unfolding takes tables_of building_of is_misplaced_of is_loading_of is_holding_of is_absent is_beyond_of is_full is_taken loaded
takes_sound st (begin t) s w p = load (loadable_begun t (ltb-false 1000 t p.within))
takes_sound nothing (point x y z) s w p = absurd (true≢false p.placed)
takes_sound (loading t) (point x y z) (load ok) w p = load (loadable_point t ok _ p.within (leb-false 512 (length t.points) p.room) p.free)
takes_sound (holding b) (point x y z) s w p = absurd (true≢false p.placed)
takes_sound nothing (polygon ring) s w p = absurd (true≢false p.placed)
takes_sound (loading t) (polygon ring) (load ok) w p =
    load (loadable_polygon t ok ring (record { few = w; known = known_ring (length t.points) ring p.known })
    (leb-false 256 (length t.polygons) (or_left (leb 256 (length t.polygons)) (ltb 1024 (entries t.polygons + length ring)) p.room))
    (ltb-false 1024 (entries t.polygons + length ring) (or_right (leb 256 (length t.polygons)) (ltb 1024 (entries t.polygons + length ring)) p.room)))
takes_sound (holding b) (polygon ring) s w p = absurd (true≢false p.placed)
takes_sound nothing end_of_load s w p = absurd (true≢false p.placed)
takes_sound (loading t) end_of_load (load ok) w p = hold {b = loaded t} ok
takes_sound (holding b) end_of_load s w p = absurd (true≢false p.placed)
takes_sound nothing (move number n x y z) s w p = absurd (true≢false p.placed)
takes_sound (loading t) (move number n x y z) s w p = absurd (true≢false p.placed)
takes_sound (holding b) (move number n x y z) (hold ok) w p = hold (loadable_moved b ok number n _ p.within p.free)
takes_sound nothing (turn number n) s w p = absurd (true≢false p.placed)
takes_sound (loading t) (turn number n) s w p = absurd (true≢false p.placed)
takes_sound (holding b) (turn number n) (hold ok) w p = hold (loadable_turned b ok number n)
takes_sound st (question n) s w p = s
takes_sound st (across m n) s w p = s
takes_sound st broken s w p = s

-- every state that lines bring about
pub step_sound : (st : State) (l : List ℕ) → Sound st → Sound (step st l).next
step_sound st l s = go (accepts st l) refl
  where
    go : (b : Bool) → accepts st l ≡ b → Sound (step st l).next
    go true e = rw (accepted_keeps st l e) (takes_sound st (decode l) s (decode_well l) (passed st (decode l) (unfold accepts in e)))
    go false e = rw (refused_keeps st l e) s

pub after_sound : (st : State) (ls : List (List ℕ)) → Sound st → Sound (after st ls)
unfolding after
after_sound st [] s = s
after_sound st (l ∷ ls) s = after_sound (step st l).next ls (step_sound st l s)

-- ---- the lines of tables

-- a polygon of one ring lists its entries
pub entries_alone : (p : Polygon) → p.inner ≡ [] → length (entries_from p) ≡ length p.outer
unfolding one
entries_alone p a = ap (λ (q : List (List ℕ)). length (entries_from (record { outer = p.outer; inner = q }))) a ∙ ap length (entries-one p.outer)

pub after_append : (st : State) (ls ms : List (List ℕ)) → after st (ls ++ ms) ≡ after (after st ls) ms
unfolding after
after_append st [] ms = refl
after_append st (l ∷ ls) ms = after_append (step st l).next ls ms

-- a line that encodes a frame which passes is taken
step-encode : (st : State) (f : Frame) → decode (encode f) ≡ f → Passed st f → step st (encode f) ≡ record { next = takes st f; answer = answer_to f (takes st f) }
unfolding step outcome
step-encode st f d p = rw (d, passes st f p)

next-encode : (st : State) (f : Frame) → decode (encode f) ≡ f → Passed st f → (step st (encode f)).next ≡ takes st f
next-encode st f d p = ap (λ (o : Outcome). o.next) (step-encode st f d p)

fits-near : (c : ℤ) → ltb 100000 (nat_abs c) ≡ false → Fits32 c
fits-near (pos n) e = above {n = n} (omega (arith, ltb-false 100000 n e))
fits-near (negsuc n) e = below {n = n} (omega (arith, ltb-false 100000 (suc n) e))

decode-point_line : (p : Point) → is_far_of p ≡ false → decode (point_line p) ≡ point p.x p.y p.z
unfolding point_line is_far_of
decode-point_line p e =
    let a : Bool = ltb 100000 (nat_abs p.x) in
    let b : Bool = ltb 100000 (nat_abs p.y) in
    let d : Bool = ltb 100000 (nat_abs p.z) in
    let l : (a || b) ≡ false = or_left (a || b) d e in
    decode_point p.x p.y p.z (fits-near p.x (or_left a b l)) (fits-near p.y (or_right a b l)) (fits-near p.z (or_right (a || b) d e))

module _ (tolerance : ℕ) where
  -- tables in the course of a load
  abbrev partly : List Point → List Polygon → State
  partly ps qs = loading (record { tolerance = tolerance; points = ps; polygons = qs })

  point_passes : (done : List Point) (p : Point) → is_far_of p ≡ false → length done < 512 → stands p done ≡ false → Passed (partly done []) (point p.x p.y p.z)
  unfolding is_malformed is_misplaced_of is_loading_of is_late is_absent is_beyond_of is_full is_taken tables_of
  point_passes done p far few new =
      record { formed = refl; placed = refl; timely = refl; known = refl; within = far; room = lt-leb 512 (length done) few; free = new }

  point_step : (done : List Point) (p : Point) → is_far_of p ≡ false → length done < 512 → stands p done ≡ false → (step (partly done []) (point_line p)).next ≡ partly (done ++ (p ∷ [])) []
  unfolding point_line takes tables_of with_point
  point_step done p far few new = next-encode (partly done []) (point p.x p.y p.z) (decode-point_line p far) (point_passes done p far few new)

  load_points : (done rest : List Point) → All (λ (p : Point). is_far_of p ≡ false) rest → Apart (done ++ rest) → length (done ++ rest) ≤ 512
      → after (partly done []) (map point_line rest) ≡ partly (done ++ rest) []
  unfolding after
  load_points done [] none a h = rw append-nil
  load_points done (p ∷ rest) (more far near) a h =
      let m : length (done ++ p ∷ rest) ≡ length done + suc (length rest) = length-append done (p ∷ rest) in
      let few : length done < 512 = omega arith in
      let e : done ++ (p ∷ []) ++ rest ≡ done ++ p ∷ rest = append_assoc done (p ∷ []) rest in
      let s : (step (partly done []) (point_line p)).next ≡ partly (done ++ (p ∷ [])) [] = point_step done p far few (apart-stands done p rest a) in
      let ih : after (partly (done ++ (p ∷ [])) []) (map point_line rest) ≡ partly (done ++ (p ∷ []) ++ rest) [] = load_points (done ++ (p ∷ [])) rest near (rw e a) (rw e h) in
      ap (λ (st : State). after st (map point_line rest)) s ∙ ih ∙ ap (λ (ps : List Point). partly ps []) e

  known_any : (n : ℕ) (ring : List ℕ) → All (λ (e : ℕ). e < n) ring → any (leb n) ring ≡ false
  known_any n ring a = none_any (leb n) ring (all_imp (λ e h. lt-leb n e h) a)

  module _ (ps : List Point) (few-points : length ps ≤ 512) where
    polygon-passes : (done : List Polygon) (ring : List ℕ) → RingOver (length ps) ring → length done < 256 → entries done + length ring ≤ 1024 → Passed (partly ps done) (polygon ring)
    unfolding is_malformed is_misplaced_of is_loading_of is_late is_absent is_beyond_of is_full is_taken tables_of
    polygon-passes done ring r few room =
        record {
          formed = refl;
          placed = refl;
          timely = refl;
          known = known_any (length ps) ring r.known;
          within = refl;
          room = rw (lt-leb 256 (length done) few, le-ltb 1024 (entries done + length ring) room);
          free = refl;
        }

    -- a polygon of one ring is brought about by its line
    polygon-step : (done : List Polygon) (p : Polygon) → PolygonOver (length ps) p → length done < 256 → entries done + length p.outer ≤ 1024
        → (step (partly ps done) (polygon_line p)).next ≡ partly ps (done ++ (p ∷ []))
    unfolding polygon_line takes tables_of with_polygon one
    polygon-step done p r few room =
        next-encode (partly ps done) (polygon p.outer) (decode-polygon p.outer r.outer.few (all_imp (λ e h. omega arith) r.outer.known)) (polygon-passes done p.outer r.outer few room)
        ∙ ap (λ (q : List (List ℕ)). partly ps (done ++ (record { outer = p.outer; inner = q } ∷ []))) (sym r.alone)

    load-polygons : (done rest : List Polygon) → All (PolygonOver (length ps)) rest → length (done ++ rest) ≤ 256 → entries (done ++ rest) ≤ 1024
        → after (partly ps done) (map polygon_line rest) ≡ partly ps (done ++ rest)
    unfolding after entries
    load-polygons done [] none h g = rw append-nil
    load-polygons done (p ∷ rest) (more r all) h g =
        let m : length (done ++ p ∷ rest) ≡ length done + suc (length rest) = length-append done (p ∷ rest) in
        let n : entries (done ++ p ∷ rest) ≡ entries done + (length (entries_from p) + entries rest) = entries_append done (p ∷ rest) in
        let few : length done < 256 = omega arith in
        let room : entries done + length p.outer ≤ 1024 = omega (arith, entries_alone p r.alone) in
        let e : done ++ (p ∷ []) ++ rest ≡ done ++ p ∷ rest = append_assoc done (p ∷ []) rest in
        let s : (step (partly ps done) (polygon_line p)).next ≡ partly ps (done ++ (p ∷ [])) = polygon-step done p r few room in
        let ih : after (partly ps (done ++ (p ∷ []))) (map polygon_line rest) ≡ partly ps (done ++ (p ∷ []) ++ rest) = load-polygons (done ++ (p ∷ [])) rest all (rw e h) (rw e g) in
        ap (λ (st : State). after st (map polygon_line rest)) s ∙ ih ∙ ap (λ (qs : List Polygon). partly ps qs) e

-- begin is accepted in any state
begin_passes : (st : State) (t : ℕ) → t ≤ 1000 → Passed st (begin t)
unfolding is_malformed is_misplaced_of is_late is_absent is_beyond_of is_full is_taken
begin_passes st t h = record { formed = refl; placed = refl; timely = refl; known = refl; within = le-ltb 1000 t h; room = refl; free = refl }

begin-step : (st : State) (t : ℕ) → t ≤ 1000 → (step st (encode (begin t))).next ≡ loading (begun t)
unfolding takes
begin-step st t h = next-encode st (begin t) (decode-begin t (omega arith)) (begin_passes st t h)

-- the lines of loadable tables, in any state, leave a load of just these tables
pub load_brings : (st : State) (t : Tables) → Loadable t → after st (load_lines t) ≡ loading t
unfolding load_lines after begun
load_brings st t ok =
    ap (λ (s : State). after s (map point_line t.points ++ map polygon_line t.polygons)) (begin-step st t.tolerance ok.tolerant)
    ∙ after_append (partly t.tolerance [] []) (map point_line t.points) (map polygon_line t.polygons)
    ∙ ap (λ (s : State). after s (map polygon_line t.polygons)) (load_points t.tolerance [] t.points ok.near ok.apart ok.points_few)
    ∙ load-polygons t.tolerance t.points ok.points_few [] t.polygons ok.each ok.polygons_few ok.entries_few

-- end of load of it answers its report and holds it
pub end_holds : (t : Tables) → step (loading t) (encode end_of_load) ≡ record { next = holding (loaded t); answer = report_of t }
unfolding takes tables_of answer_to loaded is_malformed is_misplaced_of is_loading_of is_late is_absent is_beyond_of is_full is_taken
end_holds t =
    step-encode (loading t) end_of_load decode_end (record { formed = refl; placed = refl; timely = refl; known = refl; within = refl; room = refl; free = refl })

pub fresh_is : (t : Tables) → Loadable t → fresh_report t ≡ report_of t
unfolding fresh_report
fresh_is t ok = ap (λ (s : State). (step s (encode end_of_load)).answer) (load_brings nothing t ok) ∙ ap (λ (o : Outcome). o.answer) (end_holds t)

-- ---- corrections and questions of what is held

pub held_loadable : {b : Building} → Sound (holding b) → Loadable b.tables
held_loadable (hold ok) = ok

reports : (st : State) (f : Frame) → is_correction f ≡ true → Sound (takes st f) → answer_to f (takes st f) ≡ fresh_report (tables_of (takes st f))
unfolding is_correction takes answer_to tables_of
reports st (begin t) e s = absurd (false≢true e)
reports st (point x y z) e s = absurd (false≢true e)
reports st (polygon ring) e s = absurd (false≢true e)
reports st end_of_load e s = absurd (false≢true e)
reports st (move number n x y z) e s = sym (fresh_is _ (held_loadable s))
reports st (turn number n) e s = sym (fresh_is _ (held_loadable s))
reports st (question n) e s = absurd (false≢true e)
reports st (across m n) e s = absurd (false≢true e)
reports st broken e s = absurd (false≢true e)

-- an accepted correction answers what a fresh load of the tables after it answers at its end
pub correction_reports : (st : State) (l : List ℕ) → Sound st → accepts st l ≡ true → is_correction (decode l) ≡ true
    → (step st l).answer ≡ fresh_report (tables_of (step st l).next)
unfolding accepts
correction_reports st l s e c =
    let p : Sound (takes st (decode l)) = takes_sound st (decode l) s (decode_well l) (passed st (decode l) e) in
    rw (accepted_line st l e) (reports st (decode l) c p)
