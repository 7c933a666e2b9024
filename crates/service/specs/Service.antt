-- The service: one frame at a time, refused by the first row of the table that holds, or accepted.
use Rattle.std.specs.Prelude.{ℕ, ◌+◌, Bool, true, false, not, ◌||◌, List, [], ◌∷◌, eqb, leb, ltb, length, get_or}
use Rattle.std.proofs.Math.Option.{Option, none, some}
use Rattle.whole.specs.Lists.{given, first_given, any}
use Rattle.frame.specs.Frame.{Frame, begin, point, polygon, end_of_load, move, turn, question, across, broken, decode}
use Rattle.answer.specs.Answer.{plain, reported, told}
use Rattle.ring.specs.Polygon.{one}
use Rattle.polygon.specs.Ring.{finding_number_of, finding_position_of}
use Rattle.inner.specs.Finding.{finding, part}
use Rattle.places.specs.Points.{is_far_of, stands, stands_else_of}
use Rattle.building.specs.Tables.{Tables, Building, begun, with_point, with_polygon, entries, loaded, moved, turned}
use Rattle.building.specs.Report.{report, check_number_of, element_a_of, element_b_of}
use Rattle.service.specs.declared.Refusal.{Refusal}
use Rattle.service.specs.declared.Refusal.TheVariants.{Malformed, Misplaced, Beyond, Full, Absent, Taken, Late}
use Rattle.answer.specs.Answer as Answer
use Rattle.users.specs.EdgeList as EdgeList

-- "Each call starts with no load running and no building held"
pub data State : Type 0 where
  nothing : State
  loading : Tables → State
  holding : Building → State

-- the column No.
unfoldable pub row_number_of : Refusal → ℕ
row_number_of Malformed = 1
row_number_of Misplaced = 2
row_number_of Beyond = 3
row_number_of Full = 4
row_number_of Absent = 5
row_number_of Taken = 6
row_number_of Late = 7

-- the number that is answered: `00` where no row refuses
unfoldable pub refusal_number_of : Option Refusal → ℕ
refusal_number_of none = 0
refusal_number_of (some r) = row_number_of r

-- ---- what is held

-- the tables of a load that runs or of the building held; none where nothing is held, and then no row asks for them
unfoldable pub tables_of : State → Tables
tables_of nothing = begun 0
tables_of (loading t) = t
tables_of (holding b) = b.tables

-- the building held; rows that need one are tested only where one is held
unfoldable pub building_of : State → Building
building_of nothing = loaded (begun 0)
building_of (loading t) = loaded t
building_of (holding b) = b

-- "while a load is running"
unfoldable pub is_loading_of : State → Bool
is_loading_of nothing = false
is_loading_of (loading t) = true
is_loading_of (holding b) = false

-- "while a building is held"
unfoldable pub is_holding_of : State → Bool
is_holding_of nothing = false
is_holding_of (loading t) = false
is_holding_of (holding b) = true

-- ---- the rows of the table of refusals, in the order of testing

-- 01: "a character, kind or length that the frame table doesn't have"
unfoldable pub is_malformed : Frame → Bool
is_malformed (begin t) = false
is_malformed (point x y z) = false
is_malformed (polygon ring) = false
is_malformed end_of_load = false
is_malformed (move number n x y z) = false
is_malformed (turn number n) = false
is_malformed (question n) = false
is_malformed (across m n) = false
is_malformed broken = true

-- 02: "02, 03 or 04 while no load is running; 05, 06 or 07 while no building is held"; document 02 (xiii): "02 with no building held"
unfoldable pub is_misplaced_of : State → Frame → Bool
is_misplaced_of st (begin t) = false
is_misplaced_of st (point x y z) = not (is_loading_of st)
is_misplaced_of st (polygon ring) = not (is_loading_of st)
is_misplaced_of st end_of_load = not (is_loading_of st)
is_misplaced_of st (move number n x y z) = not (is_holding_of st)
is_misplaced_of st (turn number n) = not (is_holding_of st)
is_misplaced_of st (question n) = not (is_holding_of st)
is_misplaced_of st (across m n) = not (is_holding_of st)
is_misplaced_of st broken = false

-- 07: "correction number not above the last accepted one (0 is always late)"
unfoldable pub is_late : Building → Frame → Bool
is_late b (begin t) = false
is_late b (point x y z) = false
is_late b (polygon ring) = false
is_late b end_of_load = false
is_late b (move number n x y z) = leb number b.last
is_late b (turn number n) = leb number b.last
is_late b (question n) = false
is_late b (across m n) = false
is_late b broken = false

-- 05: "a point or polygon number not below the present count"; document 02 (xiii): "05 for an unknown point; two equal numbers also 05"
unfoldable pub is_absent : Tables → Frame → Bool
is_absent t (begin tolerance) = false
is_absent t (point x y z) = false
is_absent t (polygon ring) = any (leb (length t.points)) ring
is_absent t end_of_load = false
is_absent t (move number n x y z) = leb (length t.points) n
is_absent t (turn number n) = leb (length t.polygons) n
is_absent t (question n) = leb (length t.polygons) n
is_absent t (across m n) = leb (length t.points) m || leb (length t.points) n || eqb m n
is_absent t broken = false

-- 03: "tolerance or coordinate beyond its bound"
unfoldable pub is_beyond_of : Frame → Bool
is_beyond_of (begin tolerance) = ltb 1000 tolerance
is_beyond_of (point x y z) = is_far_of (record { x = x; y = y; z = z })
is_beyond_of (polygon ring) = false
is_beyond_of end_of_load = false
is_beyond_of (move number n x y z) = is_far_of (record { x = x; y = y; z = z })
is_beyond_of (turn number n) = false
is_beyond_of (question n) = false
is_beyond_of (across m n) = false
is_beyond_of broken = false

-- 04: "the 513th point, the 257th polygon, or entries above 1,024 in all"
unfoldable pub is_full : Tables → Frame → Bool
is_full t (begin tolerance) = false
is_full t (point x y z) = leb 512 (length t.points)
is_full t (polygon ring) = leb 256 (length t.polygons) || ltb 1024 (entries t.polygons + length ring)
is_full t end_of_load = false
is_full t (move number n x y z) = false
is_full t (turn number n) = false
is_full t (question n) = false
is_full t (across m n) = false
is_full t broken = false

-- 06: "the place is that of another point"
unfoldable pub is_taken : Tables → Frame → Bool
is_taken t (begin tolerance) = false
is_taken t (point x y z) = stands (record { x = x; y = y; z = z }) t.points
is_taken t (polygon ring) = false
is_taken t end_of_load = false
is_taken t (move number n x y z) = stands_else_of n (record { x = x; y = y; z = z }) t.points
is_taken t (turn number n) = false
is_taken t (question n) = false
is_taken t (across m n) = false
is_taken t broken = false

-- "Given exactly when, no earlier test having refused"; "The rows stand in the order of testing."
unfoldable pub refusal : State → Frame → Option Refusal
refusal st f =
    first_given
    (given (is_malformed f) Malformed ∷
    given (is_misplaced_of st f) Misplaced ∷
    given (is_late (building_of st) f) Late ∷
    given (is_absent (tables_of st) f) Absent ∷
    given (is_beyond_of f) Beyond ∷
    given (is_full (tables_of st) f) Full ∷
    given (is_taken (tables_of st) f) Taken ∷
    [])

-- ---- what an accepted frame does

-- "Accepted begin drops all that was held and starts a load; it is allowed at any time"; the others as their rows say
unfoldable pub takes : State → Frame → State
takes st (begin tolerance) = loading (begun tolerance)
takes st (point x y z) = loading (with_point (record { x = x; y = y; z = z }) (tables_of st))
takes st (polygon ring) = loading (with_polygon ring (tables_of st))
takes st end_of_load = holding (loaded (tables_of st))
takes st (move number n x y z) = holding (moved number n (record { x = x; y = y; z = z }) (building_of st))
takes st (turn number n) = holding (turned number n (building_of st))
takes st (question n) = st
takes st (across m n) = st
takes st broken = st

-- the report as it is answered
unfoldable pub report_of : Tables → List ℕ
report_of t =
    let r = report t in
    reported (check_number_of r.check) (element_a_of r.check) (element_b_of r.check) r.faults r.volume

-- a polygon's finding with its position, its stamp and its part, as they are answered
unfoldable pub told_of : ℕ → Building → List ℕ
told_of n b =
    let t = b.tables in
    let p = get_or t.polygons n (one []) in
    let f = finding t.tolerance t.points p in
    told (finding_number_of f) (finding_position_of f) (get_or b.stamps n 0) (part t.points p)

-- what the list of edges tells of two points, as it is answered
unfoldable pub across_of : ℕ → ℕ → Tables → List ℕ
across_of m n t =
    let e = EdgeList.across m n t.polygons in
    Answer.across e.users e.lowest e.second

-- what is answered to an accepted frame, of what is held after it
unfoldable pub answer_to : Frame → State → List ℕ
answer_to (begin tolerance) st = plain 0
answer_to (point x y z) st = plain 0
answer_to (polygon ring) st = plain 0
answer_to end_of_load st = report_of (tables_of st)
answer_to (move number n x y z) st = report_of (tables_of st)
answer_to (turn number n) st = report_of (tables_of st)
answer_to (question n) st = told_of n (building_of st)
answer_to (across m n) st = across_of m n (tables_of st)
answer_to broken st = plain 0

-- ---- one line

-- what a line leaves held, and its answer
pub record Outcome : Type 0 where
  pub next : State
  pub answer : List ℕ

-- "Refused: the two digits below, and nothing held changes."
abbrev pub refused : Refusal → State → Outcome
refused r st = record { next = st; answer = plain (row_number_of r) }

-- accepted or refused
unfoldable pub outcome : Option Refusal → State → Frame → Outcome
outcome none st f = record { next = takes st f; answer = answer_to f (takes st f) }
outcome (some r) st f = refused r st

-- a line is one frame or broken, and is answered
unfoldable pub step : State → List ℕ → Outcome
step st l = let f = decode l in outcome (refusal st f) st f

-- whether no row refuses
unfoldable pub is_accepted_of : Option Refusal → Bool
is_accepted_of none = true
is_accepted_of (some r) = false

-- whether a line is accepted in a state
unfoldable pub accepts : State → List ℕ → Bool
accepts st l = is_accepted_of (refusal st (decode l))

unfoldable pub service_computes : Unit {0}
unfolding row_number_of refusal_number_of tables_of building_of is_loading_of is_holding_of is_malformed is_misplaced_of is_late is_absent is_beyond_of is_full is_taken refusal takes report_of told_of across_of answer_to outcome step
service_computes = tt
