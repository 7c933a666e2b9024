-- The span from an accepted end of load until the next accepted begin: its corrections, and the corrected tables.
use Rattle.std.specs.Prelude.{ℕ, ◌≡◌, Bool, true, false, ◌&&◌, List, [], ◌∷◌, ◌++◌, get_or, ℤ}
use Rattle.frame.specs.Frame.{Frame, begin, point, polygon, end_of_load, move, turn, question, across, broken, decode}
use Rattle.answer.specs.Answer.{told}
use Rattle.ring.specs.Polygon.{one}
use Rattle.polygon.specs.Ring.{finding_number_of, finding_position_of}
use Rattle.inner.specs.Finding.{finding, part}
use Rattle.building.specs.Corrections.{Correction, corrected}
use Rattle.building.specs.Tables.{Tables, loaded}
use Rattle.service.specs.Service.{State, step, accepts, nothing, holding, tables_of}
use Rattle.service.specs.Stream.{after}
use Rattle.building.specs.Corrections as C

-- whether a frame is a begin
unfoldable pub is_begin : Frame → Bool
is_begin (begin t) = true
is_begin (point x y z) = false
is_begin (polygon ring) = false
is_begin end_of_load = false
is_begin (move number n x y z) = false
is_begin (turn number n) = false
is_begin (question n) = false
is_begin (across m n) = false
is_begin broken = false

-- no line of some is an accepted begin
unfoldable pub NoBegin : State → List (List ℕ) → Type 0
NoBegin st [] = Unit {0}
NoBegin st (l ∷ ls) = ((accepts st l && is_begin (decode l)) ≡ false) × NoBegin (step st l).next ls

-- a history, and the correction of an accepted frame put to it
unfoldable pub recorded : Frame → List Correction → List Correction
recorded (begin t) h = h
recorded (point x y z) h = h
recorded (polygon ring) h = h
recorded end_of_load h = h
recorded (move number n x y z) h = C.move number n (record { x = x; y = y; z = z }) ∷ h
recorded (turn number n) h = C.turn number n ∷ h
recorded (question n) h = h
recorded (across m n) h = h
recorded broken h = h

-- the corrections accepted among some lines, put to a history
unfoldable pub history : State → List (List ℕ) → List Correction → List Correction
history st [] h = h
history st (l ∷ ls) h = history (step st l).next ls (elim (accepts st l) [ true ↦ recorded (decode l) h | false ↦ h ])

-- the tables that a load of these lines has brought about
unfoldable pub loaded_by : List (List ℕ) → Tables
loaded_by before = tables_of (after nothing before)

-- "From an accepted end of load until the next accepted begin": the lines before, the end of load, and the lines since
pub record Span (before : List (List ℕ)) (end : List ℕ) (since : List (List ℕ)) : Type 0 where
  pub ends : decode end ≡ end_of_load
  pub accepted : accepts (after nothing before) end ≡ true
  pub no_begin : NoBegin (holding (loaded (loaded_by before))) since

-- the corrections accepted in the span, the last one first
unfoldable pub corrections_of : List (List ℕ) → List (List ℕ) → List Correction
corrections_of before since = history (holding (loaded (loaded_by before))) since []

-- "the corrected tables"
unfoldable pub corrected_by : List (List ℕ) → List (List ℕ) → Tables
corrected_by before since = corrected (loaded_by before) (corrections_of before since)

-- what is held in the span
unfoldable pub held : (before : List (List ℕ)) (end : List ℕ) (since : List (List ℕ)) → State
held before end since = after nothing (before ++ end ∷ since)

-- ---- the frames of a span

-- whether a frame is a correction
unfoldable pub is_correction : Frame → Bool
is_correction (begin t) = false
is_correction (point x y z) = false
is_correction (polygon ring) = false
is_correction end_of_load = false
is_correction (move number n x y z) = true
is_correction (turn number n) = true
is_correction (question n) = false
is_correction (across m n) = false
is_correction broken = false

-- a frame is a correction of that number
pub data Numbered : Frame → ℕ → Type 0 where
  a_move : {number n : ℕ} {x y z : ℤ} → Numbered (move number n x y z) number
  a_turn : {number n : ℕ} → Numbered (turn number n) number

-- what is answered about polygon n of tables, with that stamp
abbrev pub told_in : Tables → ℕ → ℕ → List ℕ
told_in t n stamp =
    let p = get_or t.polygons n (one []) in
    let f = finding t.tolerance t.points p in
    told (finding_number_of f) (finding_position_of f) stamp (part t.points p)

-- two answers about a polygon that agree in its finding, the position and its part
pub record SameButStamp (answer fresh : List ℕ) : Type 0 where
  pub found : ℕ
  pub position : ℕ
  pub stamp : ℕ
  pub part_is : ℤ
  pub here : answer ≡ told found position stamp part_is
  pub there : fresh ≡ told found position 0 part_is
