-- The report on a building's tables, and the answer about one polygon.
use Rattle.std.specs.Prelude.{ℕ, Bool, List, [], ◌∷◌, map, ltb, ℤ, pos}
use Rattle.std.proofs.Math.Option.{Option}
use Rattle.std.specs.Int.Signed.{le_z}
use Rattle.whole.specs.Lists.{given, first, first_given, tally, numbered, sum_of}
use Rattle.polygon.specs.declared.Finding.{Finding}
use Rattle.polygon.specs.Ring.{finding_number_of, finding_position_of}
use Rattle.inner.specs.Finding.{finding, part}
use Rattle.shell.specs.declared.Shape.{Shape}
use Rattle.shell.specs.Shell.{shape, shape_number_of, shape_a_of, shape_b_of}
use Rattle.building.specs.declared.Verdict.{Verdict}
use Rattle.building.specs.declared.Verdict.TheVariants.{Accepted, Faulty, Unsound, Inward}
use Rattle.building.specs.Tables.{Tables}

-- the column No. ("Check 00 with 0, 0 is acceptance.")
unfoldable pub check_number_of : Verdict → ℕ
check_number_of Accepted = 0
check_number_of (Faulty a f) = finding_number_of f
check_number_of (Unsound s) = shape_number_of s
check_number_of Inward = 13

-- "the report names the lowest such polygon as a, with its check"
unfoldable pub element_a_of : Verdict → ℕ
element_a_of Accepted = 0
element_a_of (Faulty a f) = a
element_a_of (Unsound s) = shape_a_of s
element_a_of Inward = 0

-- its second element: the larger end of an edge; document 02 (iii): "Reports show the position as element b for these checks, in place
-- of 0"; and 0 where the table names none
unfoldable pub element_b_of : Verdict → ℕ
element_b_of Accepted = 0
element_b_of (Faulty a f) = finding_position_of f
element_b_of (Unsound s) = shape_b_of s
element_b_of Inward = 0

-- "each polygon's own finding"
unfoldable pub findings : Tables → List Finding
findings t = map (finding t.tolerance t.points) t.polygons

-- whether a polygon has a finding of its own
unfoldable pub is_fault : Finding → Bool
is_fault f = ltb 0 (finding_number_of f)

-- the lowest polygon with a finding
unfoldable pub lowest_fault : List Finding → Option Verdict
lowest_fault fs = first_given (map (λ f. given (is_fault f.1) (Faulty f.0 f.1)) (numbered fs))

-- "The building's six-volume is the sum of the parts, whether it is accepted or not."
unfoldable pub six_volume_of : Tables → ℤ
six_volume_of t = sum_of (part t.points) t.polygons

-- the first of checks 07 to 0C that fails, if one does
unfoldable pub shape_fault : Shape → Option Verdict
shape_fault s = given (ltb 0 (shape_number_of s)) (Unsound s)

-- "If any polygon has a finding, .. Only if none has one are these tried, in this order", the last being "six-volume is zero or negative"
unfoldable pub verdict : Tables → Verdict
verdict t =
    first Accepted
    (lowest_fault (findings t) ∷
    shape_fault (shape t.polygons) ∷
    given (le_z (six_volume_of t) (pos 0)) Inward ∷
    [])

-- what a report tells: the check with its elements, the number of polygons with a finding, the six-volume
pub record Report : Type 0 where
  pub check : Verdict
  pub faults : ℕ
  pub volume : ℤ

-- "number of polygons with a finding of their own"
unfoldable pub report : Tables → Report
report t = record { check = verdict t; faults = tally is_fault (findings t); volume = six_volume_of t }

unfoldable pub report_computes : Unit {0}
unfolding check_number_of element_a_of element_b_of findings is_fault lowest_fault six_volume_of shape_fault verdict report
report_computes = tt
