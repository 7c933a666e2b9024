-- The stream of document 01, its examples marked P, and those of document 02.
use Rattle.std.specs.Prelude.{ℕ, map, reverse, List, [], ◌∷◌, ◌++◌, ◌≡◌, refl, ℤ, pos, negsuc}
use Rattle.whole.specs.Lists.{lists_compute}
use Rattle.frame.specs.Text.{bytes}
use Rattle.hexadecimal.specs.Hex.{hex_computes}
use Rattle.frame.specs.Frame.{frame_computes}
use Rattle.answer.specs.Answer.{answer_computes}
use Rattle.polygon.specs.declared.Finding.{Finding}
use Rattle.polygon.specs.declared.Finding.TheVariants.{Sound, Short, Unclosed, Repeated, NoNormal, Crossed, Uneven}
use Rattle.space.specs.Space.{Point, space_computes}
use Rattle.ring.specs.Polygon.{Polygon, one, turned_over, polygon_computes}
use Rattle.polygon.specs.Ring.{ring_computes}
use Rattle.rays.specs.Inside.{inside_computes}
use Rattle.holes.specs.Holes.{holes_compute}
use Rattle.inner.specs.Finding.{finding, part, inner_computes}
use Rattle.plane.specs.Plane.{plane_computes}
use Rattle.shell.specs.declared.Shape.TheVariants.{Few}
use Rattle.edges.specs.Edges.{edges_compute}
use Rattle.users.specs.EdgeList.{edge_list_computes}
use Rattle.reach.specs.Reach.{reach_computes}
use Rattle.shell.specs.Shell.{shell_computes}
use Rattle.places.specs.Points.{points_compute}
use Rattle.building.specs.declared.Verdict.{Verdict}
use Rattle.building.specs.declared.Verdict.TheVariants.{Accepted, Faulty, Unsound, Inward}
use Rattle.building.specs.Tables.{Tables, tables_compute}
use Rattle.building.specs.Report.{Report, report, report_computes}
use Rattle.service.specs.Service.{service_computes}
use Rattle.service.specs.Stream.{stream_computes, answers}
use Rattle.lines.specs.Lines as L

unfoldable pub everything_computes : Unit {0}
unfolding lists_compute bytes hex_computes L.lines_compute frame_computes answer_computes space_computes plane_computes polygon_computes ring_computes inside_computes holes_compute inner_computes edges_compute edge_list_computes reach_computes shell_computes points_compute tables_compute report_computes service_computes stream_computes
everything_computes = tt

-- "One stream in full": "Input to `framecheck`"
abbrev pub input : List ℕ
unfolding bytes
input = bytes "010000\n02000000000000000000000000\n02000003E80000000000000000\n0200000000000003E800000000\n020000000000000000000003E8\n030000000200010000\n030000000100030000\n030000000300020000\n030001000200030001\n04\n050000000500030000000000000000000007D0\n050000000400030000000000000000000003E8\n070000\n070003\n06000000060003\n"

-- "Output: nine lines `00`, then"
abbrev pub output : List ℕ
unfolding bytes
output = bytes "00\n00\n00\n00\n00\n00\n00\n00\n00\n0000000000000000000000003B9ACA00\n00000000000000000000000077359400\n07\n00000000000000000000000000000000\n00000000000000050000000077359400\n000A000100020000FFFFFFFF88CA6C00\n"

pub worked_stream : answers input ≡ output
unfolding everything_computes
worked_stream = refl

-- a stream of document 02 (iii): the bow tie's edges 0 and 2 cross; turned, those are its edges 3 and 1
abbrev pub turned_input : List ℕ
unfolding bytes
turned_input = bytes "010000\n02000000000000000000000000\n02000003E8000003E800000000\n02000003E80000000000000000\n0200000000000007D000000000\n0300000001000200030000\n04\n070000\n06000000010000\n070000\n"

abbrev pub turned_output : List ℕ
unfolding bytes
turned_output = bytes "00\n00\n00\n00\n00\n00\n00050000000000010000000000000000\n00050000000000000000000000000000\n00050000000100010000000000000000\n00050001000000010000000000000000\n"

pub turned_stream : answers turned_input ≡ turned_output
unfolding everything_computes
turned_stream = refl

-- document 02 (xiii): the worked stream goes on, and polygons 0 and 3 are across the edge from point 1 to point 2, though 3 is turned
pub across_stream : answers (input ++ bytes "0C00010002\n") ≡ output ++ bytes "00000200000003\n"
unfolding everything_computes
across_stream = refl

-- polygon 0 goes from point 0 to point 1 and back; polygon 1 stays at 0, goes on to 1 and 2, and is open. So the edge of 0 and 1 is used twice by 0
-- and once by 1, that of 1 and 2 once, and 0 and 2 share none. Refused: 0C before and in the load, equal numbers, an unknown point.
abbrev pub shared_input : List ℕ
unfolding bytes
shared_input = bytes "0C00000001\n010000\n02000000000000000000000000\n02000003E80000000000000000\n0200000000000003E800000000\n03000000010000\n030000000000010002\n0C00000001\n04\n0C00000001\n0C00010000\n0C00020001\n0C00000002\n0C00010001\n0C00020003\n06000000010001\n0C00000001\n"

abbrev pub shared_output : List ℕ
unfolding bytes
shared_output = bytes "02\n00\n00\n00\n00\n00\n00\n02\n00010000000000020000000000000000\n00000300000000\n00000300000000\n0000010001FFFF\n000000FFFFFFFF\n05\n05\n00010000000000020000000000000000\n00000300000000\n"

pub shared_stream : answers shared_input ≡ shared_output
unfolding everything_computes
shared_stream = refl

-- ---- "Examples at the edges"

abbrev pub place : ℤ → ℤ → ℤ → Point
place x y z = record { x = x; y = y; z = z }

-- n millimetres
abbrev pub mm : ℕ → ℤ
mm n = pos n

-- a ring of the points 0 to 3, closed
abbrev pub four : List ℕ
four = 0 ∷ 1 ∷ 2 ∷ 3 ∷ 0 ∷ []

-- "(0,0,0), (1000,0,0), (1000,1000,0), (0,1000,h)"
abbrev pub tilted : ℕ → List Point
tilted h = place (mm 0) (mm 0) (mm 0) ∷ place (mm 1000) (mm 0) (mm 0) ∷ place (mm 1000) (mm 1000) (mm 0) ∷ place (mm 0) (mm 1000) (mm h) ∷ []

-- "(0,0,0), (1000,0,1000), (1000,1000,1000), (0,1000,21)"
abbrev pub steep : List Point
steep = place (mm 0) (mm 0) (mm 0) ∷ place (mm 1000) (mm 0) (mm 1000) ∷ place (mm 1000) (mm 1000) (mm 1000) ∷ place (mm 0) (mm 1000) (mm 21) ∷ []

-- "(0,0), (1000,1000), (1000,0)", and a last corner at (0,h)
abbrev pub bow_tie : ℕ → List Point
bow_tie h = place (mm 0) (mm 0) (mm 0) ∷ place (mm 1000) (mm 1000) (mm 0) ∷ place (mm 1000) (mm 0) (mm 0) ∷ place (mm 0) (mm h) (mm 0) ∷ []

abbrev pub corners : List Point
corners = place (mm 0) (mm 0) (mm 0) ∷ place (mm 1000) (mm 0) (mm 0) ∷ place (mm 0) (mm 1000) (mm 0) ∷ place (mm 0) (mm 0) (mm 1000) ∷ []

abbrev pub three : List Polygon
three = one (0 ∷ 2 ∷ 1 ∷ 0 ∷ []) ∷ one (0 ∷ 1 ∷ 3 ∷ 0 ∷ []) ∷ one (0 ∷ 3 ∷ 2 ∷ 0 ∷ []) ∷ []

-- "the tetrahedron above before its corrections"
abbrev pub tetrahedron : List Polygon
tetrahedron = three ++ (one (1 ∷ 2 ∷ 3 ∷ 1 ∷ []) ∷ [])

abbrev pub built : List Polygon → Tables
built ps = record { tolerance = 0; points = corners; polygons = ps }

abbrev pub says : Verdict → ℤ → Report
says v volume = record { check = v; faults = 0; volume = volume }

-- the points of an open ring whose part is not negated by turning
abbrev pub uneven : List Point
uneven = place (mm 0) (mm 0) (mm 0) ∷ place (mm 1) (mm 0) (mm 5) ∷ place (mm 1) (mm 1) (mm 7) ∷ place (mm 5) (mm 9) (mm 1) ∷ []

abbrev pub unclosed : List ℕ
unclosed = 1 ∷ 2 ∷ 3 ∷ 0 ∷ []

-- an example: the finding or the part of a polygon of one ring, or a building's report
pub data Example : Type 0 where
  ring : ℕ → List Point → List ℕ → Finding → Example
  parted : List Point → List ℕ → ℤ → Example
  building : List Polygon → Report → Example

-- what an example claims
abbrev pub Claim : Example → Type 0
Claim (ring tolerance points r f) = finding tolerance points (one r) ≡ f
Claim (parted points r z) = part points (one r) ≡ z
Claim (building ps r) = report (built ps) ≡ r

-- all of a list of claims
abbrev pub All : List Example → Type 0
All [] = Unit {0}
All (e ∷ es) = Claim e × All es

-- the examples marked P, with the positions of request (iii), the ring of request (ii), rings for (iii); and an open ring, of which turning does not negate the part
abbrev pub examples : List Example
examples =
    ring 10 (tilted 20) four Sound ∷
    ring 10 (tilted 21) four (Uneven 1) ∷
    ring 10 steep four Sound ∷
    ring 0 (bow_tie 1000) four NoNormal ∷
    ring 0 (bow_tie 2000) four (Crossed 0) ∷
    ring 0 (bow_tie 2000) (reverse four) (Crossed 1) ∷
    ring 0 corners (0 ∷ 1 ∷ 2 ∷ 2 ∷ 1 ∷ 0 ∷ []) (Repeated 3) ∷
    ring 0 corners (0 ∷ 1 ∷ 2 ∷ 0 ∷ 0 ∷ []) (Repeated 3) ∷
    ring 0 corners [] Short ∷
    ring 0 corners (0 ∷ 1 ∷ 0 ∷ []) Short ∷
    ring 0 corners (0 ∷ 1 ∷ 2 ∷ 3 ∷ []) Unclosed ∷
    building tetrahedron (says Accepted (pos 1000000000)) ∷
    building (map turned_over tetrahedron) (says Inward (negsuc 999999999)) ∷
    building three (says (Unsound (Few 3)) (pos 0)) ∷
    building [] (says (Unsound (Few 0)) (pos 0)) ∷
    building (one (0 ∷ 1 ∷ 2 ∷ 1 ∷ 0 ∷ []) ∷ []) (record { check = Faulty 0 (Repeated 3); faults = 1; volume = pos 0 }) ∷
    parted uneven unclosed (negsuc 41) ∷
    parted uneven (reverse unclosed) (pos 0) ∷
    []

pub examples_hold : All examples
unfolding everything_computes
examples_hold = (refl, (refl, (refl, (refl, (refl, (refl, (refl, (refl, (refl, (refl, (refl, (refl, (refl, (refl, (refl, (refl, (refl, (refl, tt))))))))))))))))))
