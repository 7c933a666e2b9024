-- One ring: check 01, and what it shows, the first of checks 01 to 06 that fails, with its position.
use Rattle.std.specs.Prelude.{ℕ, Bool, List, [], ◌∷◌, ◌++◌, map, ltb, length}
use Rattle.std.proofs.Math.Option.{Option}
use Rattle.whole.specs.Lists.{given, first, steps}
use Rattle.space.specs.declared.Axis.{Axis}
use Rattle.polygon.specs.declared.Finding.{Finding}
use Rattle.polygon.specs.declared.Finding.TheVariants.{Sound, Short, Unclosed, Repeated, NoNormal, Crossed, Uneven, Shared, Misplaced}
use Rattle.space.specs.Space.{Point, places}
use Rattle.plane.specs.Plane.{largest_axis_of, drop_axis, Segment}
use Rattle.even.specs.Even.{is_uneven, uneven_at, even_computes}
use Rattle.crossing.specs.Crossed.{is_crossed, crossed_at, crossed_computes}
use Rattle.ring.specs.Entries.{is_repeated, repeated_at, is_unclosed, entries_compute}
use Rattle.normal.specs.Normal.{is_zero_of, normal, normal_computes}
use Rattle.volume.specs.Part.{part_computes}

-- the column No.
unfoldable pub finding_number_of : Finding → ℕ
finding_number_of Sound = 0
finding_number_of Short = 1
finding_number_of Unclosed = 2
finding_number_of (Repeated i) = 3
finding_number_of NoNormal = 4
finding_number_of (Crossed i) = 5
finding_number_of (Uneven i) = 6
finding_number_of Shared = 14
finding_number_of Misplaced = 15

-- document 02 (iii): "A polygon's finding shall carry a position: for 03 .. for 05 .. for 06 ..; else 0."
unfoldable pub finding_position_of : Finding → ℕ
finding_position_of Sound = 0
finding_position_of Short = 0
finding_position_of Unclosed = 0
finding_position_of (Repeated i) = i
finding_position_of NoNormal = 0
finding_position_of (Crossed i) = i
finding_position_of (Uneven i) = i
finding_position_of Shared = 0
finding_position_of Misplaced = 0

-- 01: "the ring has fewer than 4 entries"
unfoldable pub is_short : List ℕ → Bool
is_short ring = ltb (length ring) 4

-- the edges in "the plane left by dropping the axis where N is largest in size"
unfoldable pub edges_in : Axis → List Point → List Segment
edges_in axis ps = steps (map (drop_axis axis) ps)

-- checks 01 to 05 of a ring in order, with where each is met
unfoldable pub ring_rows : List Point → List ℕ → List (Option Finding)
ring_rows points ring =
    let ps = places points ring in
    let n = normal ps in
    let es = edges_in (largest_axis_of n) ps in
    given (is_short ring) Short ∷
    given (is_unclosed ring) Unclosed ∷
    given (is_repeated ring) (Repeated (repeated_at ring)) ∷
    given (is_zero_of n) NoNormal ∷
    given (is_crossed es) (Crossed (crossed_at es)) ∷
    []

-- the first of these that fails
unfoldable pub ring_finding : List Point → List ℕ → Finding
ring_finding points ring = first Sound (ring_rows points ring)

-- "A polygon's finding is the first of checks 01 to 06 that fails.", of a polygon of this one ring, with where it is met
unfoldable pub finding : ℕ → List Point → List ℕ → Finding
finding tolerance points ring =
    let ps = places points ring in
    let n = normal ps in
    first Sound (ring_rows points ring ++ given (is_uneven tolerance n ps) (Uneven (uneven_at tolerance n ps)) ∷ [])

unfoldable pub ring_computes : Unit {0}
unfolding finding_number_of finding_position_of is_short edges_in ring_rows ring_finding finding entries_compute normal_computes crossed_computes even_computes part_computes
ring_computes = tt
