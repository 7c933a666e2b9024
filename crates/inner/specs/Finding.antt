-- A polygon of several rings: its finding with its position, and its part. Document 02 (iv).
use Rattle.std.specs.Prelude.{ℕ, ◌+◌, List, [], ◌∷◌, ◌++◌, map, length, ℤ}
use Rattle.std.proofs.Math.Option
use Rattle.std.proofs.Math.Option.{Option}
use Rattle.whole.specs.Lists.{given, first, sum_of}
use Rattle.space.specs.Space.{Point, places}
use Rattle.plane.specs.Plane.{largest_axis_of}
use Rattle.ring.specs.Polygon.{Polygon, rings_of, entries_from}
use Rattle.normal.specs.Normal.{normal}
use Rattle.even.specs.Even.{is_uneven, uneven_at}
use Rattle.volume.specs.Part.{part as ringPart}
use Rattle.holes.specs.Holes.{seen, component, component_of, is_shared, is_misplaced_of}
use Rattle.polygon.specs.declared.Finding.{Finding}
use Rattle.polygon.specs.declared.Finding.TheVariants.{Sound, Short, Unclosed, Repeated, NoNormal, Crossed, Uneven, Shared, Misplaced}
use Rattle.polygon.specs.Ring.{ring_rows}

-- "A position in a later ring adds the entries of all rings before it, an edge's too"
unfoldable pub later : ℕ → Finding → Finding
later before Sound = Sound
later before Short = Short
later before Unclosed = Unclosed
later before (Repeated i) = Repeated (before + i)
later before NoNormal = NoNormal
later before (Crossed i) = Crossed (before + i)
later before (Uneven i) = Uneven (before + i)
later before Shared = Shared
later before Misplaced = Misplaced

-- "Each ring is tested by 01 to 05 with its own normal, outer first, and a ring's first failure ends the search."
unfoldable pub rings_rows : List Point → ℕ → List (List ℕ) → List (Option Finding)
rings_rows points before [] = []
rings_rows points before (r ∷ rs) = map (Option.map (later before)) (ring_rows points r) ++ rings_rows points (before + length r) rs

-- the finding: 01 to 05 ring by ring; "Then 06 is taken for all points with the outer ring's normal and first point", which is the first
-- of all points; "Then, in the plane left by the outer ring's drop axis, 0E .. 0F"
unfoldable pub finding : ℕ → List Point → Polygon → Finding
finding tolerance points p =
    let n = normal (places points p.outer) in
    let axis = largest_axis_of n in
    let all = places points (entries_from p) in
    first Sound
    (rings_rows points 0 (rings_of p) ++
    given (is_uneven tolerance n all) (Uneven (uneven_at tolerance n all)) ∷
    given (is_shared (map (seen axis points) (rings_of p))) Shared ∷
    given (is_misplaced_of (seen axis points p.outer) (map (seen axis points) p.inner) (component axis n) (map (component_of axis points) p.inner)) Misplaced ∷
    [])

-- "Volume parts add up ring by ring, each from its own first point."
unfoldable pub part : List Point → Polygon → ℤ
part points p = sum_of (ringPart points) (rings_of p)

unfoldable pub inner_computes : Unit {0}
unfolding later rings_rows finding part
inner_computes = tt
