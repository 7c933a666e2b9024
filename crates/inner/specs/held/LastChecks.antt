-- 06, 0E and 0F of a polygon, each with whether it fails.
use Rattle.std.specs.Prelude.{ℕ, Bool, List, [], ◌∷◌, map}
use Rattle.space.specs.Space.{Point, places}
use Rattle.plane.specs.Plane.{largest_axis_of}
use Rattle.ring.specs.Polygon.{Polygon, rings_of, entries_from}
use Rattle.normal.specs.Normal.{normal}
use Rattle.even.specs.Even.{is_uneven, uneven_at}
use Rattle.holes.specs.Holes.{seen, component, component_of, is_shared, is_misplaced_of}
use Rattle.polygon.specs.declared.Finding.{Finding}
use Rattle.polygon.specs.declared.Finding.TheVariants.{Uneven, Shared, Misplaced}

unfoldable pub last_checks : ℕ → List Point → Polygon → List (Bool × Finding)
last_checks tolerance points p =
    let n = normal (places points p.outer) in
    let axis = largest_axis_of n in
    let ps = places points (entries_from p) in
    (is_uneven tolerance n ps, Uneven (uneven_at tolerance n ps))
    ∷ (is_shared (map (seen axis points) (rings_of p)), Shared)
    ∷ (is_misplaced_of (seen axis points p.outer) (map (seen axis points) p.inner) (component axis n) (map (component_of axis points) p.inner), Misplaced)
    ∷ []
