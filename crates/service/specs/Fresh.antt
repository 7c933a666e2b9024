-- A fresh load of tables: its lines, its bytes, what it answers at its end and what is held then.
use Rattle.std.specs.Prelude.{ℕ, List, ◌∷◌, ◌++◌, map, []}
use Rattle.frame.specs.Frame.{begin, point, polygon, end_of_load}
use Rattle.frame.specs.Encode.{encode}
use Rattle.lines.specs.Lines.{joined}
use Rattle.space.specs.Space.{Point}
use Rattle.ring.specs.Polygon.{Polygon}
use Rattle.building.specs.Tables.{Tables}
use Rattle.service.specs.Service.{nothing, step, State}
use Rattle.service.specs.Stream.{after}

-- the line of a point, and of a polygon: each that is held has one ring
unfoldable pub point_line : Point → List ℕ
point_line p = encode (point p.x p.y p.z)

unfoldable pub polygon_line : Polygon → List ℕ
polygon_line p = encode (polygon p.outer)

-- begin, the points, the polygons; end of load comes last
unfoldable pub load_lines : Tables → List (List ℕ)
load_lines t = encode (begin t.tolerance) ∷ (map point_line t.points ++ map polygon_line t.polygons)

-- what a fresh load of tables answers at its end
unfoldable pub fresh_report : Tables → List ℕ
fresh_report t = (step (after nothing (load_lines t)) (encode end_of_load)).answer

-- the bytes of a fresh load: "begin with the same tolerance, the points, the polygons, end of load"
unfoldable pub fresh_stream : Tables → List ℕ
fresh_stream t = joined (load_lines t ++ (encode end_of_load ∷ []))

-- what is held once a fresh load of tables has ended
unfoldable pub fresh_held : Tables → State
fresh_held t = after nothing (load_lines t ++ (encode end_of_load ∷ []))
