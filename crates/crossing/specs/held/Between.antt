-- The edges between the places that code holds as `Columns`.
use Rattle.std.specs.Prelude.{ℕ, Bool, List, drop}
use Rattle.whole.specs.Lists.{any, numbered, tab}
use Rattle.plane.specs.Plane.{Segment}
use Rattle.plane.specs.held.Edges.{edge_at}
use Rattle.crossing.specs.Crossed.{forbidden}
use Rattle.crossing.specs.declared.Columns.{Columns}

-- edge i, also with its number, and all edges
abbrev pub segment : Columns → ℕ → Segment
segment c i = edge_at c.us.now c.vs.now i

abbrev pub edge : Columns → ℕ → ℕ × Segment
edge c i = (i, segment c i)

abbrev pub edges : Columns → List Segment
edges c = tab (segment c) c.m

-- whether edge i has in common with one from edge j on what they may not
abbrev pub clashes_from : Columns → ℕ → ℕ → Bool
clashes_from c i j = any (forbidden c.m (edge c i)) (drop j (numbered (edges c)))
