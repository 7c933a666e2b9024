-- `users::edge_of` meets its contract. The smaller number comes first.
use native.Mathlib.Omega.{arith}
use Rattle.edges.specs.Edges.{edge, way}
use Rattle.users.proofs.edge_of.Goals as goal

pub returns : goal.returns
unfolding edge way
returns c = (omega arith, omega arith)
