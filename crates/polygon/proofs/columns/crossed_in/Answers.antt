-- `polygon::columns::crossed_in` meets its contract. A ring that does not fit small room has an edge.
use native.Mathlib.Omega.{arith}
use Rattle.polygon.proofs.columns.crossed_in.Goals as goal

pub crossed_many-requires : goal.crossed_many-requires
crossed_many-requires c = record { known = c.requires.known; in_bounds = (omega arith, omega (arith, c.requires.known)) }
