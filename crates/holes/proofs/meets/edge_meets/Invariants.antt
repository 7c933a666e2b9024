-- `holes::meets::edge_meets` meets its contract. The box first; then the loop: what is left of the ring tells of the whole.
use Rattle.plane.specs.Plane.{share}
use Rattle.plane.specs.held.Edges.{as_segment}
use Rattle.fan.specs.held.Fan.{spot_in}
use Rattle.holes.specs.laws.Passes.{Left}
use Rattle.holes.proofs.meets.edge_meets.Given as goal

abbrev pub invariant-loop-i : goal.invariant-loop-i
invariant-loop-i l = Left (share (as_segment l.e)) (spot_in l.points.flat l.plane.u l.plane.v) l.ring l.i
