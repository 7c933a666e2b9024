-- `holes::bounds::bounds_of` meets its contract. The loop: the entries passed stand in the box.
use Rattle.fan.specs.held.Fan.{spot_in}
use Rattle.holes.specs.held.Boxes.{Bounded}
use Rattle.holes.proofs.bounds.bounds_of.Given as goal

abbrev pub invariant-loop-p : goal.invariant-loop-p
invariant-loop-p l = Bounded (spot_in l.points.flat l.plane.u l.plane.v) l.ring l.p-index l.b
